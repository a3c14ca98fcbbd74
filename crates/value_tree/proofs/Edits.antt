-- Entries that are placed, incremented and flagged, in the tree and on the screen.
use Rattle.std.proofs.Common.{◌≡◌, ℕ, ◌+◌, ◌<◌, ◌≤◌, Bool, true, false, List, [], ◌∷◌, map, length, ℤ, ◌+ℤ◌, Ok, Err, sym, refl, ap, ◌∙◌}
use lib.ListN.{length-map}
use Rattle.std.proofs.lemmas.Bool.{lt-leb}
use Rattle.types.specs.declared.error.Refusal.{Refusal}
use Rattle.types.specs.declared.error.Refusal.TheVariants.{InvalidIndex, CounterOverflow}
use Rattle.types.specs.declared.types.OpId.{OpId}
use Rattle.types.specs.declared.types.ObjType.TheVariants.{Map as MapKind, Table as TableKind, List as ListKind, Text as TextKind}
use Rattle.meaning.specs.Results.{provided, on_ok}
use Rattle.meaning.specs.Lists.{splice, edit}
use Rattle.meaning.specs.Entries.{Key, null, boolean, int, uint, timestamp, counter, str, bytes, Content, scalar_of, object_of, Entry, Item, scalar, placed_as, placed}
use Rattle.meaning.specs.Rows.{in64, raised as raised_item, flagged as flagged_item}
use Rattle.meaning.specs.Values.{Value}
use Rattle.meaning.specs.Application.{on_screen}
use Rattle.meaning.proofs.Splice.{edit_ok, map_splice}
use Rattle.meaning.proofs.Tests.{okay}
use Rattle.node_chains.specs.Tree.{Tree, node, none, relabel}
use Rattle.node_chains.specs.declared.node.Content.{Content as NodeContent}
use Rattle.node_chains.specs.declared.node.Content.TheVariants.{Map, List as Sequence, Text, Null, Boolean, Int, Uint, Timestamp, Counter, Str, Bytes}
use Rattle.node_table.specs.Kinds.{raising, raised_content}
use Rattle.node_table.specs.Held.{Datum, flagged, raised}
use Rattle.node_table.specs.Values.{item_of, top, value_of}
use Rattle.node_table.proofs.Bridges.{item_in}
use Rattle.value_tree.specs.Entries.{content_in, string_in, placed_tree, put_over}

-- an edit of images
pub edit_map : {A B : Type 0} (f : A → B) (i n : ℕ) (ys xs : List A) → i + n ≤ length xs → edit i n (map f ys) (map f xs) ≡ Ok (map f (splice i n ys xs))
edit_map f i n ys xs h = edit_ok i n (map f ys) (map f xs) (rw (length-map xs f) h) ∙ okay (sym (map_splice f i n ys xs))

pub edit_past : {A : Type 0} (i n : ℕ) (ys xs : List A) → length xs < i + n → edit i n ys xs ≡ Err InvalidIndex
edit_past i n ys xs h = ap (λ b. provided b InvalidIndex (splice i n ys xs)) (lt-leb (i + n) (length xs) h)

module _ {U : Type 0} where
  -- what is placed, with nothing under it
  item_placed : (c : Content) (d : OpId) (f : Bool) (k : Key)
      → item_in {U = U} (node (record { key = k; content = content_in c; conflict = f; string = string_in c; units = [] }) none) ≡ placed_as on_screen c d f
  item_placed (scalar_of null) d f k = refl
  item_placed (scalar_of (boolean b)) d f k = refl
  item_placed (scalar_of (int n)) d f k = refl
  item_placed (scalar_of (uint n)) d f k = refl
  item_placed (scalar_of (timestamp n)) d f k = refl
  item_placed (scalar_of (counter n)) d f k = refl
  item_placed (scalar_of (str s)) d f k = refl
  item_placed (scalar_of (bytes s)) d f k = refl
  item_placed (object_of MapKind) d f k = refl
  item_placed (object_of TableKind) d f k = refl
  item_placed (object_of ListKind) d f k = refl
  item_placed (object_of TextKind) d f k = refl

  pub item_new : (k : Key) (e : Entry) → item_in {U = U} (placed_tree k e) ≡ placed on_screen e
  item_new k e = item_placed e.content e.ident e.flag k

  pub items_new : (es : List Entry) → map (item_in {U = U}) (map (placed_tree []) es) ≡ map (placed on_screen) es
  items_new [] = refl
  items_new (e ∷ es) = let h = item_new [] e in let t = items_new es in cc

  pub item_over : (e : Entry) (t : Tree (Datum U)) → item_in (put_over e t) ≡ placed on_screen e
  item_over e (node x ts) = item_placed e.content e.ident e.flag x.key

  -- n added to a counter
  raise_provided : (b : Bool) (m : ℤ) (f : Bool)
      → on_ok {B = Item (Value U)} (λ t. scalar t f) (provided b CounterOverflow (counter m)) ≡ on_ok (λ _. scalar (counter m) f) (provided b CounterOverflow (tt {0}))
  raise_provided true m f = refl
  raise_provided false m f = refl

  raise_item : (n : ℤ) (c : NodeContent) (f : Bool) (s : List ℕ) (v w : Value U) → raised_item n (item_of c f s v) ≡ on_ok (λ _. item_of (raised_content n c) f s w) (raising n c)
  raise_item n Map f s v w = refl
  raise_item n Sequence f s v w = refl
  raise_item n Text f s v w = refl
  raise_item n Null f s v w = refl
  raise_item n (Boolean b) f s v w = refl
  raise_item n (Int x) f s v w = refl
  raise_item n (Uint x) f s v w = refl
  raise_item n (Timestamp x) f s v w = refl
  raise_item n (Counter x) f s v w = raise_provided (in64 (x +ℤ n)) (x +ℤ n) f
  raise_item n Str f s v w = refl
  raise_item n Bytes f s v w = refl

  item_raised : (n : ℤ) (t : Tree (Datum U)) → raised_item n (item_in t) ≡ on_ok (λ _. item_in (relabel (raised n) t)) (raising n (top t).content)
  item_raised n (node x ts) = raise_item n x.content x.conflict x.string (value_of (node x ts)) (value_of (node (raised n x) ts))

  pub raise_done : (n : ℤ) (t : Tree (Datum U)) → raising n (top t).content ≡ Ok tt → raised_item n (item_in t) ≡ Ok (item_in (relabel (raised n) t))
  raise_done n t h = item_raised n t ∙ ap (on_ok (λ _. item_in (relabel (raised n) t))) h

  pub raise_refused : (n : ℤ) (t : Tree (Datum U)) (r : Refusal) → raising n (top t).content ≡ Err r → raised_item n (item_in t) ≡ Err r
  raise_refused n t r h = item_raised n t ∙ ap (on_ok (λ _. item_in (relabel (raised n) t))) h

  -- the flag set
  flag_item : (c : NodeContent) (f : Bool) (s : List ℕ) (v : Value U) → flagged_item (item_of c f s v) ≡ Ok (item_of c true s v)
  flag_item Map f s v = refl
  flag_item Sequence f s v = refl
  flag_item Text f s v = refl
  flag_item Null f s v = refl
  flag_item (Boolean b) f s v = refl
  flag_item (Int n) f s v = refl
  flag_item (Uint n) f s v = refl
  flag_item (Timestamp n) f s v = refl
  flag_item (Counter n) f s v = refl
  flag_item Str f s v = refl
  flag_item Bytes f s v = refl

  pub item_flagged : (t : Tree (Datum U)) → flagged_item (item_in t) ≡ Ok (item_in (relabel flagged t))
  item_flagged (node x ts) = flag_item x.content x.conflict x.string (value_of (node x ts))
