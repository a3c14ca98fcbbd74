-- What each action does to the tree of a value.
use Rattle.std.specs.Prelude.{◌≡◌, ℕ, ◌+◌, ◌<◌, ◌≤◌, Bool, true, false, List, [], ◌∷◌, map, length, ℤ, Ok, Err, slice_index_or}
use Rattle.types.specs.declared.error.Refusal.{Refusal}
use Rattle.types.specs.declared.error.Refusal.TheVariants.{InvalidMapOp, InvalidListOp, InvalidTextOp, InvalidIndex, InvalidKey}
use Rattle.meaning.specs.Entries.{Key, Entry}
use Rattle.meaning.specs.Patches.{key, pos, Action, put_map, put_seq, insert, splice_text, increment, conflict, delete_map, delete_seq}
use Rattle.meaning.specs.Rows.{units_in, units_of_all}
use Rattle.meaning.specs.Application.{here}
use Rattle.node_chains.specs.Tree.{Tree, Forest, node, none, trees, update, splice_kids, relabel}
use Rattle.node_chains.specs.declared.node.Content.TheVariants.{Map, List as Sequence, Text}
use Rattle.node_table.specs.Kinds.{raising}
use Rattle.node_table.specs.Held.{Datum, flagged, raised, respelled}
use Rattle.node_table.specs.Values.{top, value_of, KeyAt}
use Rattle.value_tree.specs.Entries.{placed_tree, put_over, KeyGone}

-- Actions that no list takes.
abbrev pub not_for_list : {U : Type 0} → Action U → Bool
not_for_list (put_map k e) = true
not_for_list (splice_text i ys) = true
not_for_list (increment (key k) n) = true
not_for_list (conflict (key k)) = true
not_for_list (delete_map k) = true
not_for_list _ = false

-- Actions that no text takes.
abbrev pub not_for_text : {U : Type 0} → Action U → Bool
not_for_text (put_seq i e) = false
not_for_text (insert i es) = false
not_for_text (splice_text i ys) = false
not_for_text (delete_seq i n) = false
not_for_text _ = true

-- Actions that no map takes.
abbrev pub not_for_map : {U : Type 0} → Action U → Bool
not_for_map (put_seq i e) = true
not_for_map (insert i es) = true
not_for_map (splice_text i ys) = true
not_for_map (increment (pos i) n) = true
not_for_map (conflict (pos i)) = true
not_for_map (delete_seq i n) = true
not_for_map _ = false

module _ {U : Type 0} (units : List ℕ → List U) where
  -- An action on the value of a tree is the edit g of the tree.
  abbrev pub Edits : Action U → (Tree (Datum U) → Tree (Datum U)) → Tree (Datum U) → Type 0
  Edits a g t = here units a (value_of t) ≡ Ok (value_of (g t))

  -- An action on the value of a tree is refused by r.
  abbrev pub Refuses : Action U → Refusal → Tree (Datum U) → Type 0
  Refuses a r t = here units a (value_of t) ≡ Err r

-- The entry of the child at a position; x where there is none.
abbrev pub child : {U : Type 0} → Datum U → Forest (Datum U) → ℕ → Datum U
child x ts p = top (slice_index_or (trees ts) p (node x none))

-- What each action does in a list with the entry x and the children ts.
pub record ListEdits {U : Type 0} (units : List ℕ → List U) (x : Datum U) (ts : Forest (Datum U)) : Type 0 where
  pub put_at : (i : ℕ) (e : Entry) → i < length (trees ts) → Edits units (put_seq i e) (update (i ∷ []) (put_over e)) (node x ts)
  pub put_past : (i : ℕ) (e : Entry) → length (trees ts) ≤ i → Refuses units (put_seq i e) InvalidIndex (node x ts)
  pub insert_at : (i : ℕ) (es : List Entry) → i ≤ length (trees ts) → Edits units (insert i es) (splice_kids i 0 (map (placed_tree []) es)) (node x ts)
  pub insert_past : (i : ℕ) (es : List Entry) → length (trees ts) < i → Refuses units (insert i es) InvalidIndex (node x ts)
  pub delete_at : (i n : ℕ) → i + n ≤ length (trees ts) → Edits units (delete_seq i n) (splice_kids i n []) (node x ts)
  pub delete_past : (i n : ℕ) → length (trees ts) < i + n → Refuses units (delete_seq i n) InvalidIndex (node x ts)
  pub increment_at : (i : ℕ) (n : ℤ) → i < length (trees ts) → raising n (child x ts i).content ≡ Ok tt → Edits units (increment (pos i) n) (update (i ∷ []) (relabel (raised n))) (node x ts)
  pub increment_refused : (i : ℕ) (n : ℤ) (r : Refusal) → i < length (trees ts) → raising n (child x ts i).content ≡ Err r → Refuses units (increment (pos i) n) r (node x ts)
  pub increment_past : (i : ℕ) (n : ℤ) → length (trees ts) ≤ i → Refuses units (increment (pos i) n) InvalidIndex (node x ts)
  pub conflict_at : (i : ℕ) → i < length (trees ts) → Edits units (conflict (pos i)) (update (i ∷ []) (relabel flagged)) (node x ts)
  pub conflict_past : (i : ℕ) → length (trees ts) ≤ i → Refuses units (conflict (pos i)) InvalidIndex (node x ts)
  pub wrong_list : (a : Action U) → not_for_list a ≡ true → Refuses units a InvalidListOp (node x ts)

-- It is so of every list.
abbrev pub ListsAgree : Type 0 → Type 0
ListsAgree U = (units : List ℕ → List U) (x : Datum U) (ts : Forest (Datum U)) → x.content ≡ Sequence → ListEdits units x ts

-- What each action does in a text with the entry x; ts is what would stand under it.
pub record TextEdits {U : Type 0} (units : List ℕ → List U) (x : Datum U) (ts : Forest (Datum U)) : Type 0 where
  pub put_text_edit : (i : ℕ) (e : Entry) → i < length x.units → Edits units (put_seq i e) (relabel (respelled i 1 (units_in units e))) (node x ts)
  pub put_text_past : (i : ℕ) (e : Entry) → length x.units ≤ i → Refuses units (put_seq i e) InvalidIndex (node x ts)
  pub insert_text : (i : ℕ) (es : List Entry) → i ≤ length x.units → Edits units (insert i es) (relabel (respelled i 0 (units_of_all units es))) (node x ts)
  pub insert_text_past : (i : ℕ) (es : List Entry) → length x.units < i → Refuses units (insert i es) InvalidIndex (node x ts)
  pub splice_text_edit : (i : ℕ) (ys : List U) → i ≤ length x.units → Edits units (splice_text i ys) (relabel (respelled i 0 ys)) (node x ts)
  pub splice_text_past : (i : ℕ) (ys : List U) → length x.units < i → Refuses units (splice_text i ys) InvalidIndex (node x ts)
  pub delete_text : (i n : ℕ) → i + n ≤ length x.units → Edits units (delete_seq i n) (relabel (respelled i n [])) (node x ts)
  pub delete_text_past : (i n : ℕ) → length x.units < i + n → Refuses units (delete_seq i n) InvalidIndex (node x ts)
  pub wrong_text : (a : Action U) → not_for_text a ≡ true → Refuses units a InvalidTextOp (node x ts)

-- It is so of every text.
abbrev pub TextsAgree : Type 0 → Type 0
TextsAgree U = (units : List ℕ → List U) (x : Datum U) (ts : Forest (Datum U)) → x.content ≡ Text → TextEdits units x ts

-- What each action does in a map with the entry x and the children ts; p is where the key stands, or would stand.
pub record MapEdits {U : Type 0} (units : List ℕ → List U) (x : Datum U) (ts : Forest (Datum U)) : Type 0 where
  pub put_found : (k : Key) (e : Entry) (p : ℕ) → KeyAt x k p (trees ts) → Edits units (put_map k e) (update (p ∷ []) (put_over e)) (node x ts)
  pub put_gone : (k : Key) (e : Entry) (p : ℕ) → KeyGone x k p (trees ts) → Edits units (put_map k e) (splice_kids p 0 (placed_tree k e ∷ [])) (node x ts)
  pub delete_found : (k : Key) (p : ℕ) → KeyAt x k p (trees ts) → Edits units (delete_map k) (splice_kids p 1 []) (node x ts)
  pub delete_gone : (k : Key) (p : ℕ) → KeyGone x k p (trees ts) → Edits units (delete_map k) (λ t. t) (node x ts)
  pub increment_found : (k : Key) (n : ℤ) (p : ℕ) → KeyAt x k p (trees ts) → raising n (child x ts p).content ≡ Ok tt → Edits units (increment (key k) n) (update (p ∷ []) (relabel (raised n))) (node x ts)
  pub increment_refused : (k : Key) (n : ℤ) (p : ℕ) (r : Refusal) → KeyAt x k p (trees ts) → raising n (child x ts p).content ≡ Err r → Refuses units (increment (key k) n) r (node x ts)
  pub increment_gone : (k : Key) (n : ℤ) (p : ℕ) → KeyGone x k p (trees ts) → Refuses units (increment (key k) n) InvalidKey (node x ts)
  pub conflict_found : (k : Key) (p : ℕ) → KeyAt x k p (trees ts) → Edits units (conflict (key k)) (update (p ∷ []) (relabel flagged)) (node x ts)
  pub conflict_gone : (k : Key) (p : ℕ) → KeyGone x k p (trees ts) → Refuses units (conflict (key k)) InvalidKey (node x ts)
  pub wrong_map : (a : Action U) → not_for_map a ≡ true → Refuses units a InvalidMapOp (node x ts)

-- It is so of every map.
abbrev pub MapsAgree : Type 0 → Type 0
MapsAgree U = (units : List ℕ → List U) (x : Datum U) (ts : Forest (Datum U)) → x.content ≡ Map → MapEdits units x ts
