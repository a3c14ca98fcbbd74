-- The value of a tree of entries, and edits of it.
use Rattle.std.specs.Prelude.{◌≡◌, ℕ, ◌<◌, Bool, true, false, List, [], ◌∷◌, length, Ok, Err, slice_index_or}
use Rattle.std.specs.declared.cmp.Ordering.TheVariants.{Less}
use Rattle.types.specs.declared.error.Refusal.{Refusal}
use Rattle.meaning.specs.Results.{Answer}
use Rattle.meaning.specs.Entries.{Key, compare_keys, null, boolean, int, uint, timestamp, counter, str, bytes, Item, scalar, object}
use Rattle.meaning.specs.Patches.{Prop, key, pos}
use Rattle.meaning.specs.Values.{Value, map_v, list_v, text_v, Entries, no_entry, Cells, no_cell, scalar_cell, value_cell, entry}
use Rattle.meaning.specs.Application.{at}
use Rattle.node_chains.specs.Tree.{Tree, Forest, node, none, more, trees, update}
use Rattle.node_table.specs.Held.{Datum}
use Rattle.node_chains.specs.declared.node.Content.{Content}
use Rattle.node_chains.specs.declared.node.Content.TheVariants.{Map, List as Sequence, Text, Null, Boolean, Int, Uint, Timestamp, Counter, Str, Bytes}

-- The item of an entry that holds content, with the bytes of its string; v is its value where it is a container.
abbrev pub item_of : {U : Type 0} → Content → Bool → List ℕ → Value U → Item (Value U)
item_of Null f s v = scalar null f
item_of (Boolean b) f s v = scalar (boolean b) f
item_of (Int n) f s v = scalar (int n) f
item_of (Uint n) f s v = scalar (uint n) f
item_of (Timestamp n) f s v = scalar (timestamp n) f
item_of (Counter n) f s v = scalar (counter n) f
item_of Str f s v = scalar (str s) f
item_of Bytes f s v = scalar (bytes s) f
item_of _ f s v = object v f

-- The value of a container with these units, entries and cells; a scalar has none, and an empty text stands for it.
abbrev pub container_of : {U : Type 0} → Content → List U → Entries U → Cells U → Value U
container_of Map us es cs = map_v es
container_of Sequence us es cs = list_v cs
container_of Text us es cs = text_v us
container_of _ us es cs = text_v []

-- A cell in front of others.
abbrev pub cell : {U : Type 0} → Item (Value U) → Cells U → Cells U
cell (scalar s f) cs = scalar_cell s f cs
cell (object v f) cs = value_cell v f cs

-- What stands at the root of a tree.
abbrev pub top : {D : Type 0} → Tree D → D
top (node x ts) = x

-- The value of a tree, where g says what entry stands at a node.
abbrev mutual
  pub value_as : {D U : Type 0} → Tree D → (D → Datum U) → Value U
  value_as (node x ts) g = container_of (g x).content (g x).units (entries_as ts g) (cells_as ts g)

  pub entries_as : {D U : Type 0} → Forest D → (D → Datum U) → Entries U
  entries_as none g = no_entry
  entries_as (more t ts) g = entry (g (top t)).key (item_of (g (top t)).content (g (top t)).conflict (g (top t)).string (value_as t g)) (entries_as ts g)

  pub cells_as : {D U : Type 0} → Forest D → (D → Datum U) → Cells U
  cells_as none g = no_cell
  cells_as (more t ts) g = cell (item_of (g (top t)).content (g (top t)).conflict (g (top t)).string (value_as t g)) (cells_as ts g)

abbrev pub value_of : {U : Type 0} → Tree (Datum U) → Value U
value_of t = value_as t (λ x. x)

abbrev pub entries_of : {U : Type 0} → Forest (Datum U) → Entries U
entries_of ts = entries_as ts (λ x. x)

abbrev pub cells_of : {U : Type 0} → Forest (Datum U) → Cells U
cells_of ts = cells_as ts (λ x. x)

-- The kinds of content that have a value of their own.
abbrev pub is_container : Content → Bool
is_container Map = true
is_container Sequence = true
is_container Text = true
is_container _ = false

-- Position p has the key k among trees, and none before it has.
pub record KeyAt {U : Type 0} (d : Datum U) (k : Key) (p : ℕ) (ts : List (Tree (Datum U))) : Type 0 where
  pub inside : p < length ts
  pub same : (top (slice_index_or ts p (node d none))).key ≡ k
  pub above : (q : ℕ) → q < p → compare_keys (top (slice_index_or ts q (node d none))).key k ≡ Less

-- The path of keys and positions leads by the positions ps to a container.
abbrev pub Follows : {U : Type 0} → List Prop → List ℕ → Tree (Datum U) → Type 0
Follows [] [] t = is_container (top t).content ≡ true
Follows [] (p ∷ ps) t = ⊥
Follows (s ∷ path) [] t = ⊥
Follows (key k ∷ path) (p ∷ ps) (node x ts) = (x.content ≡ Map) × KeyAt x k p (trees ts) × Follows path ps (slice_index_or (trees ts) p (node x none))
Follows (pos i ∷ path) (p ∷ ps) (node x ts) = (x.content ≡ Sequence) × ((i ≡ p) × (p < length (trees ts))) × Follows path ps (slice_index_or (trees ts) p (node x none))

-- The part that positions lead to.
abbrev pub part_at : {U : Type 0} → List ℕ → Tree (Datum U) → Tree (Datum U)
part_at [] t = t
part_at (p ∷ ps) (node x ts) = part_at ps (slice_index_or (trees ts) p (node x none))

-- An edit changes children or units, and nothing else of the entry it is for.
pub record Keeps {U : Type 0} (u : Tree (Datum U) → Tree (Datum U)) (t : Tree (Datum U)) : Type 0 where
  pub key : (top (u t)).key ≡ (top t).key
  pub content : (top (u t)).content ≡ (top t).content
  pub conflict : (top (u t)).conflict ≡ (top t).conflict

-- An edit of the tree at the end of a path is the edit of the value at that path.
abbrev pub EditsAgree : Type 0 → Type 0
EditsAgree U = (path : List Prop) (ps : List ℕ) (t : Tree (Datum U)) (f : Value U → Answer (Value U)) (u : Tree (Datum U) → Tree (Datum U))
    → Follows path ps t → Keeps u (part_at ps t) → f (value_of (part_at ps t)) ≡ Ok (value_of (u (part_at ps t))) → at path f (value_of t) ≡ Ok (value_of (update ps u t))

-- And one that is refused there is refused.
abbrev pub RefusalsAgree : Type 0 → Type 0
RefusalsAgree U = (path : List Prop) (ps : List ℕ) (t : Tree (Datum U)) (f : Value U → Answer (Value U)) (r : Refusal)
    → Follows path ps t → f (value_of (part_at ps t)) ≡ Err r → at path f (value_of t) ≡ Err r
