-- A document: objects in rising identity, each with a kind, a parent and a row; its laws and bounds; its value; the path of an object.
use Rattle.std.specs.Prelude.{◌≡◌, ℕ, zero, suc, ◌+◌, ◌<◌, ◌≤◌, Bool, true, false, cond, List, [], ◌∷◌, ◌++◌, length, ◌==◌}
use Rattle.std.specs.declared.cmp.Ordering.TheVariants.{Greater}
use Rattle.std.proofs.Math.Option.{Option, none, some, map}
use Rattle.types.specs.Limits.{limits}
use Rattle.types.specs.declared.types.ObjId.{ObjId}
use Rattle.types.specs.declared.types.ObjType.{ObjType}
use Rattle.types.specs.declared.types.ObjType.TheVariants.{Map, Table, List as Sequence, Text}
use Rattle.text_value.specs.Rfc3629.{utf8}
use Rattle.meaning.specs.Results.{on_some}
use Rattle.meaning.specs.Lists.{Every, Apart}
use Rattle.meaning.specs.Entries.{rank, Key, compare_keys, null, boolean, int, uint, timestamp, counter, str, bytes, Content, scalar_of, object_of, content_bytes, Entry, Ref, ref_rank, Item, scalar, object, placed}
use Rattle.meaning.specs.Patches.{Prop, key, pos, Step}
use Rattle.meaning.specs.Rows.{Row, map_of, list_of, text_of, map_row, refs, ids}
use Rattle.meaning.specs.Values.{Value, built, bare, Counts, no_counts, plus, one_entry, some_units, within_value}

-- What an object holds in a document: entries, or the bytes of a text.
abbrev pub DocRow : Type 0
DocRow = Row (List ℕ) Entry

-- An object.
pub record Obj : Type 0 where
  pub ident : ObjId
  pub kind : ObjType
  pub parent : ObjId
  pub row : DocRow

-- The rank of an object's identity.
abbrev pub name : Obj → ℕ
name o = rank o.ident

-- Objects in rising identity.
abbrev pub Doc : Type 0
Doc = List Obj

-- The object of an identity.
abbrev pub find : Doc → ℕ → Option Obj
find [] i = none
find (o ∷ os) i = cond (i == name o) (some o) (find os i)

-- A row's entries, where g says what stands for an object.
module _ {X : Type 0} (g : Ref → X) where
  -- A map's or table's.
  abbrev pub placed_pairs : List (Key × Entry) → List (Key × Item X)
  placed_pairs [] = []
  placed_pairs (x ∷ xs) = (x.0, placed g x.1) ∷ placed_pairs xs

  -- A list's.
  abbrev pub placed_items : List Entry → List (Item X)
  placed_items [] = []
  placed_items (x ∷ xs) = placed g x ∷ placed_items xs

  -- Of any row; a text has none.
  abbrev pub row_placed : DocRow → Row (List ℕ) (Item X)
  row_placed (map_of m) = map_of (placed_pairs m)
  row_placed (list_of l) = list_of (placed_items l)
  row_placed (text_of t) = text_of t

-- An object's row without the identities of its scalars.
abbrev pub items : Obj → Row (List ℕ) (Item Ref)
items o = row_placed (λ r. r) o.row

-- The same with a text in units.
abbrev pub in_units : {U X : Type 0} → (List ℕ → List U) → Row (List ℕ) (Item X) → Row (List U) (Item X)
in_units units (map_of m) = map_of m
in_units units (list_of l) = list_of l
in_units units (text_of t) = text_of (units t)

-- An object's row in units.
abbrev pub row_in : {U : Type 0} → (List ℕ → List U) → Obj → Row (List U) (Item Ref)
row_in units o = in_units units (items o)

-- Identities rise, so no two objects share one.
abbrev pub Rising : Doc → Type 0
Rising [] = Unit {0}
Rising (o ∷ os) = Every (λ (q : Obj). name o < name q) os × Rising os

-- A row has the shape of its object's kind.
abbrev pub FitsKind : ObjType → {W E : Type 0} → Row W E → Type 0
FitsKind Map (map_of m) = Unit {0}
FitsKind Map (list_of l) = ⊥
FitsKind Map (text_of t) = ⊥
FitsKind Table (map_of m) = Unit {0}
FitsKind Table (list_of l) = ⊥
FitsKind Table (text_of t) = ⊥
FitsKind Sequence (map_of m) = ⊥
FitsKind Sequence (list_of l) = Unit {0}
FitsKind Sequence (text_of t) = ⊥
FitsKind Text (map_of m) = ⊥
FitsKind Text (list_of l) = ⊥
FitsKind Text (text_of t) = Unit {0}

-- Keys rise: each comes later than all before it.
abbrev pub After : {E : Type 0} → Key → List (Key × E) → Type 0
After k [] = Unit {0}
After k (x ∷ xs) = (compare_keys x.0 k ≡ Greater) × After k xs

-- So does every key of a list.
abbrev pub KeysRise : {E : Type 0} → List (Key × E) → Type 0
KeysRise [] = Unit {0}
KeysRise (x ∷ xs) = After x.0 xs × KeysRise xs

-- And every key of a row.
abbrev pub RowRises : {W E : Type 0} → Row W E → Type 0
RowRises (map_of m) = KeysRise m
RowRises (list_of l) = Unit {0}
RowRises (text_of t) = Unit {0}

-- The entries of a row, without their keys, and its keys.
abbrev pub of_pairs : {E : Type 0} → List (Key × E) → List E
of_pairs [] = []
of_pairs (x ∷ xs) = x.1 ∷ of_pairs xs

-- Their keys.
abbrev pub keys_of : {E : Type 0} → List (Key × E) → List Key
keys_of [] = []
keys_of (x ∷ xs) = x.0 ∷ keys_of xs

-- The entries of any row.
abbrev pub row_entries : {W E : Type 0} → Row W E → List E
row_entries (map_of m) = of_pairs m
row_entries (list_of l) = l
row_entries (text_of t) = []

-- The keys of any row.
abbrev pub row_keys : {W E : Type 0} → Row W E → List Key
row_keys (map_of m) = keys_of m
row_keys (list_of l) = []
row_keys (text_of t) = []

-- A string is UTF-8; bytes may be anything.
abbrev pub well_spelt : Content → Bool
well_spelt (scalar_of null) = true
well_spelt (scalar_of (boolean b)) = true
well_spelt (scalar_of (int n)) = true
well_spelt (scalar_of (uint n)) = true
well_spelt (scalar_of (timestamp n)) = true
well_spelt (scalar_of (counter n)) = true
well_spelt (scalar_of (str s)) = utf8 s
well_spelt (scalar_of (bytes s)) = true
well_spelt (object_of k) = true

-- A key and an entry within their own bounds.
abbrev pub GoodKey : Key → Type 0
GoodKey k = (length k ≤ limits.key_bytes) × (utf8 k ≡ true)

-- An entry has a counter above 0, is not too long, and is spelt in UTF-8.
abbrev pub GoodEntry : Entry → Type 0
GoodEntry e = (0 < e.ident.counter) × (content_bytes e.content ≤ limits.scalar_bytes) × (well_spelt e.content ≡ true)

-- A text is UTF-8.
abbrev pub GoodText : {E : Type 0} → Row (List ℕ) E → Type 0
GoodText (map_of m) = Unit {0}
GoodText (list_of l) = Unit {0}
GoodText (text_of t) = utf8 t ≡ true

-- What rows count for together, a text by its bytes.
abbrev pub pairs_counts : List (Key × Entry) → Counts
pairs_counts [] = no_counts
pairs_counts (x ∷ xs) = plus (one_entry (length x.0 + content_bytes x.1.content)) (pairs_counts xs)

-- The same without keys.
abbrev pub list_counts : List Entry → Counts
list_counts [] = no_counts
list_counts (x ∷ xs) = plus (one_entry (content_bytes x.content)) (list_counts xs)

-- Of any row.
abbrev pub row_counts : DocRow → Counts
row_counts (map_of m) = pairs_counts m
row_counts (list_of l) = list_counts l
row_counts (text_of t) = some_units (length t)

-- Of all rows.
abbrev pub doc_counts : Doc → Counts
doc_counts [] = no_counts
doc_counts (o ∷ os) = plus (row_counts o.row) (doc_counts os)

-- An object other than the root has a counter above 0 and a parent that is an object with an earlier identity.
abbrev pub HasParent : Doc → Obj → Type 0
HasParent d o = 0 < name o → (0 < o.ident.0.counter) × (q : Obj) × (find d (rank o.parent) ≡ some q) × (rank o.parent < name o)

-- What an object entry of o names: a child of o, under the child's own identity and kind.
abbrev pub NamesChild : Doc → Obj → Ref → Type 0
NamesChild d o r = (0 < ref_rank r) × (c : Obj) × (find d (ref_rank r) ≡ some c) × (c.kind ≡ r.kind) × (rank c.parent ≡ name o)

-- The laws of documents.
pub record Lawful (d : Doc) : Type 0 where
  -- distinct identities, in rising order
  pub rising : Rising d
  -- the root is there, and is a map
  pub rooted : (o : Obj) × (find d 0 ≡ some o) × (o.kind ≡ Map)
  -- every other object has an earlier parent
  pub children : Every (HasParent d) d
  -- object entries name objects, in the rows of their parents only
  pub entries : Every (λ (o : Obj). Every (NamesChild d o) (refs (items o))) d
  -- and there at most once
  pub apart : Every (λ (o : Obj). Apart (ids (refs (items o)))) d
  -- rows have their kind's shape, and keys rise
  pub shapes : Every (λ (o : Obj). FitsKind o.kind o.row) d
  pub keys : Every (λ (o : Obj). RowRises o.row) d
  -- single keys, entries and texts
  pub good_keys : Every (λ (o : Obj). Every GoodKey (row_keys o.row)) d
  pub good_entries : Every (λ (o : Obj). Every GoodEntry (row_entries o.row)) d
  pub good_texts : Every (λ (o : Obj). GoodText o.row) d
  -- the bounds of a document
  pub objects : length d ≤ limits.document_objects
  pub bounded : within_value (doc_counts d) ≡ true

module _ {U : Type 0} (units : List ℕ → List U) where
  -- The values of objects. Children come later than their parents, so the list is folded from its end: this gives one value and no other.
  abbrev pub values : (ℕ → Value U) → Doc → ℕ → Value U
  values base [] i = base i
  values base (o ∷ os) i = cond (i == name o) (built (map_row (λ (r : Ref). values base os (ref_rank r)) (row_in units o))) (values base os i)

  -- A document's value is its root's.
  abbrev pub value : Doc → Value U
  value d = values (λ _. bare Map) d 0

-- Where in a row the object of rank i stands.
abbrev pub seek_l : ℕ → ℕ → List (Item Ref) → Option Prop
seek_l o i [] = none
seek_l o i (scalar s b ∷ xs) = seek_l o (suc i) xs
seek_l o i (object r b ∷ xs) = cond (o == ref_rank r) (some (pos i)) (seek_l o (suc i) xs)

-- Whether an entry is that object.
abbrev pub seek_e : {X : Type 0} → ℕ → Item Ref → X → X → X
seek_e o (scalar s b) x y = y
seek_e o (object r b) x y = cond (o == ref_rank r) x y

-- Under which key.
abbrev pub seek_p : ℕ → List (Key × Item Ref) → Option Prop
seek_p o [] = none
seek_p o (x ∷ xs) = seek_e o x.1 (some (key x.0)) (seek_p o xs)

-- In any row; a text holds no object.
abbrev pub seek : ℕ → {W : Type 0} → Row W (Item Ref) → Option Prop
seek o (map_of m) = seek_p o m
seek o (list_of l) = seek_l o 0 l
seek o (text_of t) = none

-- The path climbed from an object to the root: its parent's path, and then the step to it. A hidden or unknown object on the way means no path. Identities fall on the way, so an identity's rank is enough steps.
abbrev pub climb : Doc → ℕ → ℕ → Option (List Step)
climb d zero i = cond (i == 0) (some []) none
climb d (suc n) i =
    cond (i == 0) (some [])
    (on_some (find d i) (λ c. on_some (find d (rank c.parent)) (λ q. on_some (seek i (items q)) (λ s. map (λ p. p ++ (record { leaves = q.ident; prop = s } ∷ [])) (climb d n (rank c.parent))))))

-- The path of an object, if each object on the way down to it stands in its parent's row.
abbrev pub path_of : Doc → ObjId → Option (List Step)
path_of d o = climb d (rank o) (rank o)

-- Whether an identity is that of a text of the document.
abbrev pub is_text_kind : ObjType → Bool
is_text_kind Map = false
is_text_kind Table = false
is_text_kind Sequence = false
is_text_kind Text = true

-- Whether an object that is found is a text.
abbrev pub is_text_in : Option Obj → Bool
is_text_in none = false
is_text_in (some o) = is_text_kind o.kind

-- Whether an identity is that of a text of the document.
abbrev pub is_text : Doc → ObjId → Bool
is_text d o = is_text_in (find d (rank o))
