-- The laws of documents as a test, and that the test is the laws.
use Rattle.std.specs.Prelude.{◌≡◌, ℕ, Bool, true, false, not, ◌&&◌, ◌||◌, List, [], ◌∷◌, ◌++◌, length, ◌==◌, nat_le, nat_lt}
use Rattle.std.proofs.Math.Option.{Option, none, some}
use Rattle.std.specs.Ordering.{is_gt}
use Rattle.types.specs.Limits.{limits}
use Rattle.types.specs.declared.types.OpId.{OpId}
use Rattle.types.specs.declared.types.ObjType.{ObjType}
use Rattle.types.specs.declared.types.ObjType.TheVariants.{Map, Table, List as Sequence, Text}
use Rattle.text_value.specs.Rfc3629.{utf8}
use Rattle.meaning.specs.Lists.{memb}
use Rattle.meaning.specs.Entries.{rank, Key, compare_keys, Content, scalar_of, object_of, content_bytes, Entry, Ref, ref_rank}
use Rattle.meaning.specs.Rows.{map_of, list_of, text_of}
use Rattle.meaning.specs.Values.{within_value}
use Rattle.meaning.specs.Documents.{DocRow, Obj, Doc, name, find, well_spelt, doc_counts, Lawful}
use Rattle.document.specs.Places.{pairs, text_of?}

-- A test of every element, and of every two that stand side by side.
abbrev pub every : {X : Type 0} → (X → Bool) → List X → Bool
every p [] = true
every p (x ∷ xs) = p x && every p xs

abbrev pub chain_from : {X : Type 0} → (X → X → Bool) → X → List X → Bool
chain_from before x [] = true
chain_from before x (y ∷ ys) = before x y && chain_from before y ys

abbrev pub chained : {X : Type 0} → (X → X → Bool) → List X → Bool
chained before [] = true
chained before (x ∷ xs) = chain_from before x xs

abbrev pub same_kind : ObjType → ObjType → Bool
same_kind Map Map = true
same_kind Map Table = false
same_kind Map Sequence = false
same_kind Map Text = false
same_kind Table Map = false
same_kind Table Table = true
same_kind Table Sequence = false
same_kind Table Text = false
same_kind Sequence Map = false
same_kind Sequence Table = false
same_kind Sequence Sequence = true
same_kind Sequence Text = false
same_kind Text Map = false
same_kind Text Table = false
same_kind Text Sequence = false
same_kind Text Text = true

-- Identities rise.
abbrev pub earlier : Obj → Obj → Bool
earlier o q = nat_lt (name o) (name q)

abbrev pub rises : Doc → Bool
rises d = chained earlier d

-- The root is there, is a map, and is its own parent.
abbrev pub is_top : Obj → Bool
is_top o = rank o.parent == 0

abbrev pub topped_in : Option Obj → Bool
topped_in none = false
topped_in (some o) = is_top o

abbrev pub topped : Doc → Bool
topped d = topped_in (find d 0)

abbrev pub map_in : Option Obj → Bool
map_in none = false
map_in (some o) = same_kind o.kind Map

abbrev pub rooted : Doc → Bool
rooted d = map_in (find d 0) && topped d

-- Every other object has a counter above 0 and a parent, which is an object of an earlier identity.
abbrev pub present : Option Obj → Bool
present none = false
present (some o) = true

abbrev pub child_ok : Doc → Obj → Bool
child_ok d o = name o == 0 || (nat_lt 0 o.ident.0.counter && (nat_lt (rank o.parent) (name o) && present (find d (rank o.parent))))

-- A row has the shape of its object's kind.
abbrev pub shape_ok : ObjType → DocRow → Bool
shape_ok Map (map_of m) = true
shape_ok Map (list_of l) = false
shape_ok Map (text_of t) = false
shape_ok Table (map_of m) = true
shape_ok Table (list_of l) = false
shape_ok Table (text_of t) = false
shape_ok Sequence (map_of m) = false
shape_ok Sequence (list_of l) = true
shape_ok Sequence (text_of t) = false
shape_ok Text (map_of m) = false
shape_ok Text (list_of l) = false
shape_ok Text (text_of t) = true

-- A map's keys rise.
abbrev pub key_before : Key × Entry → Key × Entry → Bool
key_before p q = is_gt (compare_keys q.0 p.0)

abbrev pub keys_ok : DocRow → Bool
keys_ok (map_of m) = chained key_before m
keys_ok (list_of l) = true
keys_ok (text_of t) = true

-- Single keys and entries: their bounds, UTF-8, and a counter above 0.
abbrev pub good_key : Key → Bool
good_key k = nat_le (length k) limits.key_bytes && utf8 k

abbrev pub good_entry : Entry → Bool
good_entry e = nat_lt 0 e.ident.counter && (nat_le (content_bytes e.content) limits.scalar_bytes && well_spelt e.content)

abbrev pub good_pair : Key × Entry → Bool
good_pair p = good_key p.0 && good_entry p.1

abbrev pub good_text : Option (List ℕ) → Bool
good_text none = true
good_text (some t) = utf8 t

-- An object by itself.
abbrev pub row_ok : Obj → Bool
row_ok o = shape_ok o.kind o.row && (keys_ok o.row && (every good_pair (pairs o.row) && good_text (text_of? o.row)))

-- The objects that entries name, in order.
abbrev pub ref_of : Content → OpId → List Ref
ref_of (scalar_of s) i = []
ref_of (object_of k) i = record { kind = k; object = record { 0 = i } } ∷ []

abbrev pub refs_of : List (Key × Entry) → List Ref
refs_of [] = []
refs_of (p ∷ ps) = ref_of p.1.content p.1.ident ++ refs_of ps

-- A named object is not the root, is of the kind that its entry says and belongs under the object of this row.
abbrev pub belongs : ℕ → ObjType → Option Obj → Bool
belongs owner k none = false
belongs owner k (some c) = same_kind c.kind k && rank c.parent == owner

abbrev pub ref_ok : Doc → ℕ → Ref → Bool
ref_ok d owner r = nat_lt 0 (ref_rank r) && belongs owner r.kind (find d (ref_rank r))

-- So is each of a row, and none is named twice.
abbrev pub named : Doc → ℕ → List ℕ → List Ref → Bool
named d owner seen [] = true
named d owner seen (r ∷ rs) = ref_ok d owner r && (not (memb (ref_rank r) seen) && named d owner (ref_rank r ∷ seen) rs)

abbrev pub refs_ok : Doc → Obj → Bool
refs_ok d o = named d (name o) [] (refs_of (pairs o.row))

-- All laws.
abbrev pub lawful : Doc → Bool
lawful d = nat_le (length d) limits.document_objects && (rises d && (rooted d && (every (child_ok d) d && (within_value (doc_counts d) && (every row_ok d && every (refs_ok d) d)))))

-- The test holds exactly where the laws do.
abbrev pub TestIsLaws : Type 0
TestIsLaws = (d : Doc) → (lawful d ≡ true → Lawful d × (topped d ≡ true)) × (Lawful d × (topped d ≡ true) → lawful d ≡ true)
