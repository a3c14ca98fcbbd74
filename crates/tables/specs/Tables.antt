-- The document that tables tell, and whether their windows lie inside.
use Rattle.std.specs.Prelude.{ℕ, ◌+◌, Bool, true, ◌&&◌, List, [], ◌∷◌, length, take, drop, nat_le}
use Rattle.types.specs.declared.types.ObjType.{ObjType}
use Rattle.types.specs.declared.types.ObjType.TheVariants.{Map, Table, List as Sequence, Text}
use Rattle.meaning.specs.Entries.{Key, Scalar, null, boolean, int, uint, timestamp, counter, str, bytes as byte_string, Content, scalar_of, object_of, Entry}
use Rattle.meaning.specs.Rows.{map_of, list_of, text_of}
use Rattle.meaning.specs.Documents.{DocRow, Obj, Doc}
use Rattle.document.specs.Laws.{every}
use Rattle.tables.specs.declared.table.Window.{Window}
use Rattle.tables.specs.declared.table.ObjectRow.{ObjectRow}
use Rattle.tables.specs.declared.table.EntryRow.{EntryRow}
use Rattle.types.specs.declared.value.ScalarOf.{ScalarOf}
use Rattle.types.specs.declared.value.ScalarOf.TheVariants.{Null, Boolean, Int, Uint, Timestamp, Counter, Str, Bytes}
use Rattle.types.specs.declared.value.ValueOf.{ValueOf}
use Rattle.types.specs.declared.value.ValueOf.TheVariants.{Object, Scalar as Plain}

-- The part of a list that a window shows.
abbrev pub part : {X : Type 0} → Window → List X → List X
part w xs = take w.len (drop w.from xs)

abbrev pub scalar_in : List ℕ → ScalarOf Window → Scalar
scalar_in bs Null = null
scalar_in bs (Boolean b) = boolean b
scalar_in bs (Int n) = int n
scalar_in bs (Uint n) = uint n
scalar_in bs (Timestamp n) = timestamp n
scalar_in bs (Counter n) = counter n
scalar_in bs (Str w) = str (part w bs)
scalar_in bs (Bytes w) = byte_string (part w bs)

abbrev pub content_of : List ℕ → ValueOf Window → Content
content_of bs (Object k) = object_of k
content_of bs (Plain s) = scalar_of (scalar_in bs s)

abbrev pub entry_of : List ℕ → EntryRow → Entry
entry_of bs e = record { content = content_of bs e.cell; ident = e.id; flag = e.conflict }

abbrev pub entries_of : List ℕ → List EntryRow → List Entry
entries_of bs [] = []
entries_of bs (e ∷ es) = entry_of bs e ∷ entries_of bs es

abbrev pub pairs_of : List ℕ → List EntryRow → List (Key × Entry)
pairs_of bs [] = []
pairs_of bs (e ∷ es) = (part e.key bs, entry_of bs e) ∷ pairs_of bs es

abbrev pub row_of : ObjType → Window → List EntryRow → List ℕ → DocRow
row_of Map w es bs = map_of (pairs_of bs (part w es))
row_of Table w es bs = map_of (pairs_of bs (part w es))
row_of Sequence w es bs = list_of (entries_of bs (part w es))
row_of Text w es bs = text_of (part w bs)

abbrev pub obj_of : List EntryRow → List ℕ → ObjectRow → Obj
obj_of es bs o = record { ident = o.id; kind = o.kind; parent = o.parent; row = row_of o.kind o.row es bs }

-- The document.
abbrev pub doc_of : List ObjectRow → List EntryRow → List ℕ → Doc
doc_of [] es bs = []
doc_of (o ∷ os) es bs = obj_of es bs o ∷ doc_of os es bs

-- A window inside a list of that length.
abbrev pub lies : Window → ℕ → Bool
lies w n = nat_le (w.from + w.len) n

abbrev pub room_of : ObjType → ℕ → ℕ → ℕ
room_of Map entries bytes = entries
room_of Table entries bytes = entries
room_of Sequence entries bytes = entries
room_of Text entries bytes = bytes

abbrev pub object_lies : ℕ → ℕ → ObjectRow → Bool
object_lies entries bytes o = lies o.row (room_of o.kind entries bytes)

abbrev pub scalar_lies : ℕ → ScalarOf Window → Bool
scalar_lies n Null = true
scalar_lies n (Boolean b) = true
scalar_lies n (Int i) = true
scalar_lies n (Uint i) = true
scalar_lies n (Timestamp i) = true
scalar_lies n (Counter i) = true
scalar_lies n (Str w) = lies w n
scalar_lies n (Bytes w) = lies w n

abbrev pub cell_lies : ℕ → ValueOf Window → Bool
cell_lies n (Object k) = true
cell_lies n (Plain s) = scalar_lies n s

abbrev pub entry_lies : ℕ → EntryRow → Bool
entry_lies n e = lies e.key n && cell_lies n e.cell

-- Every window of the tables lies inside.
abbrev pub inside : List ObjectRow → List EntryRow → List ℕ → Bool
inside os es bs = every (object_lies (length es) (length bs)) os && every (entry_lies (length bs)) es
