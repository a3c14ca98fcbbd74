-- What tables tell, with the shapes of their rows, and what opening answers.
use Rattle.std.specs.Prelude.{ℕ, Bool, true, false, ◌&&◌, List, [], ◌∷◌}
use Rattle.types.specs.Kinds.{is_sequence}
use Rattle.types.specs.Identities.{root_id}
use Rattle.types.specs.declared.types.ObjType.{ObjType}
use Rattle.types.specs.declared.types.ObjType.TheVariants.{Map, Table, List as Sequence, Text}
use Rattle.meaning.specs.Lists.{Every}
use Rattle.meaning.specs.Entries.{Key, Entry}
use Rattle.meaning.specs.Rows.{map_of}
use Rattle.meaning.specs.Documents.{Doc, FitsKind}
use Rattle.document.specs.Laws.{lawful}
use Rattle.document.specs.Places.{Shaped, ShapedObj}
use Rattle.tables.specs.declared.table.Window.{Window}
use Rattle.tables.specs.declared.table.ObjectRow.{ObjectRow}
use Rattle.tables.specs.declared.table.EntryRow.{EntryRow}
use Rattle.tables.specs.Tables.{part, entry_of, row_of, doc_of, inside}

pub shape : (k : ObjType) (w : Window) (es : List EntryRow) (bs : List ℕ) → FitsKind k (row_of k w es bs)
shape Map w es bs = tt
shape Table w es bs = tt
shape Sequence w es bs = tt
shape Text w es bs = tt

pub shapes : (os : List ObjectRow) (es : List EntryRow) (bs : List ℕ) → Every ShapedObj (doc_of os es bs)
shapes [] es bs = tt
shapes (o ∷ os) es bs = (shape o.kind o.row es bs, shapes os es bs)

-- The document, each row of the shape of its object's kind.
abbrev pub told : List ObjectRow → List EntryRow → List ℕ → Shaped
told os es bs = record { doc = doc_of os es bs; shapes = shapes os es bs }

-- Whether tables open: every window lies inside, and the document keeps the laws.
abbrev pub opens : List ObjectRow → List EntryRow → List ℕ → Bool
opens os es bs = inside os es bs && lawful (doc_of os es bs)

-- The document that has the root alone, an empty map.
abbrev pub bare_root : Doc
bare_root = record { ident = root_id; kind = Map; parent = root_id; row = map_of [] } ∷ []

-- An entry row as an object of that kind tells it: with its key in a map or table, without in a list.
abbrev pub key_of : Bool → Window → List ℕ → Key
key_of true w bs = []
key_of false w bs = part w bs

abbrev pub seen_of : ObjType → List ℕ → EntryRow → Key × Entry
seen_of k bs e = (key_of (is_sequence k) e.key bs, entry_of bs e)
