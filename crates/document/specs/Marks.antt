-- Marks of objects that entries name, row by row.
use Rattle.std.specs.Prelude.{◌≡◌, ℕ, ◌<◌, ◌≤◌, Bool, true, false, List, [], ◌++◌, length, get_or, Some, None, Option as Answer, slice_index_or}
use Rattle.std.proofs.Math.Option.{Option, none, some}
use Rattle.meaning.specs.Lists.{memb}
use Rattle.meaning.specs.Entries.{rank, Key, Entry, Ref, ref_rank}
use Rattle.meaning.specs.Documents.{Obj, Doc, name, find}
use Rattle.document.specs.Places.{nth}
use Rattle.document.specs.Laws.{ref_of, ref_ok, named}
use Rattle.document.specs.Nothing.{no_obj}

-- The parent's rank and the rank of the object at a place.
abbrev pub under : Doc → ℕ → ℕ
under d j = rank (get_or d j no_obj).parent

abbrev pub name_at : Doc → ℕ → ℕ
name_at d j = name (slice_index_or d j no_obj)

-- In a row, objects that belong there are marked where they were seen; objects of later rows are not marked.
abbrev pub Marked : Doc → ℕ → List Bool → List ℕ → Type 0
Marked d owner marks seen =
    (j : ℕ) → j < length d → (under d j ≡ owner → slice_index_or marks j false ≡ memb (name_at d j) seen) × (owner < under d j → slice_index_or marks j false ≡ false)

-- No object of this row or of a later one is marked; none of a later one.
abbrev pub Clear : Doc → ℕ → List Bool → Type 0
Clear d owner marks = (j : ℕ) → j < length d → owner ≤ under d j → slice_index_or marks j false ≡ false

abbrev pub Later : Doc → ℕ → List Bool → Type 0
Later d owner marks = (j : ℕ) → j < length d → owner < under d j → slice_index_or marks j false ≡ false

abbrev pub ClearAt : Doc → Option Obj → List Bool → Type 0
ClearAt d none marks = Unit {0}
ClearAt d (some o) marks = Clear d (name o) marks

abbrev pub LaterAt : Doc → Option Obj → List Bool → Type 0
LaterAt d none marks = Unit {0}
LaterAt d (some o) marks = Later d (name o) marks

-- Whether an entry may name that object there, and the object's place.
abbrev pub Names : Doc → ℕ → Ref → Answer ℕ → Type 0
Names d owner r None = ref_ok d owner r ≡ false
Names d owner r (Some j) = (ref_ok d owner r ≡ true) × (j < length d) × (find d (ref_rank r) ≡ nth d j)

-- Some of a row's references were looked at, and the marks are those after them; or one of them must not stand there.
abbrev pub Enters : Doc → ℕ → List ℕ → List Ref → List Bool → Bool → Type 0
Enters d owner seen rs marks true = (more : List ℕ) × Marked d owner marks more × ((rest : List Ref) → named d owner seen (rs ++ rest) ≡ named d owner more rest)
Enters d owner seen rs marks false = (rest : List Ref) → named d owner seen (rs ++ rest) ≡ false

-- What an entry at a place names.
abbrev pub refs_at : Option (Key × Entry) → List Ref
refs_at none = []
refs_at (some p) = ref_of p.1.content p.1.ident
