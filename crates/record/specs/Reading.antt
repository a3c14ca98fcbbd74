-- What the index is told to hold when a part of a record has been read.
use Rattle.std.specs.Prelude.{◌≡◌, ℕ, ◌+◌, ◌-◌, Bool, List, ◌++◌, length, take, Some, None, Option}
use Rattle.std.proofs.Math.Option.{none, some}
use Rattle.std.specs.Borrow.{Bor}
use Rattle.types.specs.declared.types.ObjType.{ObjType}
use Rattle.document.specs.declared.view.Head.{Head}
use Rattle.document.specs.Places.{nth, pairs, head_of, size_told, entry_told}
use Rattle.meaning.specs.Documents.{DocRow, Obj, Doc}
use Rattle.record.specs.declared.cursor.Cursor.{Cursor}
use Rattle.record_codec.specs.Codec.{Got, get_many}
use Rattle.record_codec.specs.Layout.{Slot, get_slot, put_slot, has_keys, get_row, put_row, get_obj, put_obj}
use Rattle.record.specs.Index.{offsets, entry_offsets, first_numbers, entry_count}

-- Of `total` bytes those before bs are read. Then `count` values were read, and their places written behind the first `from`.
pub record Ran {A : Type 0} (get : List ℕ → Got A) (put : A → List ℕ) (count total from : ℕ) (bs old new r : List ℕ) (es : List A) : Type 0 where
  pub is : get_many get count bs ≡ Some (es, r)
  pub indexed : take (from + count) new ≡ take from old ++ offsets put (total - length bs) es

-- Entries were read from one cursor to the other.
pub record RanEntries (keyed : Bool) (count : ℕ) (from at : Cursor) (old new : List ℕ) : Type 0 where
  pub total : at.total ≡ from.total
  pub next : at.entries ≡ from.entries + count
  pub slots : List Slot
  pub ran : Ran (get_slot keyed) (put_slot keyed) count from.total from.entries from.rest.now old new at.rest.now slots

abbrev pub IndexesEntries : Bool → ℕ → Cursor → List ℕ → List ℕ → Option Cursor → Type 0
IndexesEntries keyed count from old new None = get_many (get_slot keyed) count from.rest.now ≡ None
IndexesEntries keyed count from old new (Some at) = RanEntries keyed count from at old new

-- A row of that kind: n entries stand in the index then.
pub record RanRow (k : ObjType) (total from : ℕ) (bs old new : List ℕ) (n : ℕ) (r : List ℕ) : Type 0 where
  pub row : DocRow
  pub is : get_row k bs ≡ Some (row, r)
  pub next : n ≡ from + length (pairs row)
  pub indexed : take n new ≡ take from old ++ offsets (put_slot (has_keys k)) (total - length bs + 4) (pairs row)

abbrev pub IndexesRow : ObjType → Cursor → List ℕ → List ℕ → Option Cursor → Type 0
IndexesRow k from old new None = get_row k from.rest.now ≡ None
IndexesRow k from old new (Some at) = (at.total ≡ from.total) × RanRow k from.total from.entries from.rest.now old new at.entries at.rest.now

-- All objects.
pub record RanAll (count total : ℕ) (bs starts firsts places r : List ℕ) (d : Doc) : Type 0 where
  pub is : get_many get_obj count bs ≡ Some (d, r)
  pub started : take count starts ≡ offsets put_obj (total - length bs) d
  pub numbered : take count firsts ≡ first_numbers 0 d
  pub indexed : take (entry_count d) places ≡ entry_offsets (total - length bs) d

abbrev pub IndexesAll : ℕ → ℕ → List ℕ → List ℕ → List ℕ → List ℕ → Option (Bor (List ℕ)) → Type 0
IndexesAll count total bs starts firsts places None = get_many get_obj count bs ≡ None
IndexesAll count total bs starts firsts places (Some r) = (d : Doc) × RanAll count total bs starts firsts places r.now d

-- An object found by its place: its head, and the bytes from its row on.
pub record Found (d : Doc) (i : ℕ) (h : Head) (rest : List ℕ) : Type 0 where
  pub object : Obj
  pub more : List ℕ
  pub there : nth d i ≡ some object
  pub heads : h ≡ head_of object
  pub follows : rest ≡ put_row object.row ++ more

abbrev pub FoundAt : Doc → ℕ → Option (Head × Bor (List ℕ)) → Type 0
FoundAt d i None = nth d i ≡ none
FoundAt d i (Some p) = Found d i p.0 p.1.now

-- The number with which a row begins: its size.
abbrev pub SizeAt : Doc → ℕ → Option ℕ → Type 0
SizeAt d i None = nth d i ≡ none
SizeAt d i (Some n) = n ≡ size_told (nth d i)

-- The bytes that begin with the n-th entry of the object at a place.
pub record EntryFollows (d : Doc) (i n : ℕ) (keyed : Bool) (bs : List ℕ) : Type 0 where
  pub slot : Slot
  pub more : List ℕ
  pub told : entry_told (nth d i) n ≡ some slot
  pub got : get_slot keyed bs ≡ Some (slot, more)

abbrev pub EntryAt : Doc → ℕ → ℕ → Option (Bool × Bor (List ℕ)) → Type 0
EntryAt d i n None = entry_told (nth d i) n ≡ none
EntryAt d i n (Some p) = EntryFollows d i n p.0 p.1.now
