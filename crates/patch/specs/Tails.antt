-- Rows of the last patch.
use Rattle.std.specs.Prelude.{◌≡◌, ℕ, ◌+◌, true, cond, List, [], ◌∷◌, drop, Some, None, Option}
use Rattle.patch.specs.declared.rows.ValueRow.{ValueRow}
use Rattle.patch.specs.declared.rows.ActionRow.{ActionRow}
use Rattle.patch.specs.declared.rows.ActionRow.TheVariants.{PutMap, PutSeq, DeleteSeq}
use Rattle.patch.specs.declared.rows.PatchRow.{PatchRow}
use Rattle.patch.specs.declared.memory.PatchMemory.{PatchMemory}
use Rattle.meaning.specs.Calls.{bad_length}
use Rattle.patch.specs.Told.{block, rest, patch_told, told, fits_row}
use Rattle.patch.specs.Sound.{newest}
use Rattle.patch.specs.Held.{parts_of, held_of}

-- The last row, of rows the newest first.
abbrev pub TailIs : List PatchRow → Option PatchRow → Type 0
TailIs rs None = rs ≡ []
TailIs rs (Some r) = rs ≡ r ∷ drop 1 rs

-- What is held, by its last row: that row's patch and those before it.
abbrev pub TailHeld : {U : Type 0} → PatchMemory U → Option PatchRow → Type 0
TailHeld m None = held_of m ≡ []
TailHeld m (Some r) = (held_of m ≡ patch_told r (block r (parts_of m)) ∷ told (drop 1 (newest m.rows)) (rest r (parts_of m))) × (fits_row r (block r (parts_of m)) ≡ true)

abbrev pub flag_value : ValueRow → ValueRow
flag_value v = record { content = v.content; id = v.id; conflict = true; wide = v.wide }

-- A put's row with its flag set.
abbrev pub flag_row : ActionRow → ActionRow
flag_row (PutMap n v) = PutMap n (flag_value v)
flag_row (PutSeq i v) = PutSeq i (flag_value v)
flag_row a = a

-- A deletion's row that takes m more.
abbrev pub lengthen_row : ℕ → ActionRow → ActionRow
lengthen_row m (DeleteSeq i n) = DeleteSeq i (n + m)
lengthen_row m a = a

abbrev pub with_action : PatchRow → ActionRow → PatchRow
with_action r a = record { obj = r.obj; steps = r.steps; bytes = r.bytes; action = a }

-- The same, where that keeps within the bounds of a deletion.
abbrev pub fits_length : ActionRow → ℕ → Option ActionRow
fits_length (DeleteSeq i n) m = cond (bad_length (n + m)) None (Some (DeleteSeq i (n + m)))
fits_length a m = Some a
