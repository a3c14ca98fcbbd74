-- What the memory of patches holds.
use Rattle.std.specs.Prelude.{ℕ, Bool, ◌&&◌, List, nat_le}
use Rattle.types.specs.Limits.{limits}
use Rattle.patch.specs.declared.memory.PatchMemory.{PatchMemory}
use Rattle.meaning.specs.Patches.{Patch}
use Rattle.patch.specs.Told.{Parts, told, flags_told}
use Rattle.patch.specs.Sound.{newest, parts_in}

-- All that its patches are made of.
abbrev pub parts_of : {U : Type 0} → PatchMemory U → Parts U
parts_of m = parts_in m.steps m.values m.units m.bytes

-- The patches held, newest first.
abbrev pub held_of : {U : Type 0} → PatchMemory U → List (Patch U)
held_of m = told (newest m.rows) (parts_of m)

-- Which of their inserted values are wide in a text, as those who added them said.
abbrev pub flags_of : {U : Type 0} → PatchMemory U → List (List Bool)
flags_of m = flags_told (newest m.rows) (parts_of m)

-- Lent slices are as long as the bounds ask: rows, steps, values, units, bytes.
abbrev pub enough : ℕ → ℕ → ℕ → ℕ → ℕ → Bool
enough r s v u b =
    nat_le limits.builder_patches r && (nat_le 65536 s && (nat_le limits.builder_values v && (nat_le limits.builder_units u && nat_le limits.builder_bytes b)))
