-- When the memory of patches is in order.
use Rattle.std.specs.Prelude.{◌≡◌, ℕ, List, reverse}
use Rattle.sequence_tree.specs.declared.sequence.Sequence.{Sequence}
use Rattle.sequence_tree.specs.Sequences.{held, capacity}
use Rattle.types.specs.Limits.{limits}
use Rattle.patch.specs.declared.rows.StepRow.{StepRow}
use Rattle.patch.specs.declared.rows.ValueRow.{ValueRow}
use Rattle.patch.specs.declared.rows.PatchRow.{PatchRow}
use Rattle.patch.specs.Told.{Parts}

-- The rows, newest first.
abbrev pub newest : Sequence PatchRow → List PatchRow
newest rows = reverse (held rows)

abbrev pub parts_in : {U : Type 0} → Sequence StepRow → Sequence ValueRow → Sequence U → Sequence ℕ → Parts U
parts_in ss vs us bs = record { steps = held ss; values = held vs; units = held us; bytes = held bs }

-- There are as many places as the bounds allow, so that no more can be in use.
pub record Sized {U : Type 0} (rs : Sequence PatchRow) (ss : Sequence StepRow) (vs : Sequence ValueRow) (us : Sequence U) (bs : Sequence ℕ) : Type 0 where
  pub rows : capacity rs ≡ limits.builder_patches
  pub steps : capacity ss ≡ 65536
  pub values : capacity vs ≡ limits.builder_values
  pub units : capacity us ≡ limits.builder_units
  pub bytes : capacity bs ≡ limits.builder_bytes
