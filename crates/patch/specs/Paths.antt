-- Steps whose keys are each short, with the bytes of the keys all there.
use Rattle.std.specs.Prelude.{ℕ, Bool, true, ◌&&◌, List, [], ◌∷◌, length, ◌==◌, nat_le}
use Rattle.types.specs.Limits.{limits}
use Rattle.patch.specs.declared.rows.StepRow.{StepRow}
use Rattle.patch.specs.Rows.{prop_len, steps_len}

-- No key is longer than a key may be.
abbrev pub short_rows : List StepRow → Bool
short_rows [] = true
short_rows (s ∷ ss) = nat_le (prop_len s.prop) limits.key_bytes && short_rows ss

-- The keys are short, and have n bytes together.
abbrev pub whole_rows : List StepRow → ℕ → Bool
whole_rows ss n = short_rows ss && steps_len ss == n

-- Steps and the bytes of their keys make a path.
abbrev pub whole_path : List StepRow → List ℕ → Bool
whole_path ss ks = whole_rows ss (length ks)
