-- Rows and their content read back as patches: from the end, and from the front.
use Rattle.std.specs.Prelude.{◌≡◌, ℕ, ◌+◌, ◌-◌, Bool, true, ◌&&◌, ◌||◌, List, [], ◌∷◌, ◌++◌, reverse, length, take, drop, ◌==◌, nat_le, nat_lt}
use Rattle.types.specs.Limits.{limits}
use Rattle.patch.specs.declared.rows.StepRow.{StepRow}
use Rattle.patch.specs.declared.rows.ValueRow.{ValueRow}
use Rattle.patch.specs.declared.rows.PatchRow.{PatchRow}
use Rattle.meaning.specs.Patches.{Patch}
use Rattle.patch.specs.Rows.{steps_len, steps_told, wides, values_in, units_in, wides_in, action_len, action_told}

-- What patches are made of, in the order of the patches.
pub record Parts (U : Type 0) : Type 0 where
  pub steps : List StepRow
  pub values : List ValueRow
  pub units : List U
  pub bytes : List ℕ

-- The last n of a list, and what is before them.
abbrev pub last : {X : Type 0} → ℕ → List X → List X
last n xs = drop (length xs - n) xs

abbrev pub front : {X : Type 0} → ℕ → List X → List X
front n xs = take (length xs - n) xs

-- Which of some values are wide.
abbrev pub wide_flags : List ValueRow → List Bool
wide_flags [] = []
wide_flags (v ∷ vs) = v.wide ∷ wide_flags vs

module _ {U : Type 0} where
  -- One after the other.
  abbrev pub plus : Parts U → Parts U → Parts U
  plus c d = record { steps = c.steps ++ d.steps; values = c.values ++ d.values; units = c.units ++ d.units; bytes = c.bytes ++ d.bytes }

  -- A row's own, and the others', where the row is the last; where it is the first.
  abbrev pub block : PatchRow → Parts U → Parts U
  block r c = record { steps = last r.steps c.steps; values = last (values_in r.action) c.values; units = last (units_in r.action) c.units; bytes = last r.bytes c.bytes }

  abbrev pub rest : PatchRow → Parts U → Parts U
  rest r c = record { steps = front r.steps c.steps; values = front (values_in r.action) c.values; units = front (units_in r.action) c.units; bytes = front r.bytes c.bytes }

  abbrev pub ahead : PatchRow → Parts U → Parts U
  ahead r c = record { steps = take r.steps c.steps; values = take (values_in r.action) c.values; units = take (units_in r.action) c.units; bytes = take r.bytes c.bytes }

  abbrev pub after : PatchRow → Parts U → Parts U
  after r c = record { steps = drop r.steps c.steps; values = drop (values_in r.action) c.values; units = drop (units_in r.action) c.units; bytes = drop r.bytes c.bytes }

  -- A patch of what is its own: the bytes of its path's keys, then those of its action.
  abbrev pub patch_told : PatchRow → Parts U → Patch U
  patch_told r b = record { obj = r.obj; path = steps_told b.steps b.bytes; action = action_told r.action b.values b.units (drop (steps_len b.steps) b.bytes) }

  -- From the end, as a builder edits: rows and patches the newest first.
  abbrev pub told : List PatchRow → Parts U → List (Patch U)
  told [] c = []
  told (r ∷ rs) c = patch_told r (block r c) ∷ told rs (rest r c)

  -- Which of their inserted values are wide, patch by patch.
  abbrev pub flags_told : List PatchRow → Parts U → List (List Bool)
  flags_told [] c = []
  flags_told (r ∷ rs) c = wide_flags (block r c).values ∷ flags_told rs (rest r c)

  -- From the front, as application reads: rows and patches the oldest first.
  abbrev pub told_forward : List PatchRow → Parts U → List (Patch U)
  told_forward [] c = []
  told_forward (r ∷ rs) c = patch_told r (ahead r c) ∷ told_forward rs (after r c)

  -- What a row says of its own is so: how many there are of each, and that its path is within its bound.
  abbrev pub fits_row : PatchRow → Parts U → Bool
  fits_row r b =
      (length b.steps == r.steps)
      && (length b.values == values_in r.action
      && (length b.units == units_in r.action
      && (length b.bytes == r.bytes
      && (steps_len b.steps + action_len r.action b.values == r.bytes
      && (wides b.values == wides_in r.action
      && nat_le r.steps limits.path_steps)))))

  abbrev pub bare : Parts U → Bool
  bare c = length c.steps == 0 && (length c.values == 0 && (length c.units == 0 && length c.bytes == 0))

  -- The rows, newest first, share out all that there is.
  abbrev pub laid : List PatchRow → Parts U → Bool
  laid [] c = bare c
  laid (r ∷ rs) c = fits_row r (block r c) && laid rs (rest r c)

-- Reading forward and reading from the end agree.
abbrev pub BothWays : Type 0 → Type 0
BothWays U = (rs : List PatchRow) (c : Parts U) → laid rs c ≡ true → told_forward (reverse rs) c ≡ reverse (told rs c)

-- One of the four counts is above its bound.
abbrev pub passes : ℕ → ℕ → ℕ → ℕ → Bool
passes p v u b =
    nat_lt limits.builder_patches p
    || (nat_lt limits.builder_values v
    || (nat_lt limits.builder_units u
    || nat_lt limits.builder_bytes b))
