-- What is held keeps within the bounds, since there are no more places.
use Rattle.std.proofs.Common.{◌≡◌, ℕ, ◌+◌, ◌≤◌, false, ltb, length, arith, length-take}
use Rattle.std.proofs.lemmas.List.{length-reverse}
use Rattle.std.proofs.lemmas.Bool.{or_parts, ltb-false}
use Rattle.sequence_tree.specs.declared.sequence.Sequence.{Sequence}
use Rattle.sequence_tree.specs.Sequences.{held, capacity}
use Rattle.patch.specs.declared.memory.PatchMemory.{PatchMemory}
use Rattle.patch.specs.Told.{passes}
use Rattle.patch.specs.Sound.{newest}
use Rattle.patch.specs.Held.{parts_of}
use Rattle.patch.proofs.Tell.{steps_few}

held_within : {X : Type 0} (s : Sequence X) → length (held s) ≤ capacity s
held_within s = let l = length-take s.len s.places.now in omega arith

pub record Within {U : Type 0} (m : PatchMemory U) : Type 0 where
  pub rows : length (held m.rows) ≤ 4096
  pub newest : length (newest m.rows) ≤ 4096
  pub values : length (held m.values) ≤ 4096
  pub units : length (held m.units) ≤ 32768
  pub bytes : length (held m.bytes) ≤ 32768

pub within : {U : Type 0} (m : PatchMemory U) → Within m
within m =
    let r : length (held m.rows) ≤ 4096 = omega (arith, held_within m.rows, m.sized.rows) in
    record {
      rows = r;
      newest = omega (arith, length-reverse (held m.rows));
      values = omega (arith, held_within m.values, m.sized.values);
      units = omega (arith, held_within m.units, m.sized.units);
      bytes = omega (arith, held_within m.bytes, m.sized.bytes);
    }

-- There are places for a patch more, of s steps, v values, u units and b bytes.
pub record Room {U : Type 0} (m : PatchMemory U) (s v u b : ℕ) : Type 0 where
  pub rows : length (held m.rows) + 1 ≤ capacity m.rows
  pub steps : length (held m.steps) + s ≤ capacity m.steps
  pub values : length (held m.values) + v ≤ capacity m.values
  pub units : length (held m.units) + u ≤ capacity m.units
  pub bytes : length (held m.bytes) + b ≤ capacity m.bytes

pub room : {U : Type 0} (m : PatchMemory U) (s v u b : ℕ) → s ≤ 16
    → passes (length (held m.rows) + 1) (length (held m.values) + v) (length (held m.units) + u) (length (held m.bytes) + b) ≡ false → Room m s v u b
room m s v u b few h =
    let x = or_parts (ltb 4096 (length (held m.rows) + 1)) _ h in
    let y = or_parts (ltb 4096 (length (held m.values) + v)) _ x.1 in
    let z = or_parts (ltb 32768 (length (held m.units) + u)) (ltb 32768 (length (held m.bytes) + b)) y.1 in
    let n = steps_few (newest m.rows) (parts_of m) m.shared in
    let l = length-reverse (held m.rows) in
    let r = ltb-false 4096 (length (held m.rows) + 1) x.0 in
    record {
      rows = omega (arith, m.sized.rows, r);
      steps = omega (arith, m.sized.steps, n, l, r);
      values = omega (arith, m.sized.values, ltb-false 4096 _ y.0);
      units = omega (arith, m.sized.units, ltb-false 32768 _ z.0);
      bytes = omega (arith, m.sized.bytes, ltb-false 32768 _ z.1);
    }

pub rows_within : {U : Type 0} (m : PatchMemory U) → length (held m.rows) ≤ 4096
rows_within m = (within m).rows
