-- What packed rows hold.
use Rattle.std.specs.Prelude.{ℕ, ◌+◌, ◌-◌, cond, List, length, Err, Result, nat_lt}
use Rattle.sequence_tree.specs.declared.error.SequenceError.{SequenceError}
use Rattle.sequence_tree.specs.declared.error.SequenceError.TheVariants.{OutOfRange}
use Rattle.packed_rows.specs.declared.packed.PackedRows.{PackedRows}
use Rattle.sequence_tree.specs.Refusals.{splicing}
use Rattle.packed_rows.specs.Rows.{row, used}

-- how many rows there are
abbrev pub row_count : {X : Type 0} → PackedRows X → ℕ
row_count p = length p.starts.now - 1

-- the row i, which is empty past the last
abbrev pub row_of : {X : Type 0} → PackedRows X → ℕ → List X
row_of p i = row p.starts.now p.places.now i

-- how many elements all rows have together
abbrev pub used_in : {X : Type 0} → PackedRows X → ℕ
used_in p = used p.starts.now

-- how many they can have: as many as there are places, and no more than a start of 32 bits can count
abbrev pub room_in : {X : Type 0} → PackedRows X → ℕ
room_in p = length p.places.now

-- the answer to replacing, in row i, the k elements from `at` on by m others: a row may grow by the places that are free
abbrev pub row_splicing : {X : Type 0} → PackedRows X → ℕ → ℕ → ℕ → ℕ → Result (Unit {0}) SequenceError
row_splicing p i at k m =
    cond (nat_lt i (row_count p)) (splicing (room_in p - used_in p + length (row_of p i)) (length (row_of p i)) at k m) (Err OutOfRange)
