-- When a part of a sequence can be replaced.
use Rattle.std.specs.Prelude.{ℕ, ◌+◌, cond, Ok, Err, Result, nat_le}
use Rattle.sequence_tree.specs.declared.error.SequenceError.{SequenceError}
use Rattle.sequence_tree.specs.declared.error.SequenceError.TheVariants.{OutOfRange, Full}

-- the answer to replacing, of n elements in cap places, the k from `at` on by m others
abbrev pub splicing : ℕ → ℕ → ℕ → ℕ → ℕ → Result (Unit {0}) SequenceError
splicing cap n at k m = cond (nat_le (at + k) n) (cond (nat_le (n + m) (cap + k)) (Ok tt) (Err Full)) (Err OutOfRange)
