-- What a sequence holds.
use Rattle.std.specs.Prelude.{ℕ, List, length, take}
use Rattle.sequence_tree.specs.declared.sequence.Sequence.{Sequence}

-- the elements, first to last
abbrev pub held : {X : Type 0} → Sequence X → List X
held s = take s.len s.places.now

-- how many it can hold
abbrev pub capacity : {X : Type 0} → Sequence X → ℕ
capacity s = length s.places.now
