use Rattle.std.specs.Prelude.{ℕ, Bool, cond, ◌&&◌, ◌==◌, nat_lt}
use Rattle.std.specs.declared.cmp.Ordering.TheVariants.{Less, Equal, Greater}
use Rattle.std.specs.declared.cmp.Ordering.{Ordering}
use Rattle.std.specs.Ordering.{ordering_then}
use Rattle.types.specs.declared.types.OpId.{OpId}
use Rattle.types.specs.declared.types.ObjId.{ObjId}

-- Two numbers, by size.
abbrev pub compare_numbers : ℕ → ℕ → Ordering
compare_numbers a b = cond (nat_lt a b) Less (cond (a == b) Equal Greater)

-- Identities compare by counter, then by actor.
abbrev pub compare_ids : OpId → OpId → Ordering
compare_ids a b = ordering_then (compare_numbers a.counter b.counter) (compare_numbers a.actor b.actor)

-- The identity of the root, which every document has.
abbrev pub root_id : ObjId
root_id = record { 0 = record { counter = 0; actor = 0 } }

abbrev pub is_root : ObjId → Bool
is_root o = o.0.counter == 0 && o.0.actor == 0
