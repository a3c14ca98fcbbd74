use Rattle.std.proofs.Common.{◌≡◌, ℕ, ◌+◌, ◌-◌, ◌<◌, ◌≤◌, get_or}
use Rattle.packed_rows.proofs.rows.move_starts.Given as goal

abbrev pub invariant-loop-start : goal.invariant-loop-start
invariant-loop-start l =
    ((h : ℕ) → h < l.start-index → get_or l.start-items h 0 ≡ get_or l.fn.starts (l.i + 1 + h) 0 - l.k + l.m)
    × ((h : ℕ) → l.start-index ≤ h → get_or l.start-items h 0 ≡ get_or l.fn.starts (l.i + 1 + h) 0)
