use Rattle.std.proofs.Common.{◌-◌, ◌≤◌, length}
use Rattle.ordered_set.specs.Orders.{lawful}
use Rattle.ordered_set.proofs.Searches.{AllLess, AllGreater}
use Rattle.ordered_set.proofs.set.find.Given as goal

abbrev pub invariant-loop-low : goal.invariant-loop-low
invariant-loop-low g l =
    (l.low ≤ l.high)
    × (l.high ≤ length l.items)
    × AllLess (lawful (g.met.O.TotalOrder.total l.order)) l.x l.items l.low
    × AllGreater (lawful (g.met.O.TotalOrder.total l.order)) l.x l.items l.high

abbrev pub decreases-loop-low : goal.decreases-loop-low
decreases-loop-low g l = l.high - l.low
