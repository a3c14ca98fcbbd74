use Rattle.std.proofs.Common.{◌≡◌, ◌+◌, ◌-◌, ◌/◌, sym, arith}
use Rattle.ordered_set.specs.Orders.{lawful}
use Rattle.ordered_set.proofs.Searches.{less_upto, greater_from, found_here, found_not}
use Rattle.ordered_set.proofs.set.find.Goals as goal

pub loop-low-preserved-in-Less : goal.loop-low-preserved-in-Less
loop-low-preserved-in-Less g c =
    let o = lawful (g.met.O.TotalOrder.total c.args.order.now) in
    let m = c.loop-low.low + (c.loop-low.high - c.loop-low.low) / 2 in (
      omega arith,
      omega arith,
      less_upto o c.args.x c.args.items.now m c.index-items-mid.result c.requires (omega arith) c.index-items-mid.is (sym c.in-Less.ensures),
      c.loop-low.invariant.3,
    )

pub loop-low-preserved : goal.loop-low-preserved
loop-low-preserved g c =
    let o = lawful (g.met.O.TotalOrder.total c.args.order.now) in
    let m = c.loop-low.low + (c.loop-low.high - c.loop-low.low) / 2 in (
      omega arith,
      omega arith,
      c.loop-low.invariant.2,
      greater_from o c.args.x c.args.items.now m c.index-items-mid.result c.requires (omega arith) c.index-items-mid.is (sym c.in-Greater.ensures),
    )

pub returns-in-Equal : goal.returns-in-Equal
returns-in-Equal g c =
    let o = lawful (g.met.O.TotalOrder.total c.args.order.now) in
    let m = c.loop-low.low + (c.loop-low.high - c.loop-low.low) / 2 in
    sym (found_here o c.args.x c.args.items.now m c.index-items-mid.result c.requires (omega arith) c.index-items-mid.is (sym c.in-Equal.ensures))

pub returns : goal.returns
returns g c =
    let o = lawful (g.met.O.TotalOrder.total c.args.order.now) in
    let e : c.loop-low.low ≡ c.loop-low.high = omega arith in
    sym
    (found_not o c.args.x c.args.items.now c.loop-low.low (omega arith) c.loop-low.invariant.2
    (λ k d h l. c.loop-low.invariant.3 k d (omega arith) l))
