use Rattle.std.proofs.Common.{arith}
use Rattle.ordered_set.specs.Orders.{lawful}
use Rattle.ordered_set.proofs.Members.{put_place, put_ordered, put_with}
use Rattle.ordered_set.proofs.set.OrderedSet.insert.Goals as goal

pub insert_one-requires : goal.insert_one-requires
insert_one-requires g c = (
  put_place (lawful (g.met.O.TotalOrder.total c.args.order.now)) c.args.self.now c.args.places.now c.args.x c.in-Err.at c.requires.fits c.in-Err.ensures,
  omega arith,
)

pub returns-clause-ordered : goal.returns-clause-ordered
returns-clause-ordered g c = put_ordered (lawful (g.met.O.TotalOrder.total c.args.order.now)) c.args.self.now c.args.places.now c.insert_one.new.s c.args.x c.in-Err.at c.requires c.in-Err.ensures (omega arith) c.insert_one.auto.s c.insert_one.ensures

pub returns-clause-with : goal.returns-clause-with
returns-clause-with g c _ = put_with (lawful (g.met.O.TotalOrder.total c.args.order.now)) c.args.self.now c.args.places.now c.insert_one.new.s c.args.x c.in-Err.at c.requires c.in-Err.ensures (omega arith) c.insert_one.auto.s c.insert_one.ensures
