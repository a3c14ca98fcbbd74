use Rattle.ordered_set.specs.Orders.{lawful}
use Rattle.ordered_set.proofs.Members.{taken_place, taken_ordered, taken_without}
use Rattle.ordered_set.proofs.set.OrderedSet.remove.Goals as goal

pub remove_one-requires : goal.remove_one-requires
remove_one-requires g c = (
  taken_place (lawful (g.met.O.TotalOrder.total c.args.order.now)) c.args.self.now c.args.places.now c.args.x c.in-Ok.at c.requires c.in-Ok.ensures,
  c.requires.fits,
)

pub returns-clause-ordered : goal.returns-clause-ordered
returns-clause-ordered g c = taken_ordered (lawful (g.met.O.TotalOrder.total c.args.order.now)) c.args.self.now c.args.places.now c.args.x c.in-Ok.at c.requires c.in-Ok.ensures c.remove_one.new.s c.remove_one.auto.s c.remove_one.ensures

pub returns-clause-without : goal.returns-clause-without
returns-clause-without g c = taken_without (lawful (g.met.O.TotalOrder.total c.args.order.now)) c.args.self.now c.args.places.now c.args.x c.in-Ok.at c.requires c.in-Ok.ensures c.remove_one.new.s c.remove_one.auto.s c.remove_one.ensures
