use Rattle.std.proofs.Common.{arith}
use Rattle.node_chains.proofs.Sizes.{placing_last}
use Rattle.node_chains.proofs.chains.Chains.move_child.Goals as goal

pub invariant_of-self : goal.invariant_of-self
invariant_of-self c = record { placing = placing_last _ _ c.relink.auto.nodes c.relink.ensures.lawful; few = omega arith; short = omega arith }
