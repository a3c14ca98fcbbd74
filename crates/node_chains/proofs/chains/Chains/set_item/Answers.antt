use Rattle.std.proofs.Common.{arith}
use Rattle.node_chains.proofs.Items.{placing_item, length_item}
use Rattle.node_chains.proofs.Sizes.{placing_last}
use Rattle.node_chains.proofs.chains.Chains.set_item.Goals as goal

pub invariant_of-self : goal.invariant_of-self
invariant_of-self c =
    let m = c.args.self.now in
    let e = length_item c.args.i m.nodes.now c.args.item c.requires in
    record { placing = placing_last _ _ e (placing_item c.args.i m.nodes.now c.args.item c.requires m.placing); few = omega arith; short = m.short }
