use Rattle.std.proofs.Common.{◌-◌}
use Rattle.node_chains.specs.Chains.{Going}
use Rattle.node_chains.specs.Changes.{free_row, SameSizes, SameSlices}
use Rattle.node_chains.proofs.chains.Chains.+free_children.Given as goal

abbrev pub decreases-free_children : goal.decreases-free_children
decreases-free_children l = l.depth

abbrev pub invariant-loop-n : goal.invariant-loop-n
invariant-loop-n l = record {
  sizes : SameSizes l.fn.self l.self;
  slices : SameSlices l.fn.self l.self;
  going : Going (free_row l.fn.self) l.i (l.depth - 1) l.n l.fn.self.nodes.now l.self.nodes.now l.fn.self.starts.now l.fn.self.chain.now l.self.starts.now l.self.chain.now;
}
