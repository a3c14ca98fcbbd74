use Rattle.std.proofs.Common.{◌≡◌}
use Rattle.node_chains.specs.Changes.{free_row, SameSlices}
use Rattle.node_table.specs.Held.{Wiped}
use Rattle.node_table.proofs.edits.wipe.Given as goal

abbrev pub invariant-loop-p : goal.invariant-loop-p
invariant-loop-p g l = record {
  slices : SameSlices l.fn.chains l.chains;
  starts : l.chains.starts.now ≡ l.fn.chains.starts.now;
  chain : l.chains.chain.now ≡ l.fn.chains.chain.now;
  wiped : Wiped (free_row l.fn.chains) l.from l.p l.fn.chains.nodes.now l.chains.nodes.now l.fn.chains.starts.now l.fn.chains.chain.now l.fn.begins l.begins l.fn.units l.units l.bytes;
}
