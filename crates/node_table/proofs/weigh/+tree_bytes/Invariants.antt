use Rattle.std.proofs.Common.{◌≡◌, ◌+◌, ◌-◌, map, take}
use Rattle.packed_rows.specs.Rows.{row}
use Rattle.node_chains.specs.Tree.{forest, weights}
use Rattle.node_chains.specs.Chains.{item_at, lev_at, under}
use Rattle.node_table.specs.Held.{item_bytes}
use Rattle.node_table.proofs.weigh.+tree_bytes.Given as goal

abbrev pub decreases-tree_bytes : goal.decreases-tree_bytes
decreases-tree_bytes l = 17 - lev_at l.nodes.now l.c

abbrev pub invariant-loop-child : goal.invariant-loop-child
invariant-loop-child l = l.sum ≡ item_bytes (item_at l.nodes l.c) + weights (forest (map (under l.starts l.chain 17) (take l.child-index (row l.starts l.chain l.c)))) (λ i. item_bytes (item_at l.nodes i))
