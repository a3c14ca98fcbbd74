use Rattle.std.proofs.Common.{length, get_or, sym, ap, ◌∙◌, arith}
use Rattle.packed_rows.specs.Rows.{row}
use Rattle.node_chains.specs.declared.node.Node.{Node}
use Rattle.node_chains.proofs.Frees.{row1_o, node1_o, unlinks}
use Rattle.node_chains.proofs.Sizes.{free_same, same_self, same_then, slices_then, emptied_same, freed_same}
use Rattle.node_chains.proofs.chains.Chains.unlink.Goals as goal

pub free_child-requires : goal.free_child-requires
free_child-requires c =
    let M = c.args.self.now.placing in
    let S = c.empty_node.ensures.sizes in
    let E = emptied_same (same_self c.args.self.now) c.empty_node.new.self c.child_at-child.ensures c.empty_node.ensures.emptied in
    let r1 = row1_o M c.requires.inside c.requires.child E in
    let n1 = node1_o M c.requires.inside c.requires.child E in
    record {
      inside = omega (arith, free_same S, c.requires.inside);
      placed = λ z. c.requires.placed (ap (λ (y : Node). y.parent) (sym n1) ∙ z ∙ free_same S);
      child = omega (arith, ap length r1, c.requires.child);
      bare = ap (row c.empty_node.new.self.starts.now c.empty_node.new.self.chain.now) (ap (λ xs. get_or xs c.args.k 0) r1) ∙ E.empty;
    }

pub returns : goal.returns
returns c =
    let S = c.empty_node.ensures.sizes in
    let E = emptied_same (same_self c.args.self.now) c.empty_node.new.self c.child_at-child.ensures c.empty_node.ensures.emptied in
    record { sizes = same_then S c.free_child.ensures.sizes; slices = slices_then c.empty_node.ensures.slices c.free_child.ensures.slices; unlinked = unlinks c.args.self.now.placing c.requires.inside c.requires.child E (freed_same S c.free_child.new.self c.free_child.ensures.freed) }
