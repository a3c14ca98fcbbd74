use Rattle.std.proofs.Common.{◌-◌, ◌<◌, ◌∙◌, sym, ap, arith}
use Rattle.node_chains.specs.Chains.{up_at, lev_at}
use Rattle.node_chains.proofs.Frees.{ends_going, some, child_up, child_lev, lev_i, some1, bare1, up1, goes_on}
use Rattle.node_chains.proofs.Sizes.{free_same, same_then, slices_then, placing_same, emptied_same, freed_same}
use Rattle.node_chains.proofs.chains.Chains.+free_children.Goals as goal

pub overflow_sub-depth : goal.overflow_sub-depth
overflow_sub-depth t c =
    let m : 0 < c.loop-n.n = omega arith in
    omega (arith, lev_i c.args.self.now.placing c.requires.inside c.requires.placed c.loop-n.invariant.going m, c.requires.deep)

pub free_children-requires : goal.free_children-requires
free_children-requires t c =
    let M = c.args.self.now.placing in
    let G = c.loop-n.invariant.going in
    let m : 0 < c.loop-n.n = omega arith in
    let e = c.child_at-child.ensures in
    let f = free_same c.loop-n.invariant.sizes in
    let l = lev_i M c.requires.inside c.requires.placed G m in
    let v = child_lev M c.requires.inside c.requires.placed G m in
    let h = G.lawful.high c.args.i (c.loop-n.n - 1) (some M c.requires.inside c.requires.placed G m) in
    let a = ap (lev_at c.loop-n.self.nodes.now) e in
    (omega arith, (omega arith, ((λ z. child_up M c.requires.inside c.requires.placed G m (ap (up_at c.loop-n.self.nodes.now) (sym e) ∙ z ∙ f)), omega (arith, c.requires.deep))))

pub free_child-requires : goal.free_child-requires
free_child-requires t c =
    let M = c.args.self.now.placing in
    let G = c.loop-n.invariant.going in
    let m : 0 < c.loop-n.n = omega arith in
    let f = free_same (same_then c.loop-n.invariant.sizes c.free_children.ensures.sizes) in
    let E = emptied_same c.loop-n.invariant.sizes c.free_children.new.self c.child_at-child.ensures c.free_children.ensures.emptied in
    record {
      inside = omega (arith, c.requires.inside);
      placed = λ z. up1 M c.requires.inside c.requires.placed G m E (z ∙ f);
      child = some1 M c.requires.inside c.requires.placed G m E;
      bare = bare1 M c.requires.inside c.requires.placed G m E;
    }

pub loop-n-preserved : goal.loop-n-preserved
loop-n-preserved t c =
    let M = c.args.self.now.placing in
    let G = c.loop-n.invariant.going in
    let m : 0 < c.loop-n.n = omega arith in
    let S = same_then c.loop-n.invariant.sizes c.free_children.ensures.sizes in
    let S2 = same_then S c.free_child.ensures.sizes in
    let E = emptied_same c.loop-n.invariant.sizes c.free_children.new.self c.child_at-child.ensures c.free_children.ensures.emptied in
    let L = slices_then (slices_then c.loop-n.invariant.slices c.free_children.ensures.slices) c.free_child.ensures.slices in
    record { sizes = S2; slices = L; going = goes_on M c.requires.inside c.requires.placed G m E (placing_same S2) (freed_same S c.free_child.new.self c.free_child.ensures.freed) }

pub returns-clause-emptied : goal.returns-clause-emptied
returns-clause-emptied t c = ends_going c.args.self.now.placing c.requires.inside c.requires.deep c.loop-n.invariant.going (omega arith)
