use Rattle.std.proofs.Common.{◌≡◌, ℕ, ◌+◌, ◌<◌, map, length, slice_index, ap, ◌∙◌, arith}
use Rattle.std.proofs.lemmas.List.{take_all}
use Rattle.packed_rows.specs.Rows.{row}
use Rattle.node_chains.specs.Tree.{forest, weight, weights}
use Rattle.node_chains.specs.Chains.{item_at, under}
use Rattle.node_table.specs.Held.{item_bytes}
use Rattle.node_table.proofs.Inserts.{used_high}
use Rattle.node_table.proofs.Weighing.{weights_more, used_child, less_below, weight_children, bytes_front}
use Rattle.node_table.proofs.weigh.+tree_bytes.Goals as goal

pub offset_bounds-nodes-c : goal.offset_bounds-nodes-c
offset_bounds-nodes-c t c = omega (arith, used_high c.requires.lawful.1 c.requires.used, c.requires.small)

pub bounds-nodes-c : goal.bounds-nodes-c
bounds-nodes-c t c = omega (arith, used_high c.requires.lawful.1 c.requires.used, c.requires.lawful.1.placing.count)

pub tree_bytes-sum-requires : goal.tree_bytes-sum-requires
tree_bytes-sum-requires t c =
    let R = row c.args.starts.now c.args.chain.now c.args.c in
    let e = c.row_of-child-items.ensures in
    let k : c.loop-child.child-index < length R = let a = ap length e in omega arith in
    let x : slice_index c.row_of-child-items.result.now c.loop-child.child-index ≡ slice_index R c.loop-child.child-index = ap (λ xs. slice_index xs c.loop-child.child-index) e in
    (omega (arith, less_below c.requires.lawful.1 c.requires.used k x), (c.requires.lawful, (used_child c.requires.lawful.1 c.requires.used k x, c.requires.small)))

pub overflow_add-sum : goal.overflow_add-sum
overflow_add-sum t c =
    let R = row c.args.starts.now c.args.chain.now c.args.c in
    let G = under c.args.starts.now c.args.chain.now 17 in
    let w : ℕ → ℕ = λ i. item_bytes (item_at c.args.nodes.now i) in
    let e = c.row_of-child-items.ensures in
    let k : c.loop-child.child-index < length R = let a = ap length e in omega arith in
    let x : slice_index c.row_of-child-items.result.now c.loop-child.child-index ≡ slice_index R c.loop-child.child-index = ap (λ xs. slice_index xs c.loop-child.child-index) e in
    let a = weights_more w G R c.loop-child.child-index k in
    let b = bytes_front c.requires.lawful.1 c.requires.used (c.loop-child.child-index + 1) in
    let d = c.tree_bytes-sum.ensures.sum ∙ ap (λ y. weight (G y) w) x in
    omega (arith, c.loop-child.invariant, c.requires.small)

pub loop-child-preserved : goal.loop-child-preserved
loop-child-preserved t c =
    let R = row c.args.starts.now c.args.chain.now c.args.c in
    let G = under c.args.starts.now c.args.chain.now 17 in
    let w : ℕ → ℕ = λ i. item_bytes (item_at c.args.nodes.now i) in
    let e = c.row_of-child-items.ensures in
    let k : c.loop-child.child-index < length R = let a = ap length e in omega arith in
    let x : slice_index c.row_of-child-items.result.now c.loop-child.child-index ≡ slice_index R c.loop-child.child-index = ap (λ xs. slice_index xs c.loop-child.child-index) e in
    let a = weights_more w G R c.loop-child.child-index k in
    let d = c.tree_bytes-sum.ensures.sum ∙ ap (λ y. weight (G y) w) x in
    omega (arith, c.loop-child.invariant)

pub returns : goal.returns
returns t c =
    let R = row c.args.starts.now c.args.chain.now c.args.c in
    let G = under c.args.starts.now c.args.chain.now 17 in
    let w : ℕ → ℕ = λ i. item_bytes (item_at c.args.nodes.now i) in
    let l = ap length c.row_of-child-items.ensures in
    let h = weight_children c.requires.lawful.1 w c.args.c (used_high c.requires.lawful.1 c.requires.used) in
    let a = ap (λ xs. weights (forest (map G xs)) w) (take_all c.loop-child.child-index R (omega arith)) in
    record { inside = omega (arith, used_high c.requires.lawful.1 c.requires.used, c.requires.lawful.1.placing.count); sum = omega (arith, c.loop-child.invariant) }
