use Rattle.std.proofs.Common.{◌+◌, ◌-◌, length, sym, ap, ◌∙◌, subst, arith}
use Rattle.packed_rows.specs.Rows.{row}
use Rattle.node_chains.specs.Tree.{relabel, pruned}
use Rattle.node_chains.specs.Chains.{item_at}
use Rattle.node_chains.specs.Changes.{free_row}
use Rattle.node_chains.specs.declared.node.Item.{Item}
use Rattle.node_chains.proofs.Sizes.{free_same, placing_same, slices_then}
use Rattle.node_table.specs.Held.{item_bytes, Used, Dry, Changed, held, refilled}
use Rattle.node_table.proofs.Inserts.{used_high, used_up, bytes_bound}
use Rattle.node_table.proofs.Sums.{below_same}
use Rattle.node_table.proofs.Wipes.{wiped_at, cleared_spelled}
use Rattle.node_table.proofs.Removes.{emptied_shrinks, used_bare}
use Rattle.node_table.proofs.Refills.{item_enough, used_refilled, dry_refilled, changed_refilled}
use Rattle.node_table.proofs.Steps.{refill_same}
use Rattle.node_chains.specs.Changes.{ItemSet}
use Rattle.node_table.proofs.edits.refill.Goals as goal

pub empty_node-requires : goal.empty_node-requires
empty_node-requires g c = record { inside = used_high c.requires.lawful c.requires.used; placed = used_up c.requires.lawful c.requires.used }

pub wipe-requires : goal.wipe-requires
wipe-requires g c =
    let m = c.args.chains.now in
    let n = c.empty_node.new.self in
    let F = free_same c.empty_node.ensures.sizes in
    let a = ap length c.children-from.ensures in
    let b = ap (λ i. length (row m.starts.now m.chain.now i)) c.free_row-free.ensures in
    let d = ap (λ i. length (row n.starts.now n.chain.now i)) F in
    record {
      inside = omega (arith, (emptied_shrinks c.requires.lawful (omega arith) (used_high c.requires.lawful c.requires.used) c.empty_node.ensures.emptied).longer);
      packed = c.requires.packed;
      rows = omega (arith, F, c.requires.rows);
      counted = c.requires.lawful.counted ∙ sym (rw F (below_same (free_row m) (λ i. item_bytes (item_at m.nodes.now i)) (λ i. item_bytes (item_at n.nodes.now i)) (λ x l. ap item_bytes (c.empty_node.ensures.emptied.items x))));
      small = c.requires.small;
    }

pub clear_units-requires : goal.clear_units-requires
clear_units-requires g c = record { packed = c.wipe.ensures.wiped.packed; inside = omega (arith, used_high c.requires.lawful c.requires.used, c.requires.rows); small = omega (arith, c.requires.small) }

pub item-item-requires : goal.item-item-requires
item-item-requires g c = omega (arith, c.wipe.ensures.sizes, c.empty_node.ensures.sizes.nodes, c.requires.lawful.placing.count, used_high c.requires.lawful c.requires.used)

pub set_item-requires : goal.set_item-requires
set_item-requires g c = omega (arith, c.wipe.ensures.sizes, c.empty_node.ensures.sizes.nodes, c.requires.lawful.placing.count, used_high c.requires.lawful c.requires.used)

pub overflow_sub-bytes : goal.overflow_sub-bytes
overflow_sub-bytes g c =
    let m = c.args.chains.now in
    let W = wiped_at (free_same c.empty_node.ensures.sizes) (ap length c.children-from.ensures ∙ ap (λ i. length (row m.starts.now m.chain.now i)) c.free_row-free.ensures) c.wipe.ensures.wiped in
    let M = placing_same c.empty_node.ensures.sizes in
    let I = ap (λ (y : Item). y.string_len) c.item-item.ensures in
    omega (arith, item_enough (used_bare c.requires.lawful c.requires.used M c.empty_node.ensures.emptied W) c.args.c (used_high c.requires.lawful c.requires.used))

pub overflow_add-bytes : goal.overflow_add-bytes
overflow_add-bytes g c =
    let m = c.args.chains.now in
    let W = wiped_at (free_same c.empty_node.ensures.sizes) (ap length c.children-from.ensures ∙ ap (λ i. length (row m.starts.now m.chain.now i)) c.free_row-free.ensures) c.wipe.ensures.wiped in
    let M = placing_same c.empty_node.ensures.sizes in
    omega (arith, bytes_bound (used_bare c.requires.lawful c.requires.used M c.empty_node.ensures.emptied W), c.requires.short, c.args.chains.now.few)

pub returns-clause-slices : goal.returns-clause-slices
returns-clause-slices g c = slices_then (slices_then c.empty_node.ensures.slices c.wipe.ensures.slices) c.set_item.ensures.slices

pub returns-clause-lawful : goal.returns-clause-lawful
returns-clause-lawful g c =
    let m = c.args.chains.now in
    let W = wiped_at (free_same c.empty_node.ensures.sizes) (ap length c.children-from.ensures ∙ ap (λ i. length (row m.starts.now m.chain.now i)) c.free_row-free.ensures) c.wipe.ensures.wiped in
    let M = placing_same c.empty_node.ensures.sizes in
    let I = c.item-item.ensures in
    let S = subst (λ k. ItemSet c.args.c (record { content = c.args.content; conflict = c.args.conflict; key_len = k; string_len = c.args.string_len }) c.wipe.new.chains c.set_item.new.self) (ap (λ (y : Item). y.key_len) I) c.set_item.ensures.set in
    refill_same S c.wipe.ensures.rows.0 c.wipe.ensures.rows.1 (λ xs t s. Used (free_row m) xs t s (c.wipe.new.bytes - c.item-item.result.string_len + c.args.string_len))
    (rw (ap (λ (y : Item). y.string_len) I) (used_refilled c.requires.lawful c.requires.used c.requires.below M c.empty_node.ensures.emptied W c.clear_units.ensures c.args.content c.args.conflict c.args.string_len c.requires.short))

pub returns-clause-dry : goal.returns-clause-dry
returns-clause-dry g c =
    let m = c.args.chains.now in
    let W = wiped_at (free_same c.empty_node.ensures.sizes) (ap length c.children-from.ensures ∙ ap (λ i. length (row m.starts.now m.chain.now i)) c.free_row-free.ensures) c.wipe.ensures.wiped in
    let M = placing_same c.empty_node.ensures.sizes in
    let I = c.item-item.ensures in
    let S = subst (λ k. ItemSet c.args.c (record { content = c.args.content; conflict = c.args.conflict; key_len = k; string_len = c.args.string_len }) c.wipe.new.chains c.set_item.new.self) (ap (λ (y : Item). y.key_len) I) c.set_item.ensures.set in
    refill_same S c.wipe.ensures.rows.0 c.wipe.ensures.rows.1 (λ xs t s. Dry xs (row c.clear_units.new.begins c.clear_units.new.units))
    (dry_refilled c.requires.lawful c.requires.used c.requires.below M c.empty_node.ensures.emptied W c.clear_units.ensures c.args.content c.args.conflict c.args.string_len c.requires.short c.requires.dry)

pub returns-clause-spelled : goal.returns-clause-spelled
returns-clause-spelled g c h =
    let m = c.args.chains.now in
    let W = wiped_at (free_same c.empty_node.ensures.sizes) (ap length c.children-from.ensures ∙ ap (λ i. length (row m.starts.now m.chain.now i)) c.free_row-free.ensures) c.wipe.ensures.wiped in
    let M = placing_same c.empty_node.ensures.sizes in
    cleared_spelled (free_row m) c.args.c c.clear_units.ensures (omega (arith, used_high c.requires.lawful c.requires.used)) (W.spelled h)

pub returns-clause-changed : goal.returns-clause-changed
returns-clause-changed g c keys strings strings2 string ln ls ls2 rs =
    let m = c.args.chains.now in
    let W = wiped_at (free_same c.empty_node.ensures.sizes) (ap length c.children-from.ensures ∙ ap (λ i. length (row m.starts.now m.chain.now i)) c.free_row-free.ensures) c.wipe.ensures.wiped in
    let M = placing_same c.empty_node.ensures.sizes in
    let I = c.item-item.ensures in
    let S = subst (λ k. ItemSet c.args.c (record { content = c.args.content; conflict = c.args.conflict; key_len = k; string_len = c.args.string_len }) c.wipe.new.chains c.set_item.new.self) (ap (λ (y : Item). y.key_len) I) c.set_item.ensures.set in
    refill_same S c.wipe.ensures.rows.0 c.wipe.ensures.rows.1
    (λ xs t s. Changed (row m.starts.now m.chain.now) c.args.c (λ x. relabel (refilled c.args.content c.args.conflict string) (pruned x)) (held m.nodes.now m.starts.now m.chain.now keys strings (row c.args.begins.now c.args.units.now)) (held xs t s keys strings2 (row c.clear_units.new.begins c.clear_units.new.units)))
    (changed_refilled c.requires.lawful c.requires.used c.requires.below M c.empty_node.ensures.emptied W c.clear_units.ensures c.args.content c.args.conflict c.args.string_len c.requires.short keys strings strings2 string ln ls ls2 rs)
