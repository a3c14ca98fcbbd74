use Rattle.std.proofs.Common.{◌-◌, ◌*◌, ◌<◌, length, refl, ap, sym, ◌∙◌, subst, arith}
use Rattle.sequence_tree.specs.Lists.{Replaced}
use Rattle.packed_rows.specs.Rows.{row}
use Rattle.node_chains.specs.Changes.{free_row}
use Rattle.node_chains.proofs.Sizes.{placing_same}
use Rattle.node_table.proofs.Inserts.{used_high, used_up, bytes_bound, used_more, dry_more, changed_more}
use Rattle.node_table.proofs.Steps.{moved_at}
use Rattle.node_table.proofs.Ways.{stands_more}
use Rattle.node_table.proofs.edits.put_child.Goals as goal

pub move_child-place-requires-clause-apart : goal.move_child-place-requires-clause-apart
move_child-place-requires-clause-apart g c =
    let f = c.free_row-free.ensures in
    ((λ e. omega (arith, used_high c.requires.lawful c.requires.used)), (λ e. used_up c.requires.lawful c.requires.used (e ∙ f)))

pub move_child-place-requires-clause-placed : goal.move_child-place-requires-clause-placed
move_child-place-requires-clause-placed g c = ((λ e. c.free_row-free.ensures), (λ e. absurd (used_up c.requires.lawful c.requires.used e)))

pub overflow_add-bytes-2 : goal.overflow_add-bytes-2
overflow_add-bytes-2 g c = omega (arith, bytes_bound c.requires.lawful, c.args.chains.now.few, c.requires.short.0, c.requires.short.1)

pub returns-clause-lawful : goal.returns-clause-lawful
returns-clause-lawful g c =
    let m = c.args.chains.now in
    let V = moved_at c.free_row-free.ensures c.move_child-place.ensures.moved in
    let M = placing_same c.move_child-place.ensures.sizes in
    let a = ap length c.children.ensures in
    let b = ap (λ i. length (row m.starts.now m.chain.now i)) c.free_row-free.ensures in
    let k : length c.children.result.now - 1 < length (row m.starts.now m.chain.now (free_row m)) = omega (arith, c.requires.room) in
    used_more c.requires.lawful V M c.requires.used c.requires.container c.requires.deep k c.requires.position c.requires.short

pub returns-clause-dry : goal.returns-clause-dry
returns-clause-dry g c =
    let m = c.args.chains.now in
    let V = moved_at c.free_row-free.ensures c.move_child-place.ensures.moved in
    let M = placing_same c.move_child-place.ensures.sizes in
    let a = ap length c.children.ensures in
    let b = ap (λ i. length (row m.starts.now m.chain.now i)) c.free_row-free.ensures in
    let k : length c.children.result.now - 1 < length (row m.starts.now m.chain.now (free_row m)) = omega (arith, c.requires.room) in
    λ u D. dry_more c.requires.lawful V M c.requires.used c.requires.container c.requires.deep k c.requires.position c.requires.short u D

pub returns-clause-changed : goal.returns-clause-changed
returns-clause-changed g c =
    let m = c.args.chains.now in
    let V = moved_at c.free_row-free.ensures c.move_child-place.ensures.moved in
    let M = placing_same c.move_child-place.ensures.sizes in
    let a = ap length c.children.ensures in
    let b = ap (λ i. length (row m.starts.now m.chain.now i)) c.free_row-free.ensures in
    let k : length c.children.result.now - 1 < length (row m.starts.now m.chain.now (free_row m)) = omega (arith, c.requires.room) in
    let e = c.child_at-n.ensures ∙ sym c.move_child-place.ensures.moved.was in
    let rk = subst (λ x. Replaced c.args.keys.now c.write_key.new.keys (length c.args.keys.now) (64 * x) (length c.args.key.now) c.args.key.now) e c.write_key.ensures in
    let rs = subst (λ x. Replaced c.args.strings.now c.write_string.new.strings (length c.args.strings.now) (256 * x) (length c.args.string.now) c.args.string.now) e c.write_string.ensures in
    λ u D. changed_more c.requires.lawful V M c.requires.used c.requires.container c.requires.deep k c.requires.position c.requires.short
    c.args.keys.now c.write_key.new.keys c.args.strings.now c.write_string.new.strings c.args.key.now c.args.string.now u D refl refl c.requires.slots.0 c.requires.slots.1 c.write_key.auto.keys c.write_string.auto.strings rk rs

pub returns-clause-stands : goal.returns-clause-stands
returns-clause-stands g c = stands_more c.requires.lawful (moved_at c.free_row-free.ensures c.move_child-place.ensures.moved)
