use Rattle.std.proofs.Common.{◌+◌, ◌∷◌, drop, sym, ap, ◌∙◌}
use Rattle.sequence_tree.specs.Sequences.{held}
use Rattle.patch.specs.Told.{patch_told, told_forward}
use Rattle.patch.specs.Walk.{parts_at}
use Rattle.patch.proofs.Walks.{nth_some}
use Rattle.patch.proofs.memory.PatchMemory.next.Goals as goal

pub returns : goal.returns
returns g c =
    let m = c.args.self.now in
    let k = c.args.at in
    let s = rw c.as_slice.ensures at c.part-step.ensures in
    let v = rw (c.as_slice-2.ensures, c.value_count.ensures) at c.part-value.ensures in
    let u = rw (c.as_slice-3.ensures, c.unit_count.ensures) at c.part-unit.ensures in
    let b = rw c.as_slice-4.ensures at c.part-byte.ensures in
    ap (λ rs. told_forward rs (parts_at m k)) (nth_some (held m.rows) k.row c.in_ok-row.row (sym c.get.ensures ∙ c.in_ok-row.was))
    ∙ sym (λ i. patch_told c.in_ok-row.row (record { steps = s.here i; values = v.here i; units = u.here i; bytes = b.here i }) ∷ told_forward (drop (k.row + 1) (held m.rows)) (record { steps = s.past i; values = v.past i; units = u.past i; bytes = b.past i }))
