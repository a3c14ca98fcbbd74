use Rattle.std.proofs.Common.{◌≡◌, ◌<◌, [], ◌∷◌, ◌++◌, length, sym, refl, ap, ◌∙◌, arith}
use Rattle.record_codec.specs.Layout.{get_row, object_as}
use Rattle.record_codec.proofs.Records.{all_bytes}
use Rattle.record.specs.Reading.{RanRow}
use Rattle.record.proofs.Scanning.{filling_starts, no_head, no_row, row_room, filling_ends, filling_on}
use Rattle.record.proofs.places.Places.scan.Goals as goal

pub loop-i-init : goal.loop-i-init
loop-i-init c =
    let from = c.args.from in
    ([], rw c.requires (filling_starts from.total from.rest.now c.args.self.now.starts c.args.self.now.firsts c.args.self.now.entries (all_bytes from.rest.now from.typed) (omega (arith, from.room))), refl)

pub returns-in_err-head : goal.returns-in_err-head
returns-in_err-head c = rw c.from_residual.ensures (no_head c.loop-i.invariant.1 c.args.count c.loop-i-test.true (sym c.in_err-head.ensures))

pub over-requires : goal.over-requires
over-requires c = row_room c.loop-i.invariant.1 (sym c.in_ok-head.ensures)

pub returns-in_err-next : goal.returns-in_err-next
returns-in_err-next c = rw c.from_residual-in_err-next.ensures
    (no_row c.loop-i.invariant.1 (sym c.in_ok-head.ensures) c.args.count c.loop-i-test.true (ap (get_row c.in_ok-head.head.kind) (sym c.over.ensures.rest) ∙ c.in_err-next.ensures))

pub bounds-self-i : goal.bounds-self-i
bounds-self-i c = omega (arith, c.loop-i.invariant.1.objects_room, c.args.from.fit)

pub bounds-self-i-in-loop-i : goal.bounds-self-i-in-loop-i
bounds-self-i-in-loop-i c = omega (arith, c.loop-i.invariant.1.objects_room, c.args.from.fit)

pub offset_bounds-self-i : goal.offset_bounds-self-i
offset_bounds-self-i c = omega (arith, c.loop-i.invariant.1.objects_room, c.args.from.fit)

pub offset_bounds-self-i-in-loop-i : goal.offset_bounds-self-i-in-loop-i
offset_bounds-self-i-in-loop-i c = omega (arith, c.loop-i.invariant.1.objects_room, c.args.from.fit)

pub loop-i-preserved : goal.loop-i-preserved
loop-i-preserved c =
    let f = c.loop-i.invariant.1 in
    let at = c.loop-i.at in
    let h = c.in_ok-head.head in
    let next = c.in_ok-next.next in
    let over = c.over.ensures in
    let row : (next.total ≡ c.over.result.total) × RanRow h.kind c.over.result.total c.over.result.entries c.over.result.rest.now c.loop-i.self.entries c.scan_row.new.places next.entries next.rest.now = c.in_ok-next.ensures in
    let ran : RanRow h.kind c.args.from.total at.entries c.in_ok-head.row.now c.loop-i.self.entries c.scan_row.new.places next.entries next.rest.now =
    rw (← c.loop-i.invariant.2, ← over.total, ← over.entries, ← over.rest) row.1 in
    let k = f.objects_room in
    let a : c.loop-i.i < length c.loop-i.self.starts = omega (arith, k, c.args.from.fit) in
    let b : c.loop-i.i < length c.loop-i.self.firsts = omega (arith, k, c.args.from.fit) in (
      c.loop-i.invariant.0 ++ object_as h ran.row ∷ [],
      rw (c.place.ensures, c.loop-i.invariant.2) (filling_on f (sym c.in_ok-head.ensures) c.scan_row.new.places next.entries next.rest.now ran (omega (arith, c.args.from.room)) a b),
      row.0 ∙ (over.total ∙ c.loop-i.invariant.2),
    )

pub returns : goal.returns
returns c = (c.loop-i.invariant.0, filling_ends c.loop-i.invariant.1 c.args.count (omega arith))
