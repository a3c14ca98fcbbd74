use Rattle.std.proofs.Common.{◌≡◌, ◌+◌, ◌<◌, [], ◌∷◌, ◌++◌, length, Some, sym, arith}
use Rattle.document.specs.Views.{entry_seen}
use Rattle.record_codec.specs.Layout.{WritableSlot, get_slot, put_slot}
use Rattle.record_codec.proofs.Records.{all_bytes, law_slot}
use Rattle.record.proofs.Indexing.{each_byte, starts_out, halted, finished, goes_on, shorter, slot_long}
use Rattle.record.proofs.scan.scan_entries.Goals as goal

pub loop-i-init : goal.loop-i-init
loop-i-init c = (
  [],
  starts_out (put_slot c.args.keyed) (WritableSlot c.args.keyed) c.args.from.total c.args.from.entries c.args.from.rest.now c.args.places.now (all_bytes c.args.from.rest.now c.args.from.typed),
  omega (arith, c.args.from.room),
)

pub returns-in_err-more : goal.returns-in_err-more
returns-in_err-more c = rw c.from_residual.ensures (halted (law_slot c.args.keyed) c.loop-i.invariant.1 c.args.count c.loop-i-test.true (sym c.in_err-more.ensures))

pub loop-i-preserved : goal.loop-i-preserved
loop-i-preserved c =
    let k = c.args.keyed in
    let x = entry_seen c.in_ok-more.field-0-0 in
    let e : get_slot k c.loop-i.rest.now ≡ Some (x, c.in_ok-more.more.now) = sym c.in_ok-more.ensures in
    let l = shorter (law_slot k) c.loop-i.invariant.1 x c.in_ok-more.more.now e in
    let m = slot_long k x in
    let n : c.args.from.entries + c.loop-i.i < length c.loop-i.places = omega (arith, l, m, c.loop-i.invariant.2) in (
      c.loop-i.invariant.0 ++ x ∷ [],
      goes_on (law_slot k) c.loop-i.invariant.1 x c.in_ok-more.more.now (omega (arith, c.args.from.room)) n e,
      omega (arith, l, m, c.loop-i.invariant.2),
    )

pub invariant_of-result : goal.invariant_of-result
invariant_of-result c = record { typed = each_byte c.loop-i.rest.now c.loop-i.invariant.1.rest; fit = c.args.from.fit; room = omega (arith, c.loop-i.invariant.2) }

pub returns : goal.returns
returns c = record { total = omega arith; next = omega arith; slots = c.loop-i.invariant.0; ran = finished (law_slot c.args.keyed) c.loop-i.invariant.1 c.args.count (omega arith) }
