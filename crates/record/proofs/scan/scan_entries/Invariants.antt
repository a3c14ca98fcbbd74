use Rattle.std.proofs.Common.{◌+◌, ◌*◌, ◌≤◌, List, length}
use Rattle.record_codec.specs.Layout.{Slot, WritableSlot, put_slot}
use Rattle.record.proofs.Indexing.{Going}
use Rattle.record.proofs.scan.scan_entries.Given as goal

abbrev pub invariant-loop-i : goal.invariant-loop-i
invariant-loop-i l = (done : List Slot) × (Going (put_slot l.keyed) (WritableSlot l.keyed) l.i l.from.total l.from.entries l.from.rest.now l.initial.places l.places l.rest done) × (16 * (l.from.entries + l.i) + length l.rest ≤ l.from.total)
