use Rattle.std.proofs.Common.{length, ◌≡◌, Some, sym, ap, ◌∙◌, arith}
use Rattle.record_codec.specs.Codec.{get32}
use Rattle.record_codec.specs.Seen.{saw, itself}
use Rattle.meaning.specs.Documents.{Doc}
use Rattle.record.specs.Reading.{RanAll}
use Rattle.record.proofs.Indexing.{typed_bytes}
use Rattle.record.proofs.Finding.{opened, count_is, starts_are, firsts_are, places_are}
use Rattle.record.proofs.index.RecordIndex.read.Goals as goal

pub invariant_of-self : goal.invariant_of-self
invariant_of-self c =
    let bs = c.args.bytes.now in
    let B = typed_bytes bs c.type_inv.bytes in
    let e : get32 bs ≡ Some (c.in_ok-count.count, c.in_ok-count.rest.now) = sym c.take_u32.ensures ∙ ap (saw itself) c.in_ok-count.ensures.ok_part in
    let n = c.in_ok-count.count in
    let r = c.in_ok-count.rest.now in
    let end = c.in_ok-end.end.now in
    let s = c.scan.new.self.starts in
    let f = c.scan.new.self.firsts in
    let a = c.scan.new.self.entries in
    let told : (d : Doc) × RanAll n c.start.result.total c.start.result.rest.now s f a end d = rw c.in_ok-end.ensures.ok_part at c.scan.ensures in
    let ran : RanAll n (length bs) r s f a end told.0 = rw (← c.start.ensures.total, ← c.start.ensures.rest) told.1 in
    let h = c.if-bytes-gt-RECORD_BYTES.false in
    let z : length end ≡ 0 = grind (arith, c.is_empty.ensures) in
    record {
      typed = λ j. (c.type_inv.bytes j).fits;
      said = opened bs n r end s f a told.0 B e ran h z;
      counted = count_is bs n r end s f a told.0 B e ran h z;
      started = starts_are bs n r end s f a told.0 B e ran h z;
      numbered = firsts_are bs n r end s f a told.0 B e ran h z;
      indexed = places_are bs n r end s f a told.0 B e ran h z;
    }
