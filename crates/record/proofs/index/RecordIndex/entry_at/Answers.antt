use Rattle.std.proofs.Common.{◌+◌, get_or, ◌∙◌, arith, rules}
use Rattle.std.proofs.lemmas.List.{take_rest}
use Rattle.record.proofs.Scanning.{text_is, keys_are}
use Rattle.record.proofs.Held.{text_entry, past_count, there, entry_follows}
use Rattle.record.proofs.index.RecordIndex.entry_at.Goals as goal

pub returns-then-eq : goal.returns-then-eq
returns-then-eq c = text_entry c.args.self.now c.in_ok-head.ensures c.args.n (text_is c.in_ok-head.head.kind c.eq.result c.eq.ensures ∙ c.if-eq.true)

pub returns-then-n-count : goal.returns-then-n-count
returns-then-n-count c = past_count c.args.self.now c.in_ok-head.ensures c.args.n (text_is c.in_ok-head.head.kind c.eq.result c.eq.ensures ∙ c.if-eq.false) c.in_ok-count.ensures c.if-n-count.true

pub offset_bounds-self-i : goal.offset_bounds-self-i
offset_bounds-self-i c = omega (arith, (there c.args.self.now c.args.n c.in_ok-head.ensures (text_is c.in_ok-head.head.kind c.eq.result c.eq.ensures ∙ c.if-eq.false) c.in_ok-count.ensures c.if-n-count.false).firsts_room)

pub bounds-self-i : goal.bounds-self-i
bounds-self-i c = omega (arith, (there c.args.self.now c.args.n c.in_ok-head.ensures (text_is c.in_ok-head.head.kind c.eq.result c.eq.ensures ∙ c.if-eq.false) c.in_ok-count.ensures c.if-n-count.false).firsts_room)

pub bounds-self-self : goal.bounds-self-self
bounds-self-self c = omega (arith, (there c.args.self.now c.args.n c.in_ok-head.ensures (text_is c.in_ok-head.head.kind c.eq.result c.eq.ensures ∙ c.if-eq.false) c.in_ok-count.ensures c.if-n-count.false).places_room)

pub slice_bounds-result-count : goal.slice_bounds-result-count
slice_bounds-result-count c = (there c.args.self.now c.args.n c.in_ok-head.ensures (text_is c.in_ok-head.head.kind c.eq.result c.eq.ensures ∙ c.if-eq.false) c.in_ok-count.ensures c.if-n-count.false).fits

pub slice_bounds-result-start : goal.slice_bounds-result-start
slice_bounds-result-start c =
    let f = (there c.args.self.now c.args.n c.in_ok-head.ensures (text_is c.in_ok-head.head.kind c.eq.result c.eq.ensures ∙ c.if-eq.false) c.in_ok-count.ensures c.if-n-count.false).fits in
    search rules

pub returns : goal.returns
returns c =
    let s = c.args.self.now in
    entry_follows s c.args.n c.in_ok-head.ensures (text_is c.in_ok-head.head.kind c.eq.result c.eq.ensures ∙ c.if-eq.false) c.in_ok-count.ensures c.if-n-count.false
    _ _ (keys_are c.in_ok-head.head.kind c.is_sequence.result c.is_sequence.ensures) (take_rest s.bytes.now (get_or s.places.entries (get_or s.places.firsts c.args.i 0 + c.args.n) 0))
