use Rattle.std.proofs.Common.{get_or, arith, rules}
use Rattle.std.proofs.lemmas.List.{take_rest}
use Rattle.record.proofs.Held.{starts_fit, past_last, head_fits, head_found}
use Rattle.record.proofs.index.RecordIndex.row_at.Goals as goal

pub returns-then-i-self : goal.returns-then-i-self
returns-then-i-self c = past_last c.args.self.now c.args.i c.if-i-self.true

pub bounds-self-i : goal.bounds-self-i
bounds-self-i c = omega (arith, starts_fit c.args.self.now)

pub offset_bounds-self-i : goal.offset_bounds-self-i
offset_bounds-self-i c = omega (arith, starts_fit c.args.self.now)

pub slice_bounds-take_head-count : goal.slice_bounds-take_head-count
slice_bounds-take_head-count c = head_fits c.args.self.now c.args.i c.if-i-self.false

pub slice_bounds-take_head-start : goal.slice_bounds-take_head-start
slice_bounds-take_head-start c = let f = head_fits c.args.self.now c.args.i c.if-i-self.false in search rules

pub returns : goal.returns
returns c =
    let s = c.args.self.now in
    head_found s c.args.i c.take_head.result _ (take_rest s.bytes.now (get_or s.places.starts c.args.i 0)) c.take_head.ensures c.if-i-self.false
