use Rattle.std.proofs.Common.{sym, refl, ◌∙◌}
use Rattle.record.proofs.Scanning.{text_row, text_is, keys_are, row_indexed}
use Rattle.record.proofs.scan.scan_row.Goals as goal

pub returns-then-eq : goal.returns-then-eq
returns-then-eq c =
    let t = text_is c.args.kind c.eq.result c.eq.ensures ∙ c.if-eq.true in
    let from = c.args.from in
    let row = text_row c.args.kind from.total from.entries from.rest.now c.args.places.now _ c.in_ok-rest.rest.now t (sym c.in_ok-rest.ensures) in
    rw (c.over.ensures.total, c.over.ensures.rest, c.over.ensures.entries) (refl, row)

pub returns : goal.returns
returns c =
    row_indexed c.args.kind c.args.from c.over-2.result c.args.places.now c.scan_entries.new.places c.scan_entries.result (text_is c.args.kind c.eq.result c.eq.ensures ∙ c.if-eq.false) (keys_are c.args.kind c.is_sequence.result c.is_sequence.ensures)
    c.in_ok-count.ensures c.over-2.ensures.total c.over-2.ensures.rest c.over-2.ensures.entries c.scan_entries.ensures
