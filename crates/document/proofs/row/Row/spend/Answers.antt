use Rattle.std.proofs.Common.{◌<◌, leb, ◌∙◌, inl, inr, arith}
use Rattle.std.proofs.lemmas.Bool.{and_left, lt-leb, cases_lt}
use Rattle.document.specs.Places.{nth}
use Rattle.document.specs.Room.{counts_told}
use Rattle.document.proofs.Counting.{entries_told_lem, taken_not, taken_is, left_some}
use Rattle.document.proofs.row.Row.spend.Goals as goal

pub returns-in_err-checked_sub-in-None : goal.returns-in_err-checked_sub-in-None
returns-in_err-checked_sub-in-None g c =
    let x = nth (g.R.Rows.shaped c.args.self.now.rows.now).doc c.args.self.now.i in
    let t = entries_told_lem x c.in-None.ensures in
    let h : c.args.room.entries < (counts_told x).entry_count = elim (cases_lt c.args.room.entries c.size.result) [ inl m ↦ omega (arith, m, t.0, c.size.ensures) | inr m ↦ absurd (c.in_err-checked_sub-in-None.ensures m) ] in
    c.from_residual-in_err-checked_sub-in-None.ensures ∙ taken_not c.args.room (counts_told x) (and_left (leb (counts_told x).entry_count c.args.room.entries) _ (lt-leb _ _ h))

pub returns-in_ok-spend_bytes-in-None : goal.returns-in_ok-spend_bytes-in-None
returns-in_ok-spend_bytes-in-None g c =
    let x = nth (g.R.Rows.shaped c.args.self.now.rows.now).doc c.args.self.now.i in
    let t = entries_told_lem x c.in-None.ensures in
    let b = left_some c.args.room.bytes (counts_told x).byte_count c.in_ok-spend_bytes-in-None.field-0 c.in_ok-spend_bytes-in-None.ensures in
    let e = c.in_ok-checked_sub-in-None.ensures in
    taken_is c.args.room (counts_told x) c.in_ok-checked_sub-in-None.field-0 c.in_ok-spend_bytes-in-None.field-0 (omega (arith, e.0, e.1, t.0, c.size.ensures)) t.1 b
