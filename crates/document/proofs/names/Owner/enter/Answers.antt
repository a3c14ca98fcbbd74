use Rattle.std.proofs.Common.{arith}
use Rattle.meaning.specs.Entries.{rank}
use Rattle.document.proofs.Marking.{twice, enters}
use Rattle.document.proofs.names.Owner.enter.Goals as goal

pub returns-then-marks-j : goal.returns-then-marks-j
returns-then-marks-j g c seen so =
    twice (g.R.Rows.shaped c.args.self.now.rows.rows.now).doc (rank c.args.self.now.id) (record { kind = c.args.kind; object = c.args.id }) c.args.marks.now seen so c.in-Some.j c.in-Some.ensures c.if-marks-j.true

pub returns : goal.returns
returns g c seen so =
    enters (g.R.Rows.shaped c.args.self.now.rows.rows.now).doc (rank c.args.self.now.id) (record { kind = c.args.kind; object = c.args.id }) c.args.marks.now seen so c.in-Some.j c.in-Some.ensures c.args.self.now.rows.up (omega (arith, c.args.self.now.few)) c.if-marks-j.false
