use Rattle.std.proofs.Common.{ap, ◌∙◌, arith}
use Rattle.document.specs.Places.{nth, entry_told}
use Rattle.document.specs.Steps.{pairs_told}
use Rattle.document.specs.Room.{pair_bytes, counts_told}
use Rattle.document.proofs.Pairs.{entry_is, pairs_size}
use Rattle.document.proofs.Counting.{left_some, left_none, left_is, left_not, bytes_step, bytes_end, bytes_told}
use Rattle.document.proofs.row.Row.spend_bytes.Goals as goal

pub returns-in_err-left : goal.returns-in_err-left
returns-in_err-left g c =
    let x = nth (g.R.Rows.shaped c.args.self.now.rows.now).doc c.args.self.now.i in
    let a = left_none c.loop-n.left (pair_bytes (entry_told x c.loop-n.n)) c.in_err-left.ensures in
    let b = ap pair_bytes (entry_is x c.loop-n.n) in
    c.from_residual.ensures ∙ left_not c.args.room (counts_told x).byte_count (omega (arith, a, b, bytes_step (pairs_told x) c.loop-n.n, bytes_told x, c.loop-n.invariant))

pub loop-n-preserved : goal.loop-n-preserved
loop-n-preserved g c =
    let x = nth (g.R.Rows.shaped c.args.self.now.rows.now).doc c.args.self.now.i in
    let a = left_some c.loop-n.left (pair_bytes (entry_told x c.loop-n.n)) c.in_ok-left.left c.in_ok-left.ensures in
    let b = ap pair_bytes (entry_is x c.loop-n.n) in
    omega (arith, a, b, bytes_step (pairs_told x) c.loop-n.n, c.loop-n.invariant)

pub returns : goal.returns
returns g c =
    let x = nth (g.R.Rows.shaped c.args.self.now.rows.now).doc c.args.self.now.i in
    left_is c.args.room (counts_told x).byte_count c.loop-n.left
    (omega (arith, bytes_end (pairs_told x) c.loop-n.n (omega (arith, c.size-n-end.ensures, pairs_size x)), bytes_told x, c.loop-n.invariant))
