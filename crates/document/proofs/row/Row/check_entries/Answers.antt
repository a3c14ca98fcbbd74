use Rattle.std.proofs.Common.{rules, tests, ap, arith}
use Rattle.document.specs.Laws.{good_pair}
use Rattle.document.specs.Places.{nth}
use Rattle.document.specs.Steps.{passes, pairs_told}
use Rattle.document.proofs.Walks.{every_by_all}
use Rattle.document.proofs.Pairs.{entry_is, pairs_size}
use Rattle.document.proofs.row.Row.check_entries.Goals as goal

pub returns : goal.returns
returns g c =
    let x = nth (g.R.Rows.shaped c.args.self.now.rows.now).doc c.args.self.now.i in
    every_by_all (pairs_told x) c.size.result (omega (arith, c.size.ensures, pairs_size x)) _ _ _ c.all.ensures.ran good_pair (λ n b q k. let e = ap (passes good_pair) (entry_is x n) in search (rules, tests))
