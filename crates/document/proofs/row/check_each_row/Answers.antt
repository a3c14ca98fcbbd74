use Rattle.std.proofs.Common.{rules, tests, arith}
use Rattle.document.specs.Laws.{row_ok}
use Rattle.document.proofs.Walks.{every_by_all}
use Rattle.document.proofs.row.check_each_row.Goals as goal

pub returns : goal.returns
returns g c = every_by_all (g.R.Rows.shaped c.args.rows.now).doc c.count.result (omega (arith, c.count.ensures)) _ _ _ c.all.ensures.ran row_ok (λ i b q k. search (rules, tests))
