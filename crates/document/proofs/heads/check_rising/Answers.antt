use Rattle.std.proofs.Common.{rules, tests, arith}
use Rattle.document.specs.Laws.{earlier}
use Rattle.document.proofs.Walks.{chained_by_all}
use Rattle.document.proofs.heads.check_rising.Goals as goal

pub returns : goal.returns
returns g c = chained_by_all (g.R.Rows.shaped c.args.rows.now).doc c.count.result (omega (arith, c.count.ensures)) _ _ _ c.all.ensures.ran earlier (λ i b q k. search (rules, tests))
