use Rattle.std.proofs.Common.{rules, tests, arith}
use Rattle.document.specs.Laws.{child_ok}
use Rattle.document.proofs.Walks.{every_by_all}
use Rattle.document.proofs.rising.Rising.check_children.Goals as goal

pub returns : goal.returns
returns g c =
    let d = (g.R.Rows.shaped c.args.self.now.rows.now).doc in
    every_by_all d c.count.result (omega (arith, c.count.ensures)) _ _ _ c.all.ensures.ran (child_ok d) (λ i b q k. search (rules, tests))
