use Rattle.std.proofs.Common.{rules, tests, ◌+◌, ap, ◌∙◌, arith}
use Rattle.document.specs.Laws.{key_before}
use Rattle.document.specs.Places.{nth, entry_told}
use Rattle.document.specs.Steps.{ordered, pairs_told}
use Rattle.document.proofs.Walks.{chained_by_all}
use Rattle.document.proofs.Pairs.{entry_is, pairs_size}
use Rattle.document.proofs.row.Row.check_chain.Goals as goal

pub returns : goal.returns
returns g c =
    let x = nth (g.R.Rows.shaped c.args.self.now.rows.now).doc c.args.self.now.i in
    chained_by_all (pairs_told x) c.size.result (omega (arith, c.size.ensures, pairs_size x)) _ _ _ c.all.ensures.ran key_before (λ n b q k.
    let e = ap (λ p. ordered key_before p (entry_told x (n + 1))) (entry_is x n) ∙ ap (ordered key_before (nth (pairs_told x) n)) (entry_is x (n + 1)) in search (rules, tests))
