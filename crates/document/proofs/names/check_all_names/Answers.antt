use Rattle.std.proofs.Common.{false, replicate, refl, arith}
use Rattle.document.specs.Laws.{refs_ok}
use Rattle.document.specs.Places.{nth}
use Rattle.document.proofs.Walks.{every_on}
use Rattle.document.proofs.Marking.{none_marked, unmarked, next_clear}
use Rattle.document.proofs.names.check_all_names.Goals as goal

pub loop-i-init : goal.loop-i-init
loop-i-init g c = (refl, none_marked (g.R.Rows.shaped c.args.rows.rows.now).doc (nth (g.R.Rows.shaped c.args.rows.rows.now).doc 0) (replicate 1024 false) (unmarked 1024), refl)

pub loop-i-preserved : goal.loop-i-preserved
loop-i-preserved g c =
    let d = (g.R.Rows.shaped c.args.rows.rows.now).doc in (
      omega (arith, c.check_names_at.auto.marks, c.loop-i.invariant.0),
      next_clear d c.loop-i.i c.check_names_at.new.marks c.args.rows.up (c.check_names_at.ensures.later c.if-not-check_names_at.false),
      every_on (refs_ok d) d c.loop-i.i c.loop-i.invariant.2 c.check_names_at.result c.check_names_at.ensures.test c.if-not-check_names_at.false,
    )
