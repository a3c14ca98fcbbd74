use Rattle.std.proofs.Common.{◌≡◌, length, drop}
use Rattle.document.specs.Laws.{every, refs_ok}
use Rattle.document.specs.Marks.{ClearAt}
use Rattle.document.specs.Places.{nth}
use Rattle.document.proofs.names.check_all_names.Given as goal

abbrev pub invariant-loop-i : goal.invariant-loop-i
invariant-loop-i g l =
    (length l.marks ≡ 1024)
    × ClearAt (g.R.Rows.shaped l.rows.rows.now).doc (nth (g.R.Rows.shaped l.rows.rows.now).doc l.i) l.marks
    × (every (refs_ok (g.R.Rows.shaped l.rows.rows.now).doc) (drop l.i (g.R.Rows.shaped l.rows.rows.now).doc) ≡ every (refs_ok (g.R.Rows.shaped l.rows.rows.now).doc) (g.R.Rows.shaped l.rows.rows.now).doc)
