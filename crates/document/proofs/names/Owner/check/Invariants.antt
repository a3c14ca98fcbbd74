use Rattle.meaning.specs.Entries.{rank}
use Rattle.document.specs.Places.{nth}
use Rattle.document.specs.Steps.{pairs_told}
use Rattle.document.proofs.Marking.{Going}
use Rattle.document.proofs.names.Owner.check.Given as goal

abbrev pub invariant-loop-n : goal.invariant-loop-n
invariant-loop-n g l = Going (g.R.Rows.shaped l.self.rows.rows.now).doc (rank l.self.id) (pairs_told (nth (g.R.Rows.shaped l.self.rows.rows.now).doc l.i)) l.n l.marks
