use Rattle.std.proofs.Common.{drop}
use Rattle.meaning.specs.Documents.{doc_counts}
use Rattle.document.proofs.Counting.{Going}
use Rattle.document.proofs.counts.check_counts.Given as goal

-- what was taken up, and what is still to come
abbrev pub invariant-loop-i : goal.invariant-loop-i
invariant-loop-i g l = Going l.room (doc_counts (drop l.i (g.R.Rows.shaped l.rows).doc)) (doc_counts (g.R.Rows.shaped l.rows).doc)
