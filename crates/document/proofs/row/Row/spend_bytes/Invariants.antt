use Rattle.std.proofs.Common.{◌≡◌, ◌+◌, drop}
use Rattle.meaning.specs.Documents.{pairs_counts}
use Rattle.document.specs.Places.{nth}
use Rattle.document.specs.Steps.{pairs_told}
use Rattle.document.proofs.row.Row.spend_bytes.Given as goal

-- what was spent, and what is still to come
abbrev pub invariant-loop-n : goal.invariant-loop-n
invariant-loop-n g l =
    l.room + (pairs_counts (drop l.n (pairs_told (nth (g.R.Rows.shaped l.self.rows.now).doc l.self.i)))).byte_count
    ≡ l.left + (pairs_counts (pairs_told (nth (g.R.Rows.shaped l.self.rows.now).doc l.self.i))).byte_count
