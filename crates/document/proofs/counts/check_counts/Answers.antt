use Rattle.document.proofs.Counting.{counts_on}
use Rattle.document.proofs.counts.check_counts.Goals as goal

pub loop-i-preserved : goal.loop-i-preserved
loop-i-preserved g c = counts_on (g.R.Rows.shaped c.args.rows.now).doc c.loop-i.i c.loop-i.room c.loop-i.invariant c.in-Some.next c.in-Some.ensures
