use Rattle.std.proofs.Common.{subst, arith}
use Rattle.meaning.specs.Entries.{rank}
use Rattle.document.specs.Marks.{Enters, refs_at}
use Rattle.document.specs.Places.{nth}
use Rattle.document.specs.Steps.{pairs_told}
use Rattle.document.proofs.Pairs.{entry_is, pairs_size}
use Rattle.document.proofs.Marking.{goes_on, stops, all_named}
use Rattle.document.proofs.names.Owner.check.Goals as goal

pub returns-then-not-enter_at-clause-test : goal.returns-then-not-enter_at-clause-test
returns-then-not-enter_at-clause-test g c =
    let d = (g.R.Rows.shaped c.args.self.now.rows.rows.now).doc in
    let x = nth d c.args.i in
    stops d (rank c.args.self.now.id) (pairs_told x) c.loop-n.n c.loop-n.marks c.loop-n.invariant c.enter_at.new.marks c.enter_at.result
    (subst (λ p. Enters d (rank c.args.self.now.id) c.loop-n.invariant.seen (refs_at p) c.enter_at.new.marks c.enter_at.result) (entry_is x c.loop-n.n) (c.enter_at.ensures c.loop-n.invariant.seen c.loop-n.invariant.marked)) c.if-not-enter_at.true

pub loop-n-preserved : goal.loop-n-preserved
loop-n-preserved g c =
    let d = (g.R.Rows.shaped c.args.self.now.rows.rows.now).doc in
    let x = nth d c.args.i in
    goes_on d (rank c.args.self.now.id) (pairs_told x) c.loop-n.n c.loop-n.marks c.loop-n.invariant c.enter_at.new.marks c.enter_at.result
    (subst (λ p. Enters d (rank c.args.self.now.id) c.loop-n.invariant.seen (refs_at p) c.enter_at.new.marks c.enter_at.result) (entry_is x c.loop-n.n) (c.enter_at.ensures c.loop-n.invariant.seen c.loop-n.invariant.marked)) c.if-not-enter_at.false

pub returns-clause-test : goal.returns-clause-test
returns-clause-test g c =
    let d = (g.R.Rows.shaped c.args.self.now.rows.rows.now).doc in
    let x = nth d c.args.i in
    all_named d (rank c.args.self.now.id) (pairs_told x) c.loop-n.n c.loop-n.marks c.loop-n.invariant (omega (arith, c.size-n-end.ensures, pairs_size x))
