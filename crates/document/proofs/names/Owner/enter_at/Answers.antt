use Rattle.std.proofs.Common.{ℕ, true, List, sym, subst}
use Rattle.meaning.specs.Entries.{rank}
use Rattle.std.specs.Borrow.{Bor}
use Rattle.types.specs.declared.value.ValueOf.{ValueOf}
use Rattle.document.specs.Laws.{ref_of}
use Rattle.document.specs.Views.{content_seen}
use Rattle.document.specs.Marks.{Enters, refs_at}
use Rattle.document.proofs.Marking.{enters_none}
use Rattle.document.proofs.names.Owner.enter_at.Goals as goal

pub returns-in_default : goal.returns-in_default
returns-in_default g c seen so =
    let d = (g.R.Rows.shaped c.args.self.now.rows.rows.now).doc in
    subst (λ p. Enters d (rank c.args.self.now.id) seen (refs_at p) c.args.marks.now true) c.in_default.ensures (enters_none d (rank c.args.self.now.id) c.args.marks.now seen so)

pub returns-in-Scalar : goal.returns-in-Scalar
returns-in-Scalar g c seen so =
    let d = (g.R.Rows.shaped c.args.self.now.rows.rows.now).doc in
    subst (λ p. Enters d (rank c.args.self.now.id) seen (refs_at p) c.args.marks.now true) c.in-Some.ensures
    (subst (λ (v : ValueOf (Bor (List ℕ))). Enters d (rank c.args.self.now.id) seen (ref_of (content_seen v) c.in-Some.e.id) c.args.marks.now true) (sym c.in-Scalar.is) (enters_none d (rank c.args.self.now.id) c.args.marks.now seen so))
