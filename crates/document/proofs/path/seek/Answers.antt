use Rattle.std.proofs.Common.{sym, ◌∙◌, subst}
use Rattle.meaning.specs.Entries.{rank}
use Rattle.meaning.specs.Documents.{find}
use Rattle.document.specs.Paths.{Sought}
use Rattle.document.specs.Views.{entry_seen}
use Rattle.document.proofs.Seeking.{seek_ends, seek_hit, seek_on_lem}
use Rattle.document.proofs.path.seek.Goals as goal

pub returns-in_err-e : goal.returns-in_err-e
returns-in_err-e g c = subst (Sought (find (g.D.Document.rows c.args.doc.now).doc (rank c.args.row)) (rank c.args.id)) (sym c.from_residual.ensures) (c.loop-n.invariant ∙ seek_ends (rank c.args.id) c.loop-n.n (find (g.D.Document.rows c.args.doc.now).doc (rank c.args.row)) c.in_err-e.ensures)

pub returns-then-names : goal.returns-then-names
returns-then-names g c =
    c.loop-n.invariant
    ∙ seek_hit (rank c.args.id) c.loop-n.n (find (g.D.Document.rows c.args.doc.now).doc (rank c.args.row)) (entry_seen c.in_ok-e.e) c.in_ok-e.ensures (sym c.names.ensures ∙ c.if-names.true)

pub loop-n-preserved : goal.loop-n-preserved
loop-n-preserved g c =
    c.loop-n.invariant
    ∙ seek_on_lem (rank c.args.id) c.loop-n.n (find (g.D.Document.rows c.args.doc.now).doc (rank c.args.row)) (entry_seen c.in_ok-e.e) c.in_ok-e.ensures (sym c.names.ensures ∙ c.if-names.false)
