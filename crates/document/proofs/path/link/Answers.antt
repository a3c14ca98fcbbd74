use Rattle.document.proofs.Climbing.{linked}
use Rattle.document.proofs.path.link.Goals as goal

pub returns : goal.returns
returns g c =
    let d = g.D.Document.rows c.args.doc.now in
    linked d.doc d.lawful c.args.id c.requires c.in_ok-child.child c.in_ok-child.ensures c.in_ok-parent.parent c.in_ok-parent.ensures c.in_ok-place.place c.in_ok-place.ensures
