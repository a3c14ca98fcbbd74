use Rattle.std.proofs.Common.{◌≡◌}
use Rattle.meaning.specs.Entries.{rank}
use Rattle.meaning.specs.Documents.{find}
use Rattle.document.specs.Paths.{seek_told}
use Rattle.document.proofs.Seeking.{seek_on}
use Rattle.document.proofs.path.seek.Given as goal

abbrev pub invariant-loop-n : goal.invariant-loop-n
invariant-loop-n g l =
    seek_told (find (g.D.Document.rows l.doc).doc (rank l.row)) (rank l.id)
    ≡ seek_on (rank l.id) l.n (find (g.D.Document.rows l.doc).doc (rank l.row))
