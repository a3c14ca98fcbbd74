use Rattle.std.proofs.Common.{◌≡◌}
use Rattle.meaning.specs.Documents.{Doc}
use Rattle.record.proofs.Scanning.{Filling}
use Rattle.record.proofs.places.Places.scan.Given as goal

abbrev pub invariant-loop-i : goal.invariant-loop-i
invariant-loop-i l = (done : Doc) × (Filling l.i l.at.entries l.from.total l.from.rest.now l.self.starts l.self.firsts l.self.entries l.at.rest.now done) × (l.at.total ≡ l.from.total)
