use Rattle.meaning.specs.Entries.{rank}
use Rattle.document.proofs.path.+climb.Given as goal

abbrev pub decreases-climb : goal.decreases-climb
decreases-climb g l = rank l.id
