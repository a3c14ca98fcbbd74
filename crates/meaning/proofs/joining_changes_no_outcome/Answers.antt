use Rattle.meaning.proofs.joining_changes_no_outcome.Goals as goal
use Rattle.meaning.proofs.Runs.{joining_law}

pub returns : goal.returns
returns g c = joining_law g.T.TextValue.units
