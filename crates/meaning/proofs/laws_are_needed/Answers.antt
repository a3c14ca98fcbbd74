use Rattle.meaning.proofs.laws_are_needed.Goals as goal
use Rattle.meaning.proofs.Examples.{laws_are_needed}

pub returns : goal.returns
returns c = laws_are_needed
