use Rattle.meaning.proofs.worked_cases.Goals as goal
use Rattle.meaning.proofs.Examples.{worked_cases}

pub returns : goal.returns
returns c = worked_cases
