use Rattle.meaning.proofs.queue_keeps_its_places.Goals as goal
use Rattle.meaning.proofs.Carries.{queue_law}

pub returns : goal.returns
returns c = queue_law
