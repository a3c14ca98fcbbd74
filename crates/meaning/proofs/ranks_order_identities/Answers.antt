use Rattle.meaning.proofs.ranks_order_identities.Goals as goal
use Rattle.meaning.proofs.ValueLaws.{rank_law}

pub returns : goal.returns
returns c = rank_law
