use Rattle.meaning.proofs.documents_have_one_value.Goals as goal
use Rattle.meaning.proofs.ValueLaws.{value_law}

pub returns : goal.returns
returns g c = value_law g.T.TextValue.units g.met.T.TextValue.fewer
