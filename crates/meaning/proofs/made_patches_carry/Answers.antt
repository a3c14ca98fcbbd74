use Rattle.meaning.proofs.made_patches_carry.Goals as goal
use Rattle.meaning.proofs.Carries.{carrying_law}

pub returns : goal.returns
returns g c = carrying_law g.T.TextValue.units
