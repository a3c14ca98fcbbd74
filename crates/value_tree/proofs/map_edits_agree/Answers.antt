use Rattle.value_tree.proofs.Maps.{maps}
use Rattle.value_tree.proofs.map_edits_agree.Goals as goal

pub returns : goal.returns
returns g c = maps
