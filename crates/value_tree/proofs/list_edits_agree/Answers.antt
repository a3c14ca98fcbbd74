use Rattle.value_tree.proofs.Lists.{lists}
use Rattle.value_tree.proofs.list_edits_agree.Goals as goal

pub returns : goal.returns
returns g c = lists
