use Rattle.value_tree.proofs.Weighing.{weight_kids, weight_relabel, weight_over, counts_is, counts_update}
use Rattle.value_tree.proofs.laws.weights_hold.Goals as goal

pub returns : goal.returns
returns g c = record { weight_kids = weight_kids; weight_relabel = weight_relabel; weight_over = weight_over; counts_is = counts_is; counts_update = counts_update }
