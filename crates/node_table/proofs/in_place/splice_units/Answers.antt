use Rattle.node_table.proofs.Touches.{changed_spliced}
use Rattle.node_table.proofs.in_place.splice_units.Goals as goal

pub returns-clause-changed : goal.returns-clause-changed
returns-clause-changed g c = changed_spliced c.splice_row.ensures
