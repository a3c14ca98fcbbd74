use Rattle.node_table.proofs.Bridges.{edits, refusals}
use Rattle.node_table.proofs.values.edits_agree.Goals as goal

pub returns : goal.returns
returns g c = record { done = edits; refused = refusals }
