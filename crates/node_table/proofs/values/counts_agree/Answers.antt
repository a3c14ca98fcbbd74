use Rattle.node_table.proofs.Counting.{count_root, kept, units_kept}
use Rattle.node_table.proofs.values.counts_agree.Goals as goal

pub returns : goal.returns
returns g c = record { agree = count_root; kept = kept; units = units_kept }
