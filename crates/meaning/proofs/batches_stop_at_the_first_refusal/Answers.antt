use Rattle.meaning.specs.Application.{apply_patch}
use Rattle.meaning.proofs.batches_stop_at_the_first_refusal.Goals as goal
use Rattle.meaning.proofs.ValueLaws.{batch_law}

pub returns : goal.returns
returns g c = batch_law (apply_patch g.T.TextValue.units)
