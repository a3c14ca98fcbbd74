use Rattle.meaning.proofs.logs_hold_what_was_accepted.Goals as goal
use Rattle.meaning.proofs.Logged.{log_law}

pub returns : goal.returns
returns c = log_law
