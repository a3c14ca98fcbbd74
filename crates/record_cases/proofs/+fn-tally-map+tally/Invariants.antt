use Rattle.std.proofs.Common.{◌+◌, ◌*◌}
use Rattle.record_cases.proofs.+fn-tally-map+tally.Given as goal

abbrev pub decreases-map : goal.decreases-map
decreases-map g l = 2 * l.below + 1

abbrev pub decreases-tally : goal.decreases-tally
decreases-tally g l = 2 * l.left
