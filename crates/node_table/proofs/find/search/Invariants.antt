use Rattle.std.proofs.Common.{◌-◌}
use Rattle.node_table.specs.Keys.{key_of}
use Rattle.node_table.proofs.Finds.{Between}
use Rattle.node_table.proofs.find.search.Given as goal

abbrev pub invariant-loop-low : goal.invariant-loop-low
invariant-loop-low l = Between (key_of l.nodes l.keys) l.places l.key l.low l.high

abbrev pub decreases-loop-low : goal.decreases-loop-low
decreases-loop-low l = l.high - l.low
