use Rattle.std.proofs.Common.{refl, rules}
use Rattle.record.proofs.Finding.{each_below}
use Rattle.record.proofs.index.RecordIndex.bare.Goals as goal

pub invariant_of-result : goal.invariant_of-result
invariant_of-result c = record { typed = search (rules, each_below); said = refl; counted = refl; started = refl; numbered = refl; indexed = refl }
