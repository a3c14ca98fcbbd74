use Rattle.std.proofs.Common.{length, ap, refl, ◌∙◌, arith}
use Rattle.std.proofs.lemmas.List.{nil_from_length}
use Rattle.node_table.proofs.Wipes.{cut_all}
use Rattle.node_table.proofs.edits.clear_units.Goals as goal

pub returns-then-n-gt0 : goal.returns-then-n-gt0
returns-then-n-gt0 g c = let e = ap length c.row_of-n.ensures in record { packed = c.splice_row.ensures.lawful; count = omega (arith, c.splice_row.ensures.count); here = c.splice_row.ensures.here ∙ cut_all _ _ e; others = c.splice_row.ensures.others }

pub returns-else-n-gt0 : goal.returns-else-n-gt0
returns-else-n-gt0 g c = let e = ap length c.row_of-n.ensures in let z = nil_from_length _ (omega (arith, c.if-n-gt0.false)) in record { packed = c.requires.packed; count = omega arith; here = z; others = λ j ne. refl }
