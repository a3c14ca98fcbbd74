use Rattle.std.proofs.Common.{◌≡◌, drop}
use Rattle.patch.specs.Paths.{whole_rows, whole_path}
use Rattle.patch.proofs.path.is_path.Given as goal

abbrev pub invariant-loop-s : goal.invariant-loop-s
invariant-loop-s l = whole_path l.steps l.keys ≡ whole_rows (drop l.s-index l.steps) l.left
