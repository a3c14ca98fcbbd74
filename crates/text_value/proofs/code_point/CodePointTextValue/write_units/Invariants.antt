use Rattle.std.proofs.Common.{IsUtf8}
use Rattle.std.specs.Str.Iter.{chars_rest}
use Rattle.text_value.specs.Rfc3629.{code_points}
use Rattle.text_value.proofs.Writing.{Writing}
use Rattle.text_value.proofs.code_point.CodePointTextValue.write_units.Given as goal

abbrev pub invariant-loop-c : goal.invariant-loop-c
invariant-loop-c l =
    (goal.iterator-loop-c).can_next l.c-iterator × (goal.iterator-loop-c).is_finite l.c-iterator
    × IsUtf8 (chars_rest l.c-iterator)
    × Writing (code_points l.s) (code_points (chars_rest l.c-iterator)) l.initial.out l.out l.n
