use Rattle.std.proofs.Common.{◌≡◌, ◌<◌, ◌≤◌, [], ◌∷◌, length, IsUtf8, ap, subst, arith, rules}
use Rattle.std.specs.Str.Iter.{chars_rest}
use Rattle.std.proofs.lemmas.Str.{IsUtf8-past_char}
use Rattle.std.proofs.lemmas.List.{nil_from_length}
use Rattle.std.proofs.lemmas.Bool.Decides.{nat_tests}
use Rattle.text_value.specs.Rfc3629.{code_points}
use Rattle.text_value.specs.Rfc.{points_past_char}
use Rattle.text_value.proofs.Writing.{Writing, writing_none, writing_room, writing_more, writing_all}
use Rattle.text_value.proofs.code_point.CodePointTextValue.write_units.Goals as goal

pub loop-c-init : goal.loop-c-init
loop-c-init c =
    let u : IsUtf8 c.args.s.now = search rules in
    let e : c.args.s.now ≡ chars_rest c.into_iter-c-iterator.result = search rules in
    let us = code_points c.args.s.now in
    (tt, tt, subst IsUtf8 e u, subst (λ bs. Writing us (code_points bs) c.args.out.now c.args.out.now 0) e (writing_none us c.args.out.now))

-- Before a character is written: its units have room, and it is the next to come.
module _ (c : goal.After-char_told-1) where
  room : length (code_points c.args.s.now) ≤ length c.args.out.now
  room = let f = c.if-not-fits.ensures in let l = c.if-not-fits.false in grind (arith, nat_tests)

  writing : Writing (code_points c.args.s.now) (c.in-Some.c ∷ code_points (chars_rest c.next.new.self)) c.args.out.now c.loop-c.out c.loop-c.n
  writing =
      let step = c.in-Some.ensures.steps.0 in
      let e = points_past_char (chars_rest c.loop-c.c-iterator) (chars_rest c.next.new.self) c.in-Some.c c.loop-c.invariant.2 step in
      subst (λ left. Writing (code_points c.args.s.now) left c.args.out.now c.loop-c.out c.loop-c.n) e c.loop-c.invariant.3

  places : (c.loop-c.n < length (code_points c.args.s.now)) × (c.loop-c.n < length c.loop-c.out)
  places = writing_room (code_points c.args.s.now) c.args.out.now (code_points (chars_rest c.next.new.self)) c.loop-c.out c.loop-c.n c.in-Some.c room writing

pub offset_bounds-out-n : goal.offset_bounds-out-n
offset_bounds-out-n c = let p = (places c).1 in search rules

pub bounds-out-n : goal.bounds-out-n
bounds-out-n c = (places c).1

pub overflow_add-n : goal.overflow_add-n
overflow_add-n c = let p = (places c).1 in search rules

pub loop-c-preserved : goal.loop-c-preserved
loop-c-preserved c =
    let rest = chars_rest c.next.new.self in
    let step = c.in-Some.ensures.steps.0 in
    (tt, tt, IsUtf8-past_char (chars_rest c.loop-c.c-iterator) rest c.in-Some.c c.loop-c.invariant.2 step, writing_more (code_points c.args.s.now) c.args.out.now (code_points rest) c.loop-c.out c.loop-c.n c.in-Some.c (room c) (writing c))

pub returns : goal.returns
returns c =
    let rest = chars_rest c.loop-c.c-iterator in
    let none : code_points rest ≡ [] = ap code_points (nil_from_length rest c.in-None.ensures.steps.0.0) in
    let done = writing_all (code_points c.args.s.now) c.args.out.now c.loop-c.out c.loop-c.n (subst (λ left. Writing (code_points c.args.s.now) left c.args.out.now c.loop-c.out c.loop-c.n) none c.loop-c.invariant.3) in
    let f = c.if-not-fits.ensures in
    let e = done.0 in
    (e, grind (arith, nat_tests), done.1)
