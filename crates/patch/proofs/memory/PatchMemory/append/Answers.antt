use Rattle.std.proofs.Common.{◌≡◌, ◌+◌, ◌++◌, ◌∷◌, [], cond, reverse, length, Err, Result, sym, ap, ◌∙◌, append_assoc, arith, length-append}
use Rattle.std.proofs.lemmas.List.{reverse-append}
use Rattle.std.proofs.lemmas.Result.{err_from_is_err_and}
use Rattle.sequence_tree.specs.Sequences.{held}
use mathlib.Core.Option.{none, some}
use Rattle.types.specs.declared.error.Refusal.{Refusal}
use Rattle.types.specs.declared.error.Refusal.TheVariants.{Full}
use Rattle.patch_call.specs.Refused.{answer}
use Rattle.patch.specs.declared.rows.PatchRow.{PatchRow}
use Rattle.patch_call.specs.Seen.{call_seen}
use Rattle.patch_call.specs.Contents.{call_key, call_data}
use Rattle.patch.specs.Rows.{steps_told}
use Rattle.patch.specs.Made.{call_values, call_units, row_made, appending, late}
use Rattle.patch.specs.Sound.{newest, parts_in}
use Rattle.patch.specs.Held.{held_of}
use Rattle.patch.proofs.Bounds.{Room, room}
use Rattle.patch.proofs.Adding.{Stored, stored, over_own, late_deep, late_full, refused_early, passed_early}
use Rattle.patch.proofs.memory.PatchMemory.append.Goals as goal
use Rattle.patch.proofs.memory.PatchMemory.append.Goals.{In_ok-check_call, After-is_full, After-key-key, After-extend-6}

pub returns-in_err-check_call-clause-answer : goal.returns-in_err-check_call-clause-answer
returns-in_err-check_call-clause-answer g c =
    let a = c.args in
    let p = err_from_is_err_and c.from_residual.result c.from_residual.ensures.1 in
    let e : c.from_residual.result ≡ Err c.in_err-check_call.field-0.0 = p.1 ∙ ap {B = Result (Unit {0}) Refusal} (λ x. Err x) p.2 in
    e ∙ refused_early a.obj (steps_told a.path.steps.now a.path.keys.now) (call_seen a.call) a.units.now (held_of a.self.now) c.in_err-check_call.field-0.0 (sym c.in_err-check_call.was ∙ c.check_call.ensures)

-- a call that is good by itself is answered by the later tests
passed : (g : _) (c : In_ok-check_call g)
    → answer (late c.args.obj (steps_told c.args.path.steps.now c.args.path.keys.now) (call_seen c.args.call) c.args.units.now (held_of c.args.self.now))
    ≡ answer (appending c.args.obj (steps_told c.args.path.steps.now c.args.path.keys.now) (call_seen c.args.call) c.args.units.now (held_of c.args.self.now))
passed g c =
    let a = c.args in
    passed_early a.obj (steps_told a.path.steps.now a.path.keys.now) (call_seen a.call) a.units.now (held_of a.self.now) c.in_ok-check_call.field-0 (sym c.in_ok-check_call.was ∙ c.check_call.ensures)

full : (g : _) (c : After-is_full g)
    → answer (cond c.is_full.result (some Full) none)
    ≡ answer (appending c.args.obj (steps_told c.args.path.steps.now c.args.path.keys.now) (call_seen c.args.call) c.args.units.now (held_of c.args.self.now))
full g c =
    let a = c.args in
    let o = over_own a.self.now a.obj a.path.steps.now a.path.keys.now (call_seen a.call) a.units.now a.wide c.requires c.if-path-gt-PATH_STEPS.false in
    sym (late_full a.obj a.path.steps.now a.path.keys.now (call_seen a.call) a.units.now (held_of a.self.now) c.if-path-gt-PATH_STEPS.false c.is_full.result (o ∙ sym (c.is_full.ensures a.wide)))
    ∙ passed g (goal.at.After-is_full g c).In_ok-check_call

pub returns-then-path-gt-PATH_STEPS-clause-answer : goal.returns-then-path-gt-PATH_STEPS-clause-answer
returns-then-path-gt-PATH_STEPS-clause-answer g c =
    let a = c.args in
    late_deep a.obj a.path.steps.now a.path.keys.now (call_seen a.call) a.units.now (held_of a.self.now) c.if-path-gt-PATH_STEPS.true
    ∙ passed g (goal.at.returns-then-path-gt-PATH_STEPS-clause-answer g c).In_ok-check_call

pub returns-then-is_full-clause-answer : goal.returns-then-is_full-clause-answer
returns-then-is_full-clause-answer g c =
    sym (ap (λ t. answer (cond t (some Full) none)) c.if-is_full.true) ∙ full g (goal.at.returns-then-is_full-clause-answer g c).After-is_full

space : (g : _) (c : After-key-key g) → Room c.args.self.now (length c.args.path.steps.now) (length (call_values (call_seen c.args.call) c.args.wide)) (length (call_units (call_seen c.args.call) c.args.units.now))
    (length c.args.path.keys.now + (length (call_key (call_seen c.args.call)) + length (call_data (call_seen c.args.call))))
space g c = room c.args.self.now _ _ _ _ c.if-path-gt-PATH_STEPS.false (sym (c.is_full.ensures c.args.wide) ∙ c.if-is_full.false)

pub extend-requires : goal.extend-requires
extend-requires g c = (space g (goal.at.extend-requires g c).After-key-key).steps

pub extend-requires-2 : goal.extend-requires-2
extend-requires-2 g c = omega (arith, (space g (goal.at.extend-requires-2 g c).After-key-key).bytes)

pub extend-requires-3 : goal.extend-requires-3
extend-requires-3 g c =
    omega (arith, (space g (goal.at.extend-requires-3 g c).After-key-key).bytes, c.extend-2.ensures.capacity, ap length c.key-key.ensures, simp length-append at (ap length c.extend-2.ensures.held))

pub extend-requires-4 : goal.extend-requires-4
extend-requires-4 g c =
    omega (arith, (space g (goal.at.extend-requires-4 g c).After-key-key).bytes, c.extend-2.ensures.capacity, c.extend-3.ensures.capacity, ap length c.key-key.ensures, ap length c.data-data.ensures, simp length-append at (ap length c.extend-2.ensures.held), simp length-append at (ap length c.extend-3.ensures.held))

own : (g : _) (c : After-extend-6 g)
    → Stored c.args.self.now c.args.obj c.args.path.steps.now c.args.path.keys.now (call_seen c.args.call) c.args.units.now c.args.wide (newest c.extend-6.new.self) (parts_in c.extend.new.self c.add_value.new.values c.extend-5.new.self c.extend-4.new.self)
own g c =
    let a = c.args in
    let m = a.self.now in
    let k = call_seen a.call in
    let row : PatchRow = record { obj = a.obj; steps = length a.path.steps.now; bytes = length a.path.keys.now + (length c.key-key.result.now + length c.data-data.result.now); action = c.new.result } in
    let made : row ≡ row_made a.obj a.path.steps.now a.path.keys.now k (length a.units.now) a.wide =
    λ i. record { obj = a.obj; steps = length a.path.steps.now; bytes = length a.path.keys.now + (length (c.key-key.ensures i) + length (c.data-data.ensures i)); action = c.new.ensures i } in
    let units : held c.extend-5.new.self ≡ held m.units ++ call_units k a.units.now = rw (c.extend-5.ensures.held, c.own_units.ensures) in
    let bytes : held c.extend-4.new.self ≡ held m.bytes ++ (a.path.keys.now ++ (call_key k ++ call_data k)) =
    rw (c.extend-4.ensures.held, c.extend-3.ensures.held, c.extend-2.ensures.held, c.key-key.ensures, c.data-data.ensures) (simp append_assoc) in
    stored m a.obj a.path.steps.now a.path.keys.now k a.units.now a.wide c.requires c.if-path-gt-PATH_STEPS.false
    (newest c.extend-6.new.self) (parts_in c.extend.new.self c.add_value.new.values c.extend-5.new.self c.extend-4.new.self)
    (ap reverse c.extend-6.ensures.held ∙ (reverse-append (held m.rows) (row ∷ []) ∙ ap (λ r. r ∷ newest m.rows) made))
    (λ i. record { steps = c.extend.ensures.held i; values = c.add_value.ensures.held i; units = units i; bytes = bytes i })

pub invariant_of-self-clause-shared : goal.invariant_of-self-clause-shared
invariant_of-self-clause-shared g c = (own g c).laid

pub returns : goal.returns
returns g c =
    let a = c.args in
    let w = own g (goal.at.returns g c).After-extend-6 in
    record {
      answer = sym (ap (λ t. answer (cond t (some Full) none)) c.if-is_full.false) ∙ full g (goal.at.returns g c).After-is_full;
      held = w.told;
      wide = w.flags;
    }
