use Rattle.std.proofs.Common.{List, [], ◌∷◌, ◌++◌, set, sym, ap, ◌∙◌, subst, arith, length-append}
use mathlib.Core.Option.{map}
use Rattle.document.specs.declared.step.PathStep.{PathStep}
use Rattle.document.specs.Paths.{step_seen, Written}
use Rattle.document.proofs.Climbing.{path_length, step_written, step_past}
use Rattle.document.proofs.path.+climb.Goals as goal
use Rattle.document.proofs.path.+climb.Goals.{then-k-steps, else-k-steps}

pub overflow_add-result : goal.overflow_add-result
overflow_add-result g t c =
    let d = g.D.Document.rows c.args.doc.now in
    let w = c.in_ok-k.ensures in
    let l = path_length d.doc d.lawful c.in_ok-step.step.leaves w.0 w.1 in
    omega (arith, l, w.2, c.in_ok-step.ensures.0)

pub returns : goal.returns
returns g t c =
    let d = (g.D.Document.rows c.args.doc.now).doc in
    let w = c.in_ok-k.ensures in
    let s = c.in_ok-step.step in (
      w.0 ++ (step_seen d s ∷ []),
      c.in_ok-step.ensures.1 ∙ ap (map (λ p. p ++ (step_seen d s ∷ []))) w.1,
      omega (arith, w.2, length-append w.0 (step_seen d s ∷ [])),
      elim c.if-k-steps.branch [
        | then-k-steps v ↦
            subst (λ (new : List PathStep). Written d (w.0 ++ (step_seen d s ∷ [])) c.args.steps.now new) (sym (v.steps-is ∙ ap (λ k. set c.climb.new.steps k s) w.2))
            (step_written d w.0 c.args.steps.now c.climb.new.steps s w.3 (omega (arith, w.2, v.if-k-steps.true)))
        | else-k-steps v ↦
            subst (λ (new : List PathStep). Written d (w.0 ++ (step_seen d s ∷ [])) c.args.steps.now new) (sym v.steps-is)
            (step_past d w.0 c.args.steps.now c.climb.new.steps s w.3 (omega (arith, w.2, v.if-k-steps.false)))
      ],
    )
