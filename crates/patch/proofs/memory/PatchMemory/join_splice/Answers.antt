use Rattle.std.proofs.Common.{◌≡◌, ◌+◌, ◌-◌, min, not, ltb, refl, sym, length, ap, ◌∙◌, arith}
use Rattle.sequence_tree.specs.Sequences.{held}
use Rattle.types.specs.declared.error.Refusal.TheVariants.{Full}
use Rattle.meaning.specs.Results.{provided}
use Rattle.meaning.specs.Builder.{overfull}
use Rattle.patch.specs.Edits.{change_tail, add_units}
use Rattle.patch.specs.Sound.{newest, parts_in}
use Rattle.patch.specs.Held.{parts_of, held_of}
use Rattle.patch.proofs.Tell.{overfull_told}
use Rattle.patch.proofs.Bounds.{within}
use Rattle.patch.proofs.Changes.{Changed}
use Rattle.patch.proofs.Joins.{none_passes, units_other, joined, joined_over}
use Rattle.patch.proofs.memory.PatchMemory.join_splice.Goals as goal
use Rattle.patch.proofs.memory.PatchMemory.join_splice.Goals.{After-exceeds, After-set_tail}

pub returns-in_default-action : goal.returns-in_default-action
returns-in_default-action g c =
    let m = c.args.self.now in
    let e = units_other c.args.j c.args.units.now (newest m.rows) (parts_of m) c.in-Some.row c.in-Some.ensures.row c.in_default-action.not-SpliceText in
    let b = within m in
    let o = overfull_told (newest m.rows) (parts_of m) m.shared ∙ none_passes (length (newest m.rows)) (length (held m.values)) (length (held m.units)) (length (held m.bytes)) b.newest b.values b.units b.bytes in
    record {
      answer = sym (ap (λ t. provided (not t) Full tt) (ap overfull e ∙ o));
      held = sym e;
      wide = refl;
    }

over : (g : _) (c : After-exceeds g) → overfull (change_tail (add_units c.args.j c.args.units.now) (held_of c.args.self.now)) ≡ c.exceeds.result
over g c =
    let m = c.args.self.now in
    joined_over m c.args.j c.args.units.now c.in-Some.row c.in-Some.ensures.row c.in-SpliceText.i c.in-SpliceText.n c.in-SpliceText.is (length (held m.units) - c.in-SpliceText.n + min c.args.j c.in-SpliceText.n) refl
    ∙ sym (c.exceeds.ensures ∙ ap (λ n. ltb 32768 (n + length c.args.units.now)) c.len.ensures)

more : (g : _) (c : After-set_tail g)
    → Changed (newest c.args.self.now.rows) (newest c.set_tail.new.rows) (parts_of c.args.self.now) (parts_in c.args.self.now.steps c.args.self.now.values c.replace.new.self c.args.self.now.bytes) (add_units c.args.j c.args.units.now)
more g c =
    let m = c.args.self.now in
    let p = c.len-2.result - c.in-SpliceText.n + c.min.result in
    joined m c.args.j c.args.units.now c.in-Some.row c.in-Some.ensures.row c.in-SpliceText.i c.in-SpliceText.n c.in-SpliceText.is p (omega (arith, c.len-2.ensures, c.min.ensures))
    (newest c.set_tail.new.rows) (parts_in m.steps m.values c.replace.new.self m.bytes) c.set_tail.ensures.newest
    (λ k. record { steps = held m.steps; values = held m.values; units = c.replace.ensures.held k; bytes = held m.bytes })

pub returns-then-exceeds-clause-answer : goal.returns-then-exceeds-clause-answer
returns-then-exceeds-clause-answer g c =
    sym (ap (λ t. provided (not t) Full tt) (over g (goal.at.returns-then-exceeds-clause-answer g c).After-exceeds ∙ c.if-exceeds.true))

pub invariant_of-self-clause-shared : goal.invariant_of-self-clause-shared
invariant_of-self-clause-shared g c = (more g c).laid

pub returns : goal.returns
returns g c =
    let w = more g (goal.at.returns g c).After-set_tail in
    let e = over g (goal.at.returns g c).After-exceeds in
    record { answer = sym (ap (λ t. provided (not t) Full tt) (e ∙ c.if-exceeds.false)); held = w.told; wide = w.flags }
