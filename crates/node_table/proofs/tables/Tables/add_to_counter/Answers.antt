use Rattle.std.proofs.Common.{◌≡◌, ◌<◌, length, Err, Result, sym, refl, ap, ◌∙◌, arith, w64, to_z, of_z}
use Rattle.std.proofs.lemmas.Int.{to_z-of_z}
use Rattle.std.proofs.lemmas.Result.{err_from_is_err_and}
use Rattle.types.specs.declared.error.Refusal.{Refusal}
use Rattle.node_chains.specs.Tree.{relabel}
use Rattle.node_chains.specs.declared.node.Item.{Item}
use Rattle.node_table.specs.Kinds.{raising, raised_content}
use Rattle.node_table.specs.Held.{Changed, held, raised}
use Rattle.node_table.specs.Edits.{nodes_in, kids, units_at, tree_of}
use Rattle.node_table.proofs.Inserts.{used_high}
use Rattle.node_table.proofs.Touches.{raised_here}
use Rattle.node_table.proofs.Steps.{set_same, set_sizes, set_sound, touched_sound}
use Rattle.node_table.proofs.tables.Tables.add_to_counter.Goals as goal

pub item-item-requires : goal.item-item-requires
item-item-requires g c = let S = c.args.self.now.sound in omega (arith, S.used.placing.count, used_high S.used c.requires.used)

pub returns-in_err-content-clause-answer : goal.returns-in_err-content-clause-answer
returns-in_err-content-clause-answer g c =
    let b : to_z w64 (of_z w64 c.args.by) ≡ c.args.by = to_z-of_z w64 c.args.by c.ranges.by in
    let p = err_from_is_err_and c.from_residual.result c.from_residual.ensures.1 in
    let e : c.from_residual.result ≡ Err c.in_err-content.field-0.0 = p.1 ∙ ap {B = Result (Unit {0}) Refusal} (λ x. Err x) p.2 in
    e ∙ sym (ap (λ (y : Item). raising c.args.by y.content) (sym c.item-item.ensures) ∙ ap (λ z. raising z c.item-item.result.content) (sym b) ∙ c.in_err-content.ensures)

pub invariant_of-self : goal.invariant_of-self
invariant_of-self g c =
    let b : to_z w64 (of_z w64 c.args.by) ≡ c.args.by = to_z-of_z w64 c.args.by c.ranges.by in
    let m = c.args.self.now in
    let S = m.sound in
    let l : c.args.c < length (nodes_in m) = omega (arith, S.used.placing.count, used_high S.used c.requires.used) in
    record { sound = set_sound c.set_item.ensures.set (touched_sound S c.requires.below c.requires.used (raised_here c.args.c (nodes_in m) c.item-item.result l c.item-item.ensures c.args.by _ (c.in_ok-content.ensures.1 ∙ ap (λ z. raised_content z c.item-item.result.content) b))) }

pub returns : goal.returns
returns g c =
    let b : to_z w64 (of_z w64 c.args.by) ≡ c.args.by = to_z-of_z w64 c.args.by c.ranges.by in
    let m = c.args.self.now in
    let S = m.sound in
    let l : c.args.c < length (nodes_in m) = omega (arith, S.used.placing.count, used_high S.used c.requires.used) in
    record {
      answer = sym (ap (λ (y : Item). raising c.args.by y.content) (sym c.item-item.ensures) ∙ ap (λ z. raising z c.item-item.result.content) (sym b) ∙ c.in_ok-content.ensures.0);
      effect = record {
        room = record { chains = set_sizes c.set_item.ensures.set; units = refl };
        changed = set_same c.set_item.ensures.set (λ xs t s. Changed (kids m) c.args.c (relabel (raised c.args.by)) (tree_of m) (held xs t s m.keys.now m.strings.now (units_at m)))
            ((raised_here c.args.c (nodes_in m) c.item-item.result l c.item-item.ensures c.args.by _ (c.in_ok-content.ensures.1 ∙ ap (λ z. raised_content z c.item-item.result.content) b)).changed _ _ _ _ m.keys.now m.strings.now (units_at m) S.used);
      };
    }
