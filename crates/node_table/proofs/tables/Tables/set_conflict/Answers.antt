use Rattle.std.proofs.Common.{◌<◌, length, refl, arith}
use Rattle.node_chains.specs.Tree.{relabel}
use Rattle.node_table.specs.Held.{Changed, held, flagged}
use Rattle.node_table.specs.Edits.{nodes_in, kids, units_at, tree_of}
use Rattle.node_table.proofs.Inserts.{used_high}
use Rattle.node_table.proofs.Touches.{flags}
use Rattle.node_table.proofs.Steps.{set_same, set_sizes, set_sound, touched_sound}
use Rattle.node_table.proofs.tables.Tables.set_conflict.Goals as goal

pub item-item-requires : goal.item-item-requires
item-item-requires g c = let S = c.args.self.now.sound in omega (arith, S.used.placing.count, used_high S.used c.requires.used)

pub set_item-requires : goal.set_item-requires
set_item-requires g c = let S = c.args.self.now.sound in omega (arith, S.used.placing.count, used_high S.used c.requires.used)

pub invariant_of-self : goal.invariant_of-self
invariant_of-self g c =
    let m = c.args.self.now in
    let l : c.args.c < length (nodes_in m) = omega (arith, m.sound.used.placing.count, used_high m.sound.used c.requires.used) in
    record { sound = set_sound c.set_item.ensures.set (touched_sound m.sound c.requires.below c.requires.used (flags c.args.c (nodes_in m) _ l c.item-item.ensures)) }

pub returns : goal.returns
returns g c =
    let m = c.args.self.now in
    let l : c.args.c < length (nodes_in m) = omega (arith, m.sound.used.placing.count, used_high m.sound.used c.requires.used) in
    record {
      room = record { chains = set_sizes c.set_item.ensures.set; units = refl };
      changed = set_same c.set_item.ensures.set (λ xs t s. Changed (kids m) c.args.c (relabel flagged) (tree_of m) (held xs t s m.keys.now m.strings.now (units_at m)))
          ((flags c.args.c (nodes_in m) _ l c.item-item.ensures).changed _ _ _ _ m.keys.now m.strings.now (units_at m) m.sound.used);
    }
