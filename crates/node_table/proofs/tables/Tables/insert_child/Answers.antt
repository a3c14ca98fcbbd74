use Rattle.std.proofs.Common.{refl, ◌∙◌}
use Rattle.node_chains.proofs.Sizes.{free_same}
use Rattle.node_table.specs.Edits.{units_at}
use Rattle.node_table.proofs.Steps.{sound_at}
use Rattle.node_table.proofs.tables.Tables.insert_child.Goals as goal

pub put_child-requires : goal.put_child-requires
put_child-requires g c =
    let S = c.args.self.now.sound in
    let R = c.requires in
    record { lawful = S.used; used = R.used; container = R.container; deep = R.deep; position = R.position; room = R.room; short = R.short; slots = (S.key_slots, S.string_slots) }

pub invariant_of-self : goal.invariant_of-self
invariant_of-self g c =
    let m = c.args.self.now in
    let S = m.sound in
    let E = c.put_child.ensures in
    record {
      sound = sound_at (free_same E.sizes) (record {
        used = E.lawful;
        dry = E.dry (units_at m) S.dry;
        packed = S.packed;
        spelled = S.spelled;
        key_slots = c.put_child.auto.keys ∙ S.key_slots;
        string_slots = c.put_child.auto.strings ∙ S.string_slots;
        text_rows = S.text_rows;
        text_places = S.text_places;
      });
    }

pub returns : goal.returns
returns g c =
    let m = c.args.self.now in
    let E = c.put_child.ensures in
    record {
      edited = record {
        room = record { chains = E.sizes; units = refl };
        changed = E.changed (units_at m) m.sound.dry;
      };
      stands = E.stands;
    }
