use Rattle.std.proofs.Common.{◌∙◌, arith}
use Rattle.node_chains.proofs.Sizes.{free_same}
use Rattle.node_table.proofs.Steps.{sound_at}
use Rattle.node_table.proofs.tables.Tables.remove_child.Goals as goal

pub cut_child-requires : goal.cut_child-requires
cut_child-requires g c =
    let S = c.args.self.now.sound in
    record { lawful = S.used; dry = S.dry; used = c.requires.used; child = c.requires.child; packed = S.packed; rows = S.text_rows; small = S.text_places }

pub invariant_of-self : goal.invariant_of-self
invariant_of-self g c =
    let S = c.args.self.now.sound in
    let E = c.cut_child.ensures in
    record {
      sound = sound_at (free_same E.sizes) (record {
        used = E.lawful;
        dry = E.dry;
        packed = E.packed;
        spelled = E.spelled S.spelled;
        key_slots = S.key_slots;
        string_slots = S.string_slots;
        text_rows = c.cut_child.auto.begins ∙ S.text_rows;
        text_places = omega (arith, c.cut_child.auto.units, S.text_places);
      });
    }

pub returns : goal.returns
returns g c =
    let m = c.args.self.now in
    let E = c.cut_child.ensures in
    record {
      edited = record {
        room = record { chains = E.sizes; units = c.cut_child.auto.units };
        changed = E.changed m.keys.now m.strings.now;
      };
      stands = E.stands;
    }
