use Rattle.std.proofs.Common.{refl, ◌∙◌, arith}
use Rattle.node_chains.specs.Changes.{free_row}
use Rattle.node_table.specs.Edits.{nodes_in}
use Rattle.node_table.proofs.tables.Tables.splice_units.Goals as goal

pub splice_units-requires : goal.splice_units-requires
splice_units-requires g c =
    let S = c.args.self.now.sound in
    record { packed = S.packed; row = omega (arith, S.text_rows, S.used.placing.count, c.requires.low); inside = c.requires.inside; room = c.requires.room; small = omega (arith, S.text_places) }

pub invariant_of-self : goal.invariant_of-self
invariant_of-self g c =
    let m = c.args.self.now in
    let S = m.sound in
    let E = c.splice_units.ensures in
    record {
      sound = record {
        used = S.used;
        dry = E.dry (nodes_in m) c.requires.text S.dry;
        packed = E.spliced.lawful;
        spelled = E.spelled (free_row m.chains) (omega (arith, S.used.placing.count, c.requires.low)) S.spelled;
        key_slots = S.key_slots;
        string_slots = S.string_slots;
        text_rows = c.splice_units.auto.unit_starts ∙ S.text_rows;
        text_places = omega (arith, c.splice_units.auto.units, S.text_places);
      };
    }

pub returns : goal.returns
returns g c =
    let m = c.args.self.now in
    record {
      room = record { chains = record { nodes = refl; chain = refl }; units = c.splice_units.auto.units };
      changed = c.splice_units.ensures.changed (free_row m.chains) m.bytes (nodes_in m) m.chains.starts.now m.chains.chain.now m.keys.now m.strings.now m.sound.used;
    }
