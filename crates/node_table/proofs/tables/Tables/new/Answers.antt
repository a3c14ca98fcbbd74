use Rattle.std.proofs.Common.{◌-◌, ap, arith}
use Rattle.node_table.proofs.Steps.{sound_at}
use Rattle.node_table.proofs.tables.Tables.new.Goals as goal

pub invariant_of-result : goal.invariant_of-result
invariant_of-result g c =
    let E = c.reset.ensures in
    let U = E.units c.args.units.now in
    record {
      sound = sound_at (ap (λ n. n - 1) c.reset.auto.nodes) (record {
        used = E.lawful;
        dry = λ i h. U.2 i;
        packed = U.0;
        spelled = U.1;
        key_slots = omega (arith, c.requires.slots.0, c.requires.nodes.0);
        string_slots = omega (arith, c.requires.slots.1, c.requires.nodes.0);
        text_rows = omega (arith, c.reset.auto.unit_starts, c.requires.rows.1.1, c.requires.nodes.0);
        text_places = c.requires.units;
      });
    }

pub returns-clause-empty : goal.returns-clause-empty
returns-clause-empty g c = c.reset.ensures.empty c.args.keys.now c.args.strings.now c.args.units.now
