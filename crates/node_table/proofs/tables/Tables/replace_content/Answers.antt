use Rattle.std.proofs.Common.{refl, ◌∙◌, arith}
use Rattle.node_chains.proofs.Sizes.{free_same}
use Rattle.node_table.proofs.Inserts.{used_high}
use Rattle.node_table.proofs.Steps.{sound_at}
use Rattle.node_table.proofs.tables.Tables.replace_content.Goals as goal

pub invariant_of-self : goal.invariant_of-self
invariant_of-self g c =
    let S = c.args.self.now.sound in
    record {
      sound = sound_at (free_same c.refill.ensures.sizes) (record {
        used = c.refill.ensures.lawful;
        dry = c.refill.ensures.dry;
        packed = c.refill.ensures.packed;
        spelled = c.refill.ensures.spelled S.spelled;
        key_slots = S.key_slots;
        string_slots = S.string_slots;
        text_rows = c.refill.auto.begins ∙ S.text_rows;
        text_places = omega (arith, c.refill.auto.units, S.text_places);
      });
    }

pub write_at-requires : goal.write_at-requires
write_at-requires g c = let S = c.args.self.now.sound in omega (arith, S.string_slots, used_high S.used c.requires.used, c.requires.short)

pub invariant_of-self-2 : goal.invariant_of-self-2
invariant_of-self-2 g c =
    let S = c.args.self.now.sound in
    record {
      sound = sound_at (free_same c.refill.ensures.sizes) (record {
        used = c.refill.ensures.lawful;
        dry = c.refill.ensures.dry;
        packed = c.refill.ensures.packed;
        spelled = c.refill.ensures.spelled S.spelled;
        key_slots = S.key_slots;
        string_slots = c.write_at.auto.s ∙ S.string_slots;
        text_rows = c.refill.auto.begins ∙ S.text_rows;
        text_places = omega (arith, c.refill.auto.units, S.text_places);
      });
    }

pub returns : goal.returns
returns g c =
    let m = c.args.self.now in
    record {
      room = record { chains = c.refill.ensures.sizes; units = c.refill.auto.units };
      changed = c.refill.ensures.changed m.keys.now m.strings.now c.write_at.new.s c.args.string.now refl m.sound.string_slots c.write_at.auto.s c.write_at.ensures;
    }

pub overflow_mul-c : goal.overflow_mul-c
overflow_mul-c g c = let S = c.args.self.now.sound in omega (arith, used_high S.used c.requires.used, S.used.placing.count, c.args.self.now.chains.few)
