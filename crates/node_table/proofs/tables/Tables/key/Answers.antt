use Rattle.std.proofs.Common.{ap, arith}
use Rattle.node_chains.specs.declared.node.Item.{Item}
use Rattle.node_table.proofs.tables.Tables.key.Goals as goal

pub slot_of-requires : goal.slot_of-requires
slot_of-requires g c = let S = c.args.self.now.sound in let e = c.item.ensures in let h = (S.used.short c.args.c).0 in let k = ap (λ (y : Item). y.key_len) c.item.ensures in omega (arith, S.key_slots, S.used.placing.count, c.if-c-self.false)
