use Rattle.std.proofs.Common.{refl, arith, rules}
use Rattle.packed_rows.specs.Rows.{row}
use Rattle.node_chains.specs.Tree.{pruned, relabel}
use Rattle.node_table.specs.Held.{held, refilled}
use Rattle.node_table.proofs.Inserts.{used_high}
use Rattle.node_table.proofs.Steps.{used_lent, dry_lent, changed_lent}
use Rattle.node_table.proofs.edits.replace_content.Goals as goal

pub write_string-requires : goal.write_string-requires
write_string-requires g c = omega (arith, used_high c.requires.lawful c.requires.used, c.requires.short, c.requires.slots)

pub returns-clause-lawful : goal.returns-clause-lawful
returns-clause-lawful g c = used_lent c.refill.new.chains (search rules) (search rules) (search rules) c.refill.ensures.lawful (omega (arith, c.requires.lawful.placing.count))

pub returns-clause-dry : goal.returns-clause-dry
returns-clause-dry g c = dry_lent c.refill.new.chains (search rules) (row c.refill.new.begins c.refill.new.units) c.refill.ensures.dry

pub returns-clause-changed : goal.returns-clause-changed
returns-clause-changed g c keys =
    changed_lent c.refill.new.chains (returns-clause-lawful g c) (search rules) (search rules) (search rules) (row c.args.starts.now c.args.chain.now) c.args.c (λ x. relabel (refilled c.args.content c.args.conflict c.args.string.now) (pruned x))
    (held c.args.nodes.now c.args.starts.now c.args.chain.now keys c.args.strings.now (row c.args.unit_starts.now c.args.units.now)) keys c.write_string.new.strings (row c.refill.new.begins c.refill.new.units)
    (c.refill.ensures.changed keys c.args.strings.now c.write_string.new.strings c.args.string.now refl (omega (arith, c.requires.slots, c.requires.lawful.placing.count)) c.write_string.auto.strings c.write_string.ensures)
