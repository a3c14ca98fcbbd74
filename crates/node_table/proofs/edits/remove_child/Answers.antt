use Rattle.std.proofs.Common.{[], arith, rules}
use Rattle.packed_rows.specs.Rows.{row}
use Rattle.node_chains.specs.Tree.{splice_kids}
use Rattle.node_table.specs.Held.{held}
use Rattle.node_table.proofs.Steps.{used_lent, dry_lent, stands_lent, changed_lent}
use Rattle.node_table.proofs.edits.remove_child.Goals as goal

pub returns-clause-lawful : goal.returns-clause-lawful
returns-clause-lawful g c = used_lent c.cut_child.new.chains (search rules) (search rules) (search rules) c.cut_child.ensures.lawful (omega (arith, c.requires.lawful.placing.count))

pub returns-clause-dry : goal.returns-clause-dry
returns-clause-dry g c = dry_lent c.cut_child.new.chains (search rules) (row c.cut_child.new.begins c.cut_child.new.units) c.cut_child.ensures.dry

pub returns-clause-changed : goal.returns-clause-changed
returns-clause-changed g c keys strings =
    changed_lent c.cut_child.new.chains (returns-clause-lawful g c) (search rules) (search rules) (search rules) (row c.args.starts.now c.args.chain.now) c.args.o (splice_kids c.args.k 1 [])
    (held c.args.nodes.now c.args.starts.now c.args.chain.now keys strings (row c.args.unit_starts.now c.args.units.now)) keys strings (row c.cut_child.new.begins c.cut_child.new.units) (c.cut_child.ensures.changed keys strings)

pub returns-clause-stands : goal.returns-clause-stands
returns-clause-stands g c = stands_lent c.cut_child.new.chains (search rules) (search rules) (row c.args.starts.now c.args.chain.now) c.args.o c.cut_child.ensures.stands
