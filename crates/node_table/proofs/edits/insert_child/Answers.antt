use Rattle.std.proofs.Common.{[], ◌∷◌, arith, rules}
use Rattle.packed_rows.specs.Rows.{row}
use Rattle.node_chains.specs.Tree.{splice_kids, node, none}
use Rattle.node_table.specs.Held.{held}
use Rattle.node_table.proofs.Steps.{used_lent, dry_lent, stands_lent, changed_lent}
use Rattle.node_table.proofs.edits.insert_child.Goals as goal

pub returns-clause-lawful : goal.returns-clause-lawful
returns-clause-lawful g c = used_lent c.put_child.new.chains (search rules) (search rules) (search rules) c.put_child.ensures.lawful (omega (arith, c.requires.lawful.placing.count))

pub returns-clause-dry : goal.returns-clause-dry
returns-clause-dry g c u D = dry_lent c.put_child.new.chains (search rules) u (c.put_child.ensures.dry u D)

pub returns-clause-changed : goal.returns-clause-changed
returns-clause-changed g c u D =
    changed_lent c.put_child.new.chains (returns-clause-lawful g c) (search rules) (search rules) (search rules) (row c.args.starts.now c.args.chain.now) c.args.o
    (splice_kids c.args.at 0 (node (record { key = c.args.key.now; content = c.args.content; conflict = c.args.conflict; string = c.args.string.now; units = [] }) none ∷ []))
    (held c.args.nodes.now c.args.starts.now c.args.chain.now c.args.keys.now c.args.strings.now u) c.put_child.new.keys c.put_child.new.strings u (c.put_child.ensures.changed u D)

pub returns-clause-stands : goal.returns-clause-stands
returns-clause-stands g c = stands_lent c.put_child.new.chains (search rules) (search rules) (row c.args.starts.now c.args.chain.now) c.args.o c.put_child.ensures.stands
