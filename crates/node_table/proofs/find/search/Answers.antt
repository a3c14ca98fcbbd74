use Rattle.std.proofs.Common.{◌+◌, ◌-◌, ◌/◌, sym, ap, ◌∙◌, arith}
use Rattle.meaning.specs.Entries.{compare_keys}
use Rattle.node_table.specs.Keys.{key_of}
use Rattle.node_table.proofs.Finds.{low_up, high_down, found}
use Rattle.node_table.proofs.find.search.Goals as goal

pub loop-low-preserved-in-Less : goal.loop-low-preserved-in-Less
loop-low-preserved-in-Less c =
    low_up (key_of c.args.nodes.now c.args.keys.now) c.args.places.now c.args.key.now c.loop-low.low c.loop-low.high (c.loop-low.low + (c.loop-low.high - c.loop-low.low) / 2)
    c.loop-low.invariant c.requires.rising (omega arith) (omega (arith, c.loop-low-test.true))
    (ap (λ x. compare_keys x c.args.key.now) (sym c.key_or_empty.ensures) ∙ sym c.in-Less.ensures)

pub returns-in-Equal : goal.returns-in-Equal
returns-in-Equal c =
    found (key_of c.args.nodes.now c.args.keys.now) c.args.places.now c.args.key.now c.loop-low.low c.loop-low.high (c.loop-low.low + (c.loop-low.high - c.loop-low.low) / 2)
    c.loop-low.invariant c.requires.rising (omega arith) (omega (arith, c.loop-low-test.true))
    (ap (λ x. compare_keys x c.args.key.now) (sym c.key_or_empty.ensures) ∙ sym c.in-Equal.ensures)

pub loop-low-preserved : goal.loop-low-preserved
loop-low-preserved c =
    high_down (key_of c.args.nodes.now c.args.keys.now) c.args.places.now c.args.key.now c.loop-low.low c.loop-low.high (c.loop-low.low + (c.loop-low.high - c.loop-low.low) / 2)
    c.loop-low.invariant c.requires.rising (omega arith) (omega (arith, c.loop-low-test.true))
    (ap (λ x. compare_keys x c.args.key.now) (sym c.key_or_empty.ensures) ∙ sym c.in-Greater.ensures)
