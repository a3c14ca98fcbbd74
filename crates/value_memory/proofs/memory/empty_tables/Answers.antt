use Rattle.std.proofs.Common.{sym, ap, subst, arith}
use Rattle.node_table.specs.Values.{value_of}
use Rattle.value_tree.specs.Proper.{Proper}
use Rattle.value_memory.proofs.Empties.{proper_root, no_bytes}
use Rattle.value_memory.proofs.memory.empty_tables.Goals as goal

pub returns : goal.returns
returns g c =
    let e = c.new.ensures.empty in
    record {
      good = record {
        room = record { nodes = omega (arith, c.new.ensures.sizes.0); chain = omega (arith, c.new.ensures.chain); units = omega (arith, c.new.ensures.sizes.1) };
        proper = subst Proper (sym e) proper_root;
        within = omega (arith, no_bytes c.new.result e);
      };
      empty = ap value_of e;
    }
