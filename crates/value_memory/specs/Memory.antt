-- The value that tables hold, in the room that the bounds of a value ask.
use Rattle.std.specs.Prelude.{◌≡◌, ◌≤◌, length}
use Rattle.meaning.specs.Values.{Value}
use Rattle.node_table.specs.Values.{value_of}
use Rattle.node_table.specs.Edits.{nodes_in, tree_of}
use Rattle.node_table.specs.declared.tables.Tables.{Tables}
use Rattle.value_tree.specs.Proper.{Proper}

-- The value that the tree stands for.
abbrev pub shown : {U : Type 0} → Tables U → Value U
shown m = value_of (tree_of m)

-- There are places for as many entries and units as a value may have.
pub record Roomy {U : Type 0} (m : Tables U) : Type 0 where
  pub nodes : length (nodes_in m) ≡ 4098
  pub chain : length m.chains.chain.now ≡ 4096
  pub units : length m.units.now ≡ 32768

-- The tables hold a value: they have its room, the tree stands for a value, and its bytes keep their bound.
pub record Good {U : Type 0} (m : Tables U) : Type 0 where
  pub room : Roomy m
  pub proper : Proper (tree_of m)
  pub within : m.bytes ≤ 32768
