-- What the tables hold, and how an edit changes it.
use Rattle.std.specs.Prelude.{◌≡◌, ℕ, List, length}
use Rattle.packed_rows.specs.Rows.{row, used}
use Rattle.meaning.specs.Entries.{Key}
use Rattle.node_chains.specs.Tree.{Tree}
use Rattle.node_chains.specs.Chains.{under}
use Rattle.node_chains.specs.Changes.{SameSizes}
use Rattle.node_chains.specs.declared.node.Node.{Node}
use Rattle.node_table.specs.Held.{Datum, slot, held, Changed}
use Rattle.node_table.specs.Keys.{key_of}
use Rattle.node_table.specs.declared.tables.Tables.{Tables}

module _ {U : Type 0} where
  abbrev pub nodes_in : Tables U → List Node
  nodes_in m = m.chains.nodes.now

  -- The places of a node's children; those of the last node are free.
  abbrev pub kids : Tables U → ℕ → List ℕ
  kids m = row m.chains.starts.now m.chains.chain.now

  -- The places at a node and under it.
  abbrev pub tree_under : Tables U → ℕ → Tree ℕ
  tree_under m = under m.chains.starts.now m.chains.chain.now 17

  -- The key of the entry at a place.
  abbrev pub key_in : Tables U → ℕ → Key
  key_in m = key_of (nodes_in m) m.keys.now

  -- The first n bytes of the slot of its string.
  abbrev pub string_in : Tables U → ℕ → ℕ → List ℕ
  string_in m = slot 256 m.strings.now

  -- The units of its text.
  abbrev pub units_at : Tables U → ℕ → List U
  units_at m = row m.begins.now m.units.now

  -- How many units all texts have.
  abbrev pub units_used : Tables U → ℕ
  units_used m = used m.begins.now

  -- The tree of entries.
  abbrev pub tree_of : Tables U → Tree (Datum U)
  tree_of m = held (nodes_in m) m.chains.starts.now m.chains.chain.now m.keys.now m.strings.now (units_at m)

-- There are as many nodes, and as many places for children and units, as before.
pub record SameRoom {U : Type 0} (m m2 : Tables U) : Type 0 where
  pub chains : SameSizes m.chains m2.chains
  pub units : length m2.units.now ≡ length m.units.now

-- The tree's part at the place o is changed by g, and nothing else of it.
pub record Edited {U : Type 0} (o : ℕ) (g : Tree (Datum U) → Tree (Datum U)) (m m2 : Tables U) : Type 0 where
  pub room : SameRoom m m2
  pub changed : Changed (kids m) o g (tree_of m) (tree_of m2)

-- The tree stays as it was.
pub record SameTree {U : Type 0} (m m2 : Tables U) : Type 0 where
  pub room : SameRoom m m2
  pub same : tree_of m2 ≡ tree_of m
