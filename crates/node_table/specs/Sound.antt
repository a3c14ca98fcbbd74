-- When the tables of a value are in order.
use Rattle.std.specs.Prelude.{◌≡◌, ℕ, ◌+◌, ◌*◌, ◌^◌, ◌<◌, List, length}
use Rattle.packed_rows.specs.Rows.{row, Packed}
use Rattle.node_chains.specs.declared.node.Node.{Node}
use Rattle.node_table.specs.Held.{Used, Dry, Spelled}

-- Each place is free or in use, only texts have units, and there are slots and rows for all nodes.
pub record Sound {U : Type 0} (f : ℕ) (nodes : List Node) (t s keys strings ut : List ℕ) (us : List U) (bytes : ℕ) : Type 0 where
  pub used : Used f nodes t s bytes
  pub dry : Dry nodes (row ut us)
  pub packed : Packed ut us
  pub spelled : Spelled f ut us
  pub key_slots : length keys ≡ 64 * (f + 1)
  pub string_slots : length strings ≡ 256 * (f + 1)
  pub text_rows : length ut ≡ f + 2
  pub text_places : length us < 2 ^ 31
