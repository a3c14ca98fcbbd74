-- Chains as one value, and how they change.
use Rattle.std.specs.Prelude.{◌≡◌, ℕ, ◌-◌, List, length, slice_set}
use Rattle.packed_rows.specs.Rows.{row}
use Rattle.node_chains.specs.Chains.{Moved, Emptied, Freed, Unlinked, up_at, lev_at}
use Rattle.node_chains.specs.declared.node.Item.{Item}
use Rattle.node_chains.specs.declared.node.Node.{Node}
use Rattle.node_chains.specs.declared.chains.Chains.{Chains}

-- The row of the free places.
abbrev pub free_row : Chains → ℕ
free_row m = length m.nodes.now - 1

-- The children of a node.
abbrev pub kids : Chains → ℕ → List ℕ
kids m = row m.starts.now m.chain.now

-- There are as many nodes and as many places as before.
pub record SameSizes (m m2 : Chains) : Type 0 where
  pub nodes : length m2.nodes.now ≡ length m.nodes.now
  pub chain : length m2.chain.now ≡ length m.chain.now

-- They lie in the same slices as before, so whoever lent these learns what became of them.
pub record SameSlices (m m2 : Chains) : Type 0 where
  pub nodes : m2.nodes.ghost_name ≡ m.nodes.ghost_name
  pub starts : m2.starts.ghost_name ≡ m.starts.ghost_name
  pub chain : m2.chain.ghost_name ≡ m.chain.ghost_name

-- Another item stands at a place.
abbrev pub with_item : List Node → ℕ → Item → List Node
with_item nodes i item = slice_set nodes i (record { item = item; parent = up_at nodes i; depth = lev_at nodes i })

-- So it does in the chains, and nothing else differs.
pub record ItemSet (i : ℕ) (item : Item) (m m2 : Chains) : Type 0 where
  pub nodes : m2.nodes.now ≡ with_item m.nodes.now i item
  pub starts : m2.starts.now ≡ m.starts.now
  pub chain : m2.chain.now ≡ m.chain.now

-- The changes of Chains.antt, of chains as one value.
abbrev pub Moves : ℕ → ℕ → ℕ → ℕ → ℕ → Item → Chains → Chains → Type 0
Moves a k b at r item m m2 = Moved a k b at r item m.nodes.now m2.nodes.now m.starts.now m.chain.now m2.starts.now m2.chain.now

abbrev pub Empties : ℕ → ℕ → Chains → Chains → Type 0
Empties i d m m2 = Emptied (free_row m) i d m.nodes.now m2.nodes.now m.starts.now m.chain.now m2.starts.now m2.chain.now

abbrev pub Frees : ℕ → ℕ → Chains → Chains → Type 0
Frees i k m m2 = Freed (free_row m) i k m.nodes.now m2.nodes.now m.starts.now m.chain.now m2.starts.now m2.chain.now

abbrev pub Unlinks : ℕ → ℕ → Chains → Chains → Type 0
Unlinks o k m m2 = Unlinked (free_row m) o k m.nodes.now m2.nodes.now m.starts.now m.chain.now m2.starts.now m2.chain.now
