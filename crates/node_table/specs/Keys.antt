-- The keys of a map's children.
use Rattle.std.specs.Prelude.{◌≡◌, ℕ, ◌<◌, ◌≤◌, List, length, slice_index}
use Rattle.std.specs.declared.cmp.Ordering.TheVariants.{Less}
use Rattle.meaning.specs.Entries.{Key, compare_keys}
use Rattle.node_chains.specs.Chains.{item_at}
use Rattle.node_table.specs.Held.{slot}
use Rattle.node_chains.specs.declared.node.Node.{Node}

-- The key of the entry at a place.
abbrev pub key_of : List Node → List ℕ → ℕ → Key
key_of nodes keys x = slot 64 keys x (item_at nodes x).key_len

-- The keys of a chain rise.
pub record KeysRise (key : ℕ → Key) (chain : List ℕ) : Type 0 where
  pub rises : (p q : ℕ) → p < q → q < length chain → compare_keys (key (slice_index chain p)) (key (slice_index chain q)) ≡ Less

-- All keys before position p are below k.
abbrev pub Above : (ℕ → Key) → List ℕ → Key → ℕ → Type 0
Above key chain k p = (q : ℕ) → q < p → compare_keys (key (slice_index chain q)) k ≡ Less

-- All keys from position p on are above k.
abbrev pub Below : (ℕ → Key) → List ℕ → Key → ℕ → Type 0
Below key chain k p = (q : ℕ) → p ≤ q → q < length chain → compare_keys k (key (slice_index chain q)) ≡ Less

-- The child at p has the key k, and no child before it has.
pub record Found (key : ℕ → Key) (chain : List ℕ) (k : Key) (p : ℕ) : Type 0 where
  pub inside : p < length chain
  pub same : key (slice_index chain p) ≡ k
  pub above : Above key chain k p

-- No child has the key k, and p is its place in the order.
pub record Missing (key : ℕ → Key) (chain : List ℕ) (k : Key) (p : ℕ) : Type 0 where
  pub within : p ≤ length chain
  pub above : Above key chain k p
  pub below : Below key chain k p
