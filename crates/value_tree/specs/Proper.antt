-- The trees that stand for values: only texts have units, only strings have bytes, only maps have keys, which rise.
use Rattle.std.specs.Prelude.{◌≡◌, ℕ, ◌<◌, true, false, List, length, slice_index_or}
use Rattle.std.specs.declared.cmp.Ordering.TheVariants.{Less}
use Rattle.meaning.specs.Entries.{compare_keys}
use Rattle.node_chains.specs.Tree.{Tree, Forest, node, none, more, trees}
use Rattle.node_chains.specs.Contents.{is_map}
use Rattle.node_table.specs.Kinds.{branches, is_list}
use Rattle.node_table.specs.Held.{Datum}
use Rattle.node_table.specs.Values.{top}
use Rattle.node_table.specs.Counts.{Fine, Keyless}

-- The keys of trees rise; g says what entry stands at a node, d stands for a tree that is not there.
abbrev pub KeysUpAs : {D U : Type 0} → D → List (Tree D) → (D → Datum U) → Type 0
KeysUpAs d ts g = (p q : ℕ) → p < q → q < length ts → compare_keys (g (top (slice_index_or ts p (node d none)))).key (g (top (slice_index_or ts q (node d none)))).key ≡ Less

-- Every entry is fine, only maps and lists have children, those of a list have no keys, and those of a map rise by key.
abbrev mutual
  pub ProperAs : {D U : Type 0} → Tree D → (D → Datum U) → Type 0
  ProperAs (node x ts) g =
      Fine (g x)
      × (branches (g x).content ≡ false → ts ≡ none)
      × (is_list (g x).content ≡ true → Keyless ts g)
      × (is_map (g x).content ≡ true → KeysUpAs x (trees ts) g)
      × AllProper ts g

  pub AllProper : {D U : Type 0} → Forest D → (D → Datum U) → Type 0
  AllProper none g = Unit {0}
  AllProper (more t ts) g = ProperAs t g × AllProper ts g

-- The same of a tree of entries.
abbrev pub KeysUp : {U : Type 0} → Datum U → List (Tree (Datum U)) → Type 0
KeysUp d ts = KeysUpAs d ts (λ x. x)

abbrev pub Proper : {U : Type 0} → Tree (Datum U) → Type 0
Proper t = ProperAs t (λ x. x)
