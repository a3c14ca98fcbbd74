-- Where nodes lie in memory: each container's chain of children, and the free places as the chain of one more node.
use Rattle.std.specs.Prelude.{◌≡◌, ℕ, ◌+◌, ◌<◌, ◌≤◌, false, ◌⊎◌, List, [], ◌∷◌, map, length, get_or, take, drop, ◌≢◌, slice_index, slice_index_or}
use Rattle.sequence_tree.specs.Lists.{spliced}
use Rattle.packed_rows.specs.Rows.{row, Packed}
use Rattle.node_chains.specs.Tree.{Tree, tree, Shape, Under, weight, weights, forest, total}
use Rattle.node_chains.specs.declared.node.Content.TheVariants.{Null}
use Rattle.node_chains.specs.declared.node.Item.{Item}
use Rattle.node_chains.specs.declared.node.Node.{Node}

-- What stands at a free place.
abbrev pub no_item : Item
no_item = record { content = Null; conflict = false; key_len = 0; string_len = 0 }

abbrev pub blank : Node
blank = record { item = no_item; parent = 0; depth = 0 }

abbrev pub item_at : List Node → ℕ → Item
item_at nodes i = (get_or nodes i blank).item

abbrev pub up_at : List Node → ℕ → ℕ
up_at nodes i = (get_or nodes i blank).parent

abbrev pub lev_at : List Node → ℕ → ℕ
lev_at nodes i = (get_or nodes i blank).depth

-- The places at i and under it.
abbrev pub under : List ℕ → List ℕ → ℕ → ℕ → Tree ℕ
under t s = tree (λ x. x) (row t s)

-- The chains t, s of the nodes are a tree from the root at 0, and the chain of the node f, the last, has the free places.
pub record Placing (f : ℕ) (nodes : List Node) (t s : List ℕ) : Type 0 where
  pub packed : Packed t s
  pub count : length nodes ≡ f + 1
  pub rows : length t ≡ f + 2
  pub shape : Shape (row t s) (up_at nodes) (lev_at nodes)
  pub low : (i p : ℕ) → p < length (row t s i) → 0 < slice_index (row t s i) p
  pub high : (i p : ℕ) → p < length (row t s i) → slice_index (row t s i) p < f
  pub top : up_at nodes f ≡ f
  pub bare : (p : ℕ) → p < length (row t s f) → row t s (slice_index (row t s f) p) ≡ []
  pub ground : lev_at nodes f ≡ 0
  pub shallow : (i p : ℕ) → p < length (row t s i) → (i ≢ f) → lev_at nodes i < 17

-- The child k of a, at the place r, has become the child `at` of b, with an item.
pub record Moved (a k b at r : ℕ) (item : Item) (nodes nodes2 : List Node) (t s t2 s2 : List ℕ) : Type 0 where
  pub was : r ≡ slice_index (row t s a) k
  pub from : row t2 s2 a ≡ spliced (row t s a) k 1 []
  pub to : row t2 s2 b ≡ spliced (row t s b) at 0 (r ∷ [])
  pub others : (j : ℕ) → (j ≢ b) → (j ≢ a) → row t2 s2 j ≡ row t s j
  pub itself : get_or nodes2 r blank ≡ record { item = item; parent = b; depth = lev_at nodes b + 1 }
  pub rest : (x : ℕ) → (x ≢ r) → slice_index_or nodes2 x blank ≡ slice_index_or nodes x blank

-- i has lost its children, and their places, with all under them, are free; what is neither free nor under i is as it was.
pub record Emptied (f i d : ℕ) (nodes nodes2 : List Node) (t s t2 s2 : List ℕ) : Type 0 where
  pub empty : row t2 s2 i ≡ []
  pub itself : get_or nodes2 i blank ≡ slice_index_or nodes i blank
  pub rows_at : (x : ℕ) → (x ≢ f) → (Under (row t s) i x → ⊥) → row t2 s2 x ≡ row t s x
  pub nodes_at : (x : ℕ) → (Under (row t s) i x → ⊥) → slice_index_or nodes2 x blank ≡ slice_index_or nodes x blank
  pub shrinks : (x : ℕ) → (x ≢ f) → (row t2 s2 x ≡ row t s x) ⊎ (row t2 s2 x ≡ [])
  pub items : (x : ℕ) → item_at nodes2 x ≡ item_at nodes x
  pub front : take (length (row t s f)) (row t2 s2 f) ≡ row t s f
  pub freed : (w : ℕ → ℕ) → total w (row t2 s2 f) + w i ≡ total w (row t s f) + weight (under t s d i) w

-- The child k of i, which has no children, is the last of the free places.
abbrev pub Freed : ℕ → ℕ → ℕ → List Node → List Node → List ℕ → List ℕ → List ℕ → List ℕ → Type 0
Freed f i k nodes nodes2 t s t2 s2 = Moved i k f (length (row t s f)) (slice_index (row t s i) k) (item_at nodes (slice_index (row t s i) k)) nodes nodes2 t s t2 s2

-- On the way there: the first n children of i are left, the others are gone, with what was under them.
pub record Going (f i d n : ℕ) (nodes0 nodes : List Node) (t0 s0 t s : List ℕ) : Type 0 where
  pub lawful : Placing f nodes t s
  pub fewer : n ≤ length (row t0 s0 i)
  pub left : row t s i ≡ take n (row t0 s0 i)
  pub itself : get_or nodes i blank ≡ slice_index_or nodes0 i blank
  pub rows_at : (x : ℕ) → (x ≢ f) → (x ≢ i) → ((q : ℕ) → n ≤ q → q < length (row t0 s0 i) → Under (row t0 s0) (slice_index (row t0 s0 i) q) x → ⊥) → row t s x ≡ row t0 s0 x
  pub nodes_at : (x : ℕ) → ((q : ℕ) → n ≤ q → q < length (row t0 s0 i) → Under (row t0 s0) (slice_index (row t0 s0 i) q) x → ⊥) → slice_index_or nodes x blank ≡ slice_index_or nodes0 x blank
  pub shrinks : (x : ℕ) → (x ≢ f) → (x ≢ i) → (row t s x ≡ row t0 s0 x) ⊎ (row t s x ≡ [])
  pub items : (x : ℕ) → item_at nodes x ≡ item_at nodes0 x
  pub front : take (length (row t0 s0 f)) (row t s f) ≡ row t0 s0 f
  pub freed : (w : ℕ → ℕ) → total w (row t s f) ≡ total w (row t0 s0 f) + weights (forest (map (under t0 s0 d) (drop n (row t0 s0 i)))) w

-- The child k of o is gone, and its place, with all under it, is free; what is neither free nor under it is as it was.
pub record Unlinked (f o k : ℕ) (nodes nodes2 : List Node) (t s t2 s2 : List ℕ) : Type 0 where
  pub from : row t2 s2 o ≡ spliced (row t s o) k 1 []
  pub rows_at : (x : ℕ) → (x ≢ f) → (x ≢ o) → (Under (row t s) (slice_index (row t s o) k) x → ⊥) → row t2 s2 x ≡ row t s x
  pub nodes_at : (x : ℕ) → (Under (row t s) (slice_index (row t s o) k) x → ⊥) → slice_index_or nodes2 x blank ≡ slice_index_or nodes x blank
  pub shrinks : (x : ℕ) → (x ≢ f) → (x ≢ o) → (row t2 s2 x ≡ row t s x) ⊎ (row t2 s2 x ≡ [])
  pub items : (x : ℕ) → item_at nodes2 x ≡ item_at nodes x
  pub front : take (length (row t s f)) (row t2 s2 f) ≡ row t s f
  pub freed : (w : ℕ → ℕ) → total w (row t2 s2 f) ≡ total w (row t s f) + weight (under t s 17 (slice_index (row t s o) k)) w
