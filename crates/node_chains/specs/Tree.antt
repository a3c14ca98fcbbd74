-- Trees of data, read from rows of places.
use Rattle.std.specs.Prelude.{◌≡◌, ℕ, zero, suc, ◌+◌, ◌<◌, List, [], ◌∷◌, map, length, slice_index}
use Rattle.sequence_tree.specs.Lists.{spliced}

mutual
  pub data Tree (D : Type 0) : Type 0 where
    node : D → Forest D → Tree D

  pub data Forest (D : Type 0) : Type 0 where
    none : Forest D
    more : Tree D → Forest D → Forest D

abbrev pub forest : {D : Type 0} → List (Tree D) → Forest D
forest [] = none
forest (t ∷ ts) = more t (forest ts)

abbrev pub trees : {D : Type 0} → Forest D → List (Tree D)
trees none = []
trees (more t ts) = t ∷ trees ts

-- The tree at place i, read to depth d: what stands at each place, and its children in order.
abbrev pub tree : {D : Type 0} → (ℕ → D) → (ℕ → List ℕ) → ℕ → ℕ → Tree D
tree at kids zero i = node (at i) none
tree at kids (suc d) i = node (at i) (forest (map (tree at kids d) (kids i)))

-- The element p changed by g.
abbrev pub change : {X : Type 0} → List X → ℕ → (X → X) → List X
change [] p g = []
change (x ∷ xs) zero g = g x ∷ xs
change (x ∷ xs) (suc p) g = x ∷ change xs p g

-- The tree with the part at a path of positions changed by f.
abbrev pub update : {D : Type 0} → List ℕ → (Tree D → Tree D) → Tree D → Tree D
update [] f t = f t
update (p ∷ ps) f (node x ts) = node x (forest (change (trees ts) p (update ps f)))

-- The place that a path leads to, and that it stays within the rows.
abbrev pub reach : (ℕ → List ℕ) → List ℕ → ℕ → ℕ
reach kids [] i = i
reach kids (p ∷ ps) i = reach kids ps (slice_index (kids i) p)

abbrev pub Steps : (ℕ → List ℕ) → List ℕ → ℕ → Type 0
Steps kids [] i = Unit {0}
Steps kids (p ∷ ps) i = (p < length (kids i)) × Steps kids ps (slice_index (kids i) p)

-- A path leads from i to x.
abbrev pub Under : (ℕ → List ℕ) → ℕ → ℕ → Type 0
Under kids i x = (ps : List ℕ) × Steps kids ps i × (reach kids ps i ≡ x)

-- Each child names its parent and lies one deeper; a row has each child once.
pub record Shape (kids : ℕ → List ℕ) (up lev : ℕ → ℕ) : Type 0 where
  pub ups : (i p : ℕ) → p < length (kids i) → up (slice_index (kids i) p) ≡ i
  pub levels : (i p : ℕ) → p < length (kids i) → lev (slice_index (kids i) p) ≡ lev i + 1
  pub once : (i p q : ℕ) → p < length (kids i) → q < length (kids i) → slice_index (kids i) p ≡ slice_index (kids i) q → p ≡ q

-- The tree with some of the children at its root replaced.
abbrev pub splice_kids : {D : Type 0} → ℕ → ℕ → List (Tree D) → Tree D → Tree D
splice_kids at k new (node x ts) = node x (forest (spliced (trees ts) at k new))

-- The tree without the children at its root, and with what stands there changed by h.
abbrev pub pruned : {D : Type 0} → Tree D → Tree D
pruned (node x ts) = node x none

abbrev pub relabel : {D : Type 0} → (D → D) → Tree D → Tree D
relabel h (node x ts) = node (h x) ts

-- What a tree weighs, each node by w.
abbrev mutual
  pub weight : {D : Type 0} → Tree D → (D → ℕ) → ℕ
  weight (node x ts) w = w x + weights ts w

  pub weights : {D : Type 0} → Forest D → (D → ℕ) → ℕ
  weights none w = 0
  weights (more t ts) w = weight t w + weights ts w

-- What the places of a list weigh together.
abbrev pub total : (ℕ → ℕ) → List ℕ → ℕ
total w [] = 0
total w (x ∷ xs) = w x + total w xs
