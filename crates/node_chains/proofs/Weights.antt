use Rattle.std.proofs.Common.{◌≡◌, ℕ, zero, suc, ◌+◌, ◌<◌, List, [], ◌∷◌, ◌++◌, length, get_or, refl, ap, arith}
use Rattle.node_chains.specs.Tree.{Tree, Forest, node, none, more, forest, trees, change, update, weight, weights}

-- the part at a path, and that the path leads to one
abbrev pub part : {D : Type 0} → List ℕ → Tree D → Tree D
part [] t = t
part (p ∷ ps) (node x ts) = part ps (get_or (trees ts) p (node x none))

abbrev pub Leads : {D : Type 0} → List ℕ → Tree D → Type 0
Leads [] t = Unit {0}
Leads (p ∷ ps) (node x ts) = (p < length (trees ts)) × Leads ps (get_or (trees ts) p (node x none))

pub weights_change : {D : Type 0} (w : D → ℕ) (u : Tree D → Tree D) (d : Tree D) (ts : List (Tree D)) (p : ℕ) → p < length ts
    → weights (forest (change ts p u)) w + weight (get_or ts p d) w ≡ weights (forest ts) w + weight (u (get_or ts p d)) w
weights_change w u d [] p l = absurd (omega arith)
weights_change w u d (t ∷ ts) zero l = omega arith
weights_change w u d (t ∷ ts) (suc p) l = let ih = weights_change w u d ts p (omega arith) in omega arith

pub forest_trees : {D : Type 0} (ts : Forest D) → forest (trees ts) ≡ ts
forest_trees none = refl
forest_trees (more t ts) = ap (more t) (forest_trees ts)

-- a change at a path changes the weight by what it changes there
pub weight_update : {D : Type 0} (w : D → ℕ) (f : Tree D → Tree D) (ps : List ℕ) (t : Tree D) → Leads ps t
    → weight (update ps f t) w + weight (part ps t) w ≡ weight t w + weight (f (part ps t)) w
weight_update w f [] t h = omega arith
weight_update w f (p ∷ ps) (node x ts) h =
    let a = weights_change w (update ps f) (node x none) (trees ts) p h.0 in
    let b = weight_update w f ps (get_or (trees ts) p (node x none)) h.1 in
    let c = ap (λ us. weights us w) (forest_trees ts) in
    omega arith

pub weights_append : {D : Type 0} (w : D → ℕ) (xs ys : List (Tree D)) → weights (forest (xs ++ ys)) w ≡ weights (forest xs) w + weights (forest ys) w
weights_append w [] ys = omega arith
weights_append w (x ∷ xs) ys = let ih = weights_append w xs ys in omega arith
