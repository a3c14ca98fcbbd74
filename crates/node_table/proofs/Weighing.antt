-- What the places under one weigh, child by child.
use Rattle.std.proofs.Common.{◌≡◌, ℕ, ◌+◌, ◌-◌, ◌*◌, ◌<◌, ◌≤◌, List, [], ◌∷◌, ◌++◌, map, length, get_or, take, sym, ap, ◌∙◌, arith}
use Rattle.std.proofs.lemmas.List.{map-append, take-map, take_more}
use Rattle.packed_rows.specs.Rows.{row}
use Rattle.node_chains.specs.Tree.{Tree, forest, reach, Steps, Under, weight, weights}
use Rattle.node_chains.specs.Chains.{item_at, lev_at, under}
use Rattle.node_table.specs.Held.{Used, below, item_bytes}
use Rattle.node_chains.specs.declared.node.Node.{Node}
use Rattle.node_chains.proofs.Frames.{map_same}
use Rattle.node_chains.proofs.Deletes.{steps_then, reach_then}
use Rattle.node_chains.proofs.Frees.{bottom, whole}
use Rattle.node_chains.proofs.Weights.{weights_append}
use Rattle.node_table.proofs.Sums.{below_bound, weights_split}
use Rattle.node_table.proofs.Inserts.{used_high}
use Rattle.node_table.proofs.Removes.{settled}

-- the first children of a row, one more
pub weights_more : {D : Type 0} (w : D → ℕ) (g : ℕ → Tree D) (xs : List ℕ) (k : ℕ) → k < length xs → weights (forest (map g (take (k + 1) xs))) w ≡ weights (forest (map g (take k xs))) w + weight (g (get_or xs k 0)) w
weights_more w g xs k l =
    let a = ap (λ ys. weights (forest (map g ys)) w) (take_more xs k 0 l) in
    let b = ap (λ ys. weights (forest ys) w) (map-append g (take k xs) (get_or xs k 0 ∷ [])) in
    let c = weights_append w (map g (take k xs)) (g (get_or xs k 0) ∷ []) in omega arith

-- and no more than all
pub weights_front : {D : Type 0} (w : D → ℕ) (g : ℕ → Tree D) (xs : List ℕ) (k : ℕ) → weights (forest (map g (take k xs))) w ≤ weights (forest (map g xs)) w
weights_front w g xs k =
    let a = ap (λ ys. weights (forest ys) w) (take-map g k xs) in
    let b = weights_split w k (map g xs) in omega arith

module _ {f bytes : ℕ} {nodes : List Node} {t s : List ℕ} (Us : Used f nodes t s bytes) where
  -- a child of a place in use is in use, and less is below it
  module _ {c x k : ℕ} (u : Under (row t s) 0 c) (l : k < length (row t s c)) (e : x ≡ get_or (row t s c) k 0) where
    pub used_child : Under (row t s) 0 x
    used_child = (
      u.0 ++ (k ∷ []),
      steps_then (row t s) u.0 (k ∷ []) 0 u.1 (rw u.2 (l, tt)),
      reach_then (row t s) u.0 (k ∷ []) 0 ∙ ap (λ y. get_or (row t s y) k 0) u.2 ∙ sym e,
    )

    pub less_below : 17 - lev_at nodes x < 17 - lev_at nodes c
    less_below =
        let a = ap (lev_at nodes) e in
        let b = Us.placing.shape.levels c k l in
        let d = Us.placing.shallow c k l (λ z. omega (arith, used_high Us u)) in omega arith

  module _ (w : ℕ → ℕ) where
    -- a place and its children
    pub weight_children : (c : ℕ) → c < f → weight (under t s 17 c) w ≡ w c + weights (forest (map (under t s 17) (row t s c))) w
    weight_children c l =
        let a = whole w 17 c t s (bottom f c 17 nodes t s Us.placing l (omega arith)) in
        let e = map_same (under t s 16) (under t s 17) 0 (row t s c) (λ p h. let v = Us.placing.shape.levels c p h in settled f nodes t s Us.placing (λ x. x) 16 17 (get_or (row t s c) p 0) (Us.placing.high c p h) (omega arith) (omega arith)) in
        let b = ap (λ ys. weights (forest ys) w) e in omega arith

    -- what is under a place weighs no more than the place
    pub weight_under : (ps : List ℕ) (i : ℕ) → i < f → Steps (row t s) ps i → weight (under t s 17 (reach (row t s) ps i)) w ≤ weight (under t s 17 i) w
    weight_under [] i l st = omega arith
    weight_under (p ∷ ps) i l st =
        let ih = weight_under ps (get_or (row t s i) p 0) (Us.placing.high i p st.0) st.1 in
        let a = weights_more w (under t s 17) (row t s i) p st.0 in
        let b = weights_front w (under t s 17) (row t s i) (p + 1) in
        let c = weight_children i l in omega arith

    pub weight_used : {c : ℕ} → Under (row t s) 0 c → weight (under t s 17 c) w ≤ below f w
    weight_used u =
        let a = weight_under u.0 0 Us.some u.1 in
        let b = ap (λ x. weight (under t s 17 x) w) u.2 in
        omega (arith, Us.parted w)

  -- the bytes at c and under its first children stay within what the tables can hold
  pub bytes_front : {c : ℕ} → Under (row t s) 0 c → (k : ℕ) → item_bytes (item_at nodes c) + weights (forest (map (under t s 17) (take k (row t s c)))) (λ i. item_bytes (item_at nodes i)) ≤ 320 * f
  bytes_front {c} u k =
      let w : ℕ → ℕ = λ i. item_bytes (item_at nodes i) in
      let a = weights_front w (under t s 17) (row t s c) k in
      let b = weight_children w c (used_high Us u) in
      let d = weight_used w u in
      let e = below_bound f w (λ x. omega (arith, (Us.short x).0, (Us.short x).1)) in omega arith
