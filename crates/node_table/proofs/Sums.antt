-- Sums over places, rows and trees.
use Rattle.std.proofs.Common.{◌≡◌, ℕ, zero, suc, ◌+◌, ◌*◌, ◌<◌, ◌≤◌, List, [], ◌∷◌, ◌++◌, map, length, get_or, take, drop, sym, refl, ap, ◌∙◌, ⊎_elim, arith}
use Rattle.std.proofs.lemmas.List.{take-append-drop, drop_more}
use Rattle.std.proofs.lemmas.Bool.{cases_eq}
use Rattle.sequence_tree.specs.Lists.{spliced}
use Rattle.node_chains.specs.Tree.{Tree, node, none, forest, trees, tree, reach, Steps, splice_kids, weight, weights, total}
use Rattle.node_table.specs.Held.{below}
use Rattle.node_chains.proofs.Frames.{trees_forest}
use Rattle.node_chains.proofs.Weights.{weights_append, forest_trees, part, Leads}
use Rattle.node_chains.proofs.Frees.{total_append}

-- sums over the first places
pub below_same : (f : ℕ) (w v : ℕ → ℕ) → ((x : ℕ) → x < f → v x ≡ w x) → below f v ≡ below f w
below_same zero w v h = refl
below_same (suc f) w v h = let ih = below_same f w v (λ x l. h x (omega arith)) in let e = h f (omega arith) in omega arith

-- where two weights differ at n only
pub below_change : (f n : ℕ) (w v : ℕ → ℕ) → n < f → ((x : ℕ) → (x ≡ n → ⊥) → v x ≡ w x) → below f v + w n ≡ below f w + v n
below_change zero n w v l h = absurd (omega arith)
below_change (suc f) n w v l h =
    ⊎_elim
    (λ (e : f ≡ n). let s = below_same f w v (λ x m. h x (λ z. omega arith)) in let a = ap w e in let b = ap v e in omega arith)
    (λ (ne : f ≡ n → ⊥). let ih = below_change f n w v (omega arith) h in let e = h f ne in omega arith) (cases_eq f n)

pub below_part : (f n : ℕ) (w : ℕ → ℕ) → n < f → w n ≤ below f w
below_part zero n w l = absurd (omega arith)
below_part (suc f) n w l =
    ⊎_elim (λ (e : f ≡ n). let a = ap w e in omega arith) (λ (ne : f ≡ n → ⊥). let ih = below_part f n w (omega arith) in omega arith) (cases_eq f n)

pub below_bound : (f : ℕ) (w : ℕ → ℕ) → ((x : ℕ) → w x ≤ 320) → below f w ≤ 320 * f
below_bound zero w h = omega arith
below_bound (suc f) w h = let ih = below_bound f w h in let e = h f in omega arith

-- sums over a row
pub total_split : (w : ℕ → ℕ) (k : ℕ) (xs : List ℕ) → total w (take k xs) + total w (drop k xs) ≡ total w xs
total_split w k xs = sym (total_append w (take k xs) (drop k xs)) ∙ ap (total w) (take-append-drop k xs)

pub total_cut : (w : ℕ → ℕ) (k : ℕ) (xs : List ℕ) → k < length xs → total w (spliced xs k 1 []) + w (get_or xs k 0) ≡ total w xs
total_cut w k xs l =
    let a = total_append w (take k xs) (drop (k + 1) xs) in
    let b = total_split w k xs in
    let c = ap (total w) (drop_more xs k 0 l) in omega arith

-- sums over the children of a tree
pub weights_split : {D : Type 0} (w : D → ℕ) (k : ℕ) (xs : List (Tree D)) → weights (forest (take k xs)) w + weights (forest (drop k xs)) w ≡ weights (forest xs) w
weights_split w k xs = sym (weights_append w (take k xs) (drop k xs)) ∙ ap (λ ys. weights (forest ys) w) (take-append-drop k xs)

-- a leaf put in
pub weight_put : {D : Type 0} (w : D → ℕ) (at : ℕ) (x : D) (t : Tree D) → weight (splice_kids at 0 (node x none ∷ []) t) w ≡ weight t w + w x
weight_put w at x (node y ts) =
    let z : at + 0 ≡ at = omega arith in
    let a = weights_append w (take at (trees ts)) ((node x none ∷ []) ++ drop (at + 0) (trees ts)) in
    let b = ap (λ k. weights (forest (drop k (trees ts))) w) z in
    let c = weights_split w at (trees ts) in
    let d = ap (λ us. weights us w) (forest_trees ts) in omega arith

-- a child taken out
pub weight_cut : {D : Type 0} (w : D → ℕ) (k : ℕ) (d : Tree D) (y : D) (ts : List (Tree D)) → k < length ts → weight (splice_kids k 1 [] (node y (forest ts))) w + weight (get_or ts k d) w ≡ weight (node y (forest ts)) w
weight_cut w k d y ts l =
    let tf = trees_forest ts in
    let a = ap (λ us. weights (forest (spliced us k 1 [])) w) tf in
    let a2 = weights_append w (take k ts) (drop (k + 1) ts) in
    let b = weights_split w k ts in
    let c = ap (λ us. weights (forest us) w) (drop_more ts k d l) in omega arith

-- the part of a tree of places that a path leads to
pub get_or_mapped : {X Y : Type 0} (g : X → Y) (d : X) (e : Y) (xs : List X) (p : ℕ) → p < length xs → get_or (map g xs) p e ≡ g (get_or xs p d)
get_or_mapped g d e [] p l = absurd (omega arith)
get_or_mapped g d e (x ∷ xs) zero l = refl
get_or_mapped g d e (x ∷ xs) (suc p) l = get_or_mapped g d e xs p (omega arith)

pub length_mapped : {X Y : Type 0} (g : X → Y) (xs : List X) → length (map g xs) ≡ length xs
length_mapped g [] = refl
length_mapped g (x ∷ xs) = ap suc (length_mapped g xs)

pub record Parts {D : Type 0} (at : ℕ → D) (kids : ℕ → List ℕ) (ps : List ℕ) (d e i : ℕ) : Type 0 where
  pub leads : Leads ps (tree at kids d i)
  pub is : part ps (tree at kids d i) ≡ tree at kids e (reach kids ps i)

pub parts : {D : Type 0} (at : ℕ → D) (kids : ℕ → List ℕ) (ps : List ℕ) (d e i : ℕ) → d ≡ length ps + e → Steps kids ps i → Parts at kids ps d e i
parts at kids [] d e i n h = record { leads = tt; is = let de : d ≡ e = omega arith in ap (λ k. tree at kids k i) de }
parts at kids (p ∷ ps) zero e i n h = absurd (omega arith)
parts at kids (p ∷ ps) (suc d) e i n h =
    let ih = parts at kids ps d e (get_or (kids i) p 0) (omega arith) h.1 in
    let tf = trees_forest (map (tree at kids d) (kids i)) in
    let l = length_mapped (tree at kids d) (kids i) in
    let x = ap (λ us. get_or us p (node (at i) none)) tf ∙ get_or_mapped (tree at kids d) 0 (node (at i) none) (kids i) p h.0 in
    record {
      leads = (omega (arith, ap length tf, h.0), rw x ih.leads);
      is = ap (part ps) x ∙ ih.is;
    }
