use Rattle.std.proofs.Common.{◌≡◌, ℕ, zero, suc, ◌+◌, ◌<◌, ◌⊎◌, List, [], ◌∷◌, ◌++◌, map, length, get_or, take, drop, sym, refl, ap, ◌∙◌, subst, ⊎_elim, arith}
use Rattle.std.proofs.lemmas.List.{map-append, take-map, drop-map, length-take, length-drop, get_or-take, get_or-drop}
use Rattle.sequence_tree.specs.Lists.{spliced}
use Rattle.node_chains.specs.Tree.{Tree, tree, update, reach, Steps, Shape, splice_kids}
use Rattle.node_chains.specs.Tree.{Under}
use Rattle.node_chains.proofs.Frames.{trees_forest, map_same, map_change, depth, disjoint, frame, Apart, Only}

-- a path and then another
pub steps_then : (R : ℕ → List ℕ) (ps qs : List ℕ) (i : ℕ) → Steps R ps i → Steps R qs (reach R ps i) → Steps R (ps ++ qs) i
steps_then R [] qs i h k = k
steps_then R (p ∷ ps) qs i h k = (h.0, steps_then R ps qs (get_or (R i) p 0) h.1 k)

pub reach_then : (R : ℕ → List ℕ) (ps qs : List ℕ) (i : ℕ) → reach R (ps ++ qs) i ≡ reach R qs (reach R ps i)
reach_then R [] qs i = refl
reach_then R (p ∷ ps) qs i = reach_then R ps qs (get_or (R i) p 0)

module _ {D : Type 0} (R : ℕ → List ℕ) (up lev : ℕ → ℕ) (s : Shape R up lev)
    (N : ℕ → Type 0) (o : ℕ) (g g2 : ℕ → D) (R2 : ℕ → List ℕ) (only : Only (λ x. Under R o x ⊎ N x) g g2 R R2) where
  -- a place above o is not under it
  pub above : (p : ℕ) (ps : List ℕ) (i : ℕ) → Steps R (p ∷ ps) i → reach R (p ∷ ps) i ≡ o → Under R o i → ⊥
  above p ps i h r u =
      let a = depth R up lev s (p ∷ ps) i h in
      let b = ap lev r in
      let c = depth R up lev s u.0 o u.1 in
      let d = ap lev u.2 in omega arith

  -- whatever changes at o and under it changes the tree at o's path and nowhere else
  pub along : (f : Tree D → Tree D) (e : ℕ) → tree g2 R2 e o ≡ f (tree g R e o)
      → (ps : List ℕ) (d i : ℕ) → d ≡ length ps + e → Steps R ps i → reach R ps i ≡ o → Apart R N i
      → tree g2 R2 d i ≡ update ps f (tree g R d i)
  along f e here [] d i n h r fresh =
      let de : d ≡ e = omega arith in cc
  along f e here (p ∷ ps) zero i n h r fresh = absurd (omega arith)
  along f e here (p ∷ ps) (suc d) i n h r fresh =
      let ne : Under R o i ⊎ N i → ⊥ = ⊎_elim (above p ps i h r) (fresh [] tt) in
      let ed = only.data_same i ne in
      let ek = only.kids_same i ne in
      let ih = along f e here ps d (get_or (R i) p 0) (omega arith) h.1 r (λ qs u c. fresh (p ∷ qs) (h.0, u) c) in
      let m =
      map_change (tree g R d) (tree g2 R2 d) (update ps f) 0 (R i) p h.0
      (λ q l nq.
      frame (λ x. Under R o x ⊎ N x) g g2 R R2 only d (get_or (R i) q 0)
      (λ qs u. ⊎_elim
      (λ w.
      let st : Steps R (ps ++ w.0) (get_or (R i) p 0) = steps_then R ps w.0 (get_or (R i) p 0) h.1 (subst (λ y. Steps R w.0 y) (sym r) w.1) in
      let re : reach R (ps ++ w.0) (get_or (R i) p 0) ≡ reach R qs (get_or (R i) q 0) = reach_then R ps w.0 (get_or (R i) p 0) ∙ ap (reach R w.0) r ∙ w.2 in
      nq (disjoint R up lev s i q p qs (ps ++ w.0) l h.0 u st (sym re)))
      (λ w. fresh (q ∷ qs) (l, u) w)))
      ih in
      let tf = trees_forest (map (tree g R d) (R i)) in
      cc

-- the child k of o goes, with all under it
module _ {D : Type 0} (R : ℕ → List ℕ) (up lev : ℕ → ℕ) (s : Shape R up lev)
    (N : ℕ → Type 0) (o k : ℕ) (lk : k < length (R o)) (g g2 : ℕ → D) (R2 : ℕ → List ℕ)
    (only : Only (λ x. (x ≡ o) ⊎ (Under R (get_or (R o) k 0) x ⊎ N x)) g g2 R R2)
    (go : g2 o ≡ g o) (ro : R2 o ≡ spliced (R o) k 1 []) (fo : Apart R N o) where
  -- another child is the tree that it was
  pub spared : (e q : ℕ) → q < length (R o) → (q ≡ k → ⊥) → tree g2 R2 e (get_or (R o) q 0) ≡ tree g R e (get_or (R o) q 0)
  spared e q l ne =
      frame (λ x. (x ≡ o) ⊎ (Under R (get_or (R o) k 0) x ⊎ N x)) g g2 R R2 only e (get_or (R o) q 0)
      (λ qs u. ⊎_elim
      (λ w.
      let a = depth R up lev s qs (get_or (R o) q 0) u in
      let b = ap lev w in
      let c = s.levels o q l in omega arith)
      (⊎_elim (λ w. ne (disjoint R up lev s o q k qs w.0 l lk u w.1 (sym w.2))) (λ w. fo (q ∷ qs) (l, u) w)))

  pub cut_here : (e : ℕ) → tree g2 R2 (suc e) o ≡ splice_kids k 1 [] (tree g R (suc e) o)
  cut_here e =
      let a = map-append (tree g2 R2 e) (take k (R o)) (drop (k + 1) (R o)) in
      let front = map_same (tree g2 R2 e) (tree g R e) 0 (take k (R o))
      (λ p l.
      let lp : p < k = omega (arith, length-take k (R o)) in
      let gt = get_or-take k (R o) p 0 (omega arith) in
      let z = spared e p (omega arith) (λ w. omega arith) in cc) in
      let rest = map_same (tree g2 R2 e) (tree g R e) 0 (drop (k + 1) (R o))
      (λ p l.
      let lp : k + 1 + p < length (R o) = omega (arith, length-drop (k + 1) (R o)) in
      let gt = get_or-drop (k + 1) (R o) p 0 in
      let z = spared e (k + 1 + p) lp (λ w. omega arith) in cc) in
      let c = take-map (tree g R e) k (R o) in
      let d = drop-map (tree g R e) (k + 1) (R o) in
      let tf = trees_forest (map (tree g R e) (R o)) in
      cc
