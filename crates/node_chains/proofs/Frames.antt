use Rattle.std.proofs.Common.{◌≡◌, ℕ, zero, suc, ◌+◌, ◌<◌, ◌⊎◌, List, [], ◌∷◌, ◌++◌, map, length, get_or, take, drop, sym, refl, ap, ◌∙◌, ⊎_elim, arith}
use Rattle.std.proofs.lemmas.List.{map-append, take-map, drop-map}
use Rattle.node_chains.specs.Tree.{Tree, node, none, forest, trees, tree, change, update, reach, Steps, Shape, splice_kids}
use Rattle.sequence_tree.specs.Lists.{spliced}

pub trees_forest : {D : Type 0} (ts : List (Tree D)) → trees (forest ts) ≡ ts
trees_forest [] = refl
trees_forest (t ∷ ts) = ap (λ us. t ∷ us) (trees_forest ts)

-- two maps agree where the functions do
pub map_same : {X Y : Type 0} (f g : X → Y) (d : X) (xs : List X) → ((p : ℕ) → p < length xs → f (get_or xs p d) ≡ g (get_or xs p d)) → map f xs ≡ map g xs
map_same f g d [] h = refl
map_same f g d (x ∷ xs) h =
    let hd : f x ≡ g x = h zero (omega arith) in
    let tl = map_same f g d xs (λ p l. h (suc p) (omega arith)) in cc

-- and where they agree but at p, the map is changed there
pub map_change : {X Y : Type 0} (f g : X → Y) (u : Y → Y) (d : X) (xs : List X) (p : ℕ) → p < length xs
    → ((q : ℕ) → q < length xs → (q ≡ p → ⊥) → g (get_or xs q d) ≡ f (get_or xs q d))
    → g (get_or xs p d) ≡ u (f (get_or xs p d))
    → map g xs ≡ change (map f xs) p u
map_change f g u d [] p l h e = absurd (let z : 0 ≡ suc p = omega arith in omega arith)
map_change f g u d (x ∷ xs) zero l h e =
    let tl = map_same g f d xs (λ q m. h (suc q) (omega arith) (λ z. omega arith)) in cc
map_change f g u d (x ∷ xs) (suc p) l h e =
    let hd : g x ≡ f x = h zero (omega arith) (λ z. omega arith) in
    let tl = map_change f g u d xs p (omega arith) (λ q m ne. h (suc q) (omega arith) (λ z. ne (omega arith))) e in cc

-- n steps up
abbrev pub climb : (ℕ → ℕ) → ℕ → ℕ → ℕ
climb up zero x = x
climb up (suc n) x = up (climb up n x)

module _ (kids : ℕ → List ℕ) (up lev : ℕ → ℕ) (s : Shape kids up lev) where
  pub back : (ps : List ℕ) (i : ℕ) → Steps kids ps i → climb up (length ps) (reach kids ps i) ≡ i
  back [] i h = refl
  back (p ∷ ps) i h = ap up (back ps (get_or (kids i) p 0) h.1) ∙ s.ups i p h.0

  pub depth : (ps : List ℕ) (i : ℕ) → Steps kids ps i → lev (reach kids ps i) ≡ lev i + length ps
  depth [] i h = omega arith
  depth (p ∷ ps) i h =
      let a = depth ps (get_or (kids i) p 0) h.1 in
      let b = s.levels i p h.0 in omega arith

  -- two children of one place share no place below them
  pub disjoint : (i p q : ℕ) (ps qs : List ℕ) → p < length (kids i) → q < length (kids i) → Steps kids ps (get_or (kids i) p 0) → Steps kids qs (get_or (kids i) q 0)
      → reach kids ps (get_or (kids i) p 0) ≡ reach kids qs (get_or (kids i) q 0) → p ≡ q
  disjoint i p q ps qs lp lq hp hq e =
      let a = depth ps (get_or (kids i) p 0) hp in
      let b = depth qs (get_or (kids i) q 0) hq in
      let lv = ap lev e in
      let ka = s.levels i p lp in
      let kb = s.levels i q lq in
      let n : length ps ≡ length qs = omega arith in
      let x = back ps (get_or (kids i) p 0) hp in
      let y = back qs (get_or (kids i) q 0) hq in
      let z : get_or (kids i) p 0 ≡ get_or (kids i) q 0 = cc in
      s.once i p q lp lq z

-- no path from i leads to a place of C
abbrev pub Apart : (ℕ → List ℕ) → (ℕ → Type 0) → ℕ → Type 0
Apart kids C i = (ps : List ℕ) → Steps kids ps i → C (reach kids ps i) → ⊥

-- only the places of C changed
pub record Only {D : Type 0} (C : ℕ → Type 0) (at at' : ℕ → D) (kids kids' : ℕ → List ℕ) : Type 0 where
  pub data_same : (i : ℕ) → (C i → ⊥) → at' i ≡ at i
  pub kids_same : (i : ℕ) → (C i → ⊥) → kids' i ≡ kids i

module _ {D : Type 0} (C : ℕ → Type 0) (at at' : ℕ → D) (kids kids' : ℕ → List ℕ) (only : Only C at at' kids kids') where
  -- what no path leads to does not alter the tree
  pub frame : (d i : ℕ) → Apart kids C i → tree at' kids' d i ≡ tree at kids d i
  frame zero i a = ap (λ x. node x none) (only.data_same i (a [] tt))
  frame (suc d) i a =
      let e = only.data_same i (a [] tt) in
      let k = only.kids_same i (a [] tt) in
      let m = map_same (tree at' kids' d) (tree at kids d) 0 (kids i) (λ p l. frame d (get_or (kids i) p 0) (λ ps h c. a (p ∷ ps) (l, h) c)) in
      cc

module _ {D : Type 0} (kids : ℕ → List ℕ) (up lev : ℕ → ℕ) (s : Shape kids up lev)
    (N : ℕ → Type 0) (o : ℕ) (at at' : ℕ → D) (kids' : ℕ → List ℕ) (only : Only (λ x. (x ≡ o) ⊎ N x) at at' kids kids') where
  -- a place above o is not o
  pub above : (p : ℕ) (ps : List ℕ) (i : ℕ) → Steps kids (p ∷ ps) i → reach kids (p ∷ ps) i ≡ o → i ≡ o → ⊥
  above p ps i h r e =
      let a = depth kids up lev s (p ∷ ps) i h in
      let b = ap lev r in
      let c = ap lev e in omega arith

  -- a change at o, which a path leads to, changes the tree at that path and nowhere else
  pub along : (f : Tree D → Tree D) (e : ℕ) → tree at' kids' e o ≡ f (tree at kids e o)
      → (ps : List ℕ) (d i : ℕ) → d ≡ length ps + e → Steps kids ps i → reach kids ps i ≡ o → Apart kids N i
      → tree at' kids' d i ≡ update ps f (tree at kids d i)
  along f e here [] d i n h r fresh =
      let de : d ≡ e = omega arith in cc
  along f e here (p ∷ ps) zero i n h r fresh = absurd (omega arith)
  along f e here (p ∷ ps) (suc d) i n h r fresh =
      let ne : (i ≡ o) ⊎ N i → ⊥ = ⊎_elim (above p ps i h r) (fresh [] tt) in
      let ed = only.data_same i ne in
      let ek = only.kids_same i ne in
      let ih = along f e here ps d (get_or (kids i) p 0) (omega arith) h.1 r (λ qs u c. fresh (p ∷ qs) (h.0, u) c) in
      let m =
      map_change (tree at kids d) (tree at' kids' d) (update ps f) 0 (kids i) p h.0
      (λ q l nq.
      frame (λ x. (x ≡ o) ⊎ N x) at at' kids kids' only d (get_or (kids i) q 0)
      (λ qs u. ⊎_elim (λ w. nq (disjoint kids up lev s i q p qs ps l h.0 u h.1 (w ∙ sym r))) (λ w. fresh (q ∷ qs) (l, u) w)))
      ih in
      let tf = trees_forest (map (tree at kids d) (kids i)) in
      cc

  -- the children of o that stay are the trees that they were
  pub stays : (e p : ℕ) → Apart kids N o → p < length (kids o) → tree at' kids' e (get_or (kids o) p 0) ≡ tree at kids e (get_or (kids o) p 0)
  stays e p fresh l =
      frame (λ x. (x ≡ o) ⊎ N x) at at' kids kids' only e (get_or (kids o) p 0)
      (λ qs u. ⊎_elim (λ w. above p qs o (l, u) w refl) (λ w. fresh (p ∷ qs) (l, u) w))

  -- where o's row is spliced, so are the trees below it
  pub splices : (e p k : ℕ) (new : List ℕ) → Apart kids N o → at' o ≡ at o → kids' o ≡ spliced (kids o) p k new
      → tree at' kids' (suc e) o ≡ splice_kids p k (map (tree at' kids' e) new) (tree at kids (suc e) o)
  splices e p k new fresh ed ek =
      let m = map_same (tree at' kids' e) (tree at kids e) 0 (kids o) (λ q l. stays e q fresh l) in
      let a = map-append (tree at' kids' e) (take p (kids o)) (new ++ drop (p + k) (kids o)) in
      let b = map-append (tree at' kids' e) new (drop (p + k) (kids o)) in
      let c = take-map (tree at' kids' e) p (kids o) in
      let d = drop-map (tree at' kids' e) (p + k) (kids o) in
      let tf = trees_forest (map (tree at kids e) (kids o)) in
      cc

-- a place without children is a leaf
pub leaf : {D : Type 0} (at : ℕ → D) (kids : ℕ → List ℕ) (d i : ℕ) → kids i ≡ [] → tree at kids d i ≡ node (at i) none
leaf at kids zero i e = refl
leaf at kids (suc d) i e = cc
