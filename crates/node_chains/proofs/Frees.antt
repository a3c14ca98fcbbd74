-- Freeing what is under a node, child by child from the last.
use Rattle.std.proofs.Common.{◌≡◌, ℕ, zero, suc, ◌+◌, ◌-◌, ◌<◌, ◌≤◌, ◌⊎◌, List, [], ◌∷◌, ◌++◌, map, length, get_or, take, drop, sym, refl, ap, ◌∙◌, subst, inl, inr, ⊎_elim, arith, rules}
use Rattle.std.proofs.lemmas.List.{length-take-le, get_or-take, take_all, take-take, nil_from_length, drop_all, drop_more, places, same_lists}
use Rattle.std.proofs.lemmas.Bool.{cases_lt, cases_eq}
use Rattle.sequence_tree.specs.Lists.{spliced}
use Rattle.packed_rows.specs.Rows.{row}
use Rattle.node_chains.specs.Tree.{reach, Steps, Under, weight, weights, forest, total}
use Rattle.node_chains.specs.Chains.{Placing, Freed, Emptied, Going, Unlinked, blank, item_at, up_at, lev_at, under}
use Rattle.node_chains.specs.declared.node.Node.{Node}
use Rattle.node_chains.proofs.Frames.{depth, disjoint, frame}
use Rattle.node_chains.proofs.Moves.{cut_last}

-- paths in rows that did not change
pub same_paths : (R R2 : ℕ → List ℕ) (c : ℕ) → ((qs : List ℕ) → Steps R qs c → R2 (reach R qs c) ≡ R (reach R qs c))
    → (ps : List ℕ) → Steps R2 ps c → Steps R ps c × (reach R ps c ≡ reach R2 ps c)
same_paths R R2 c h [] st = (tt, refl)
same_paths R R2 c h (p ∷ ps) st =
    let e : R2 c ≡ R c = h [] tt in
    let l : p < length (R c) = omega (arith, ap length e, st.0) in
    let k : get_or (R2 c) p 0 ≡ get_or (R c) p 0 = ap (λ xs. get_or xs p 0) e in
    let st2 : Steps R2 ps (get_or (R c) p 0) = subst (λ x. Steps R2 ps x) k st.1 in
    let ih = same_paths R R2 (get_or (R c) p 0) (λ qs u. h (p ∷ qs) (l, u)) ps st2 in
    ((l, ih.0), ih.1 ∙ ap (reach R2 ps) (sym k))

-- a path from below f stays below f
pub reach_high : (f : ℕ) (nodes : List Node) (t s : List ℕ) → Placing f nodes t s → (ps : List ℕ) (c : ℕ) → c < f → Steps (row t s) ps c → reach (row t s) ps c < f
reach_high f nodes t s M [] c l st = l
reach_high f nodes t s M (p ∷ ps) c l st = reach_high f nodes t s M ps (get_or (row t s c) p 0) (M.high c p st.0) st.1

pub total_append : (w : ℕ → ℕ) (xs ys : List ℕ) → total w (xs ++ ys) ≡ total w xs + total w ys
total_append w [] ys = omega arith
total_append w (x ∷ xs) ys = let ih = total_append w xs ys in omega arith

-- one element added at the end
pub put_last : {X : Type 0} (xs : List X) (x : X) → spliced xs (length xs) 0 (x ∷ []) ≡ xs ++ (x ∷ [])
put_last xs x = same_lists _ _ (search (rules, places)) (λ j d h. grind (arith, places))

-- a longer list begins as a shorter one whose end was added to
pub front_more : {X : Type 0} (n : ℕ) (xs ys zs : List X) → take n ys ≡ xs → length xs ≡ n → take n (ys ++ zs) ≡ xs
front_more n xs ys zs e l = same_lists _ _ (let q = ap length e in search (rules, places)) (λ j d h. let q = ap length e in let z : get_or (take n ys) j d ≡ get_or xs j d = ap (λ v. get_or v j d) e in grind (arith, places))

-- a row that stays or goes, after another step that keeps it or takes it away
pub shrunk : {a b c : List ℕ} → c ≡ b → (b ≡ a) ⊎ (b ≡ []) → (c ≡ a) ⊎ (c ≡ [])
shrunk e (inl h) = inl (e ∙ h)
shrunk e (inr h) = inr (e ∙ h)

pub shorter : {a b c : List ℕ} → (c ≡ b) ⊎ (c ≡ []) → (b ≡ a) ⊎ (b ≡ []) → (c ≡ a) ⊎ (c ≡ [])
shorter (inl e) h = shrunk e h
shorter (inr e) h = inr e

-- items stay where a child moves with its item
pub items_stay : (f i k : ℕ) (nodes nodes2 : List Node) (t s t2 s2 : List ℕ) → Freed f i k nodes nodes2 t s t2 s2 → (x : ℕ) → item_at nodes2 x ≡ item_at nodes x
items_stay f i k nodes nodes2 t s t2 s2 V x =
    ⊎_elim (λ (e : x ≡ get_or (row t s i) k 0). ap (item_at nodes2) e ∙ ap (λ (y : Node). y.item) V.itself ∙ ap (item_at nodes) (sym e)) (λ ne. ap (λ (y : Node). y.item) (V.rest x ne)) (cases_eq x (get_or (row t s i) k 0))

-- a row read whole weighs one node more than its children
pub whole : (w : ℕ → ℕ) (d i : ℕ) (t s : List ℕ) → (d ≡ 0 → row t s i ≡ []) → weight (under t s d i) w ≡ w i + weights (forest (map (under t s (d - 1)) (row t s i))) w
whole w zero i t s h = rw (h refl)
whole w (suc d) i t s h = let e : suc d - 1 ≡ d = omega arith in rw e

pub bottom : (f i d : ℕ) (nodes : List Node) (t s : List ℕ) → Placing f nodes t s → i < f → 17 ≤ lev_at nodes i + d → d ≡ 0 → row t s i ≡ []
bottom f i d nodes t s M ii dp z = ⊎_elim (λ (l : 0 < length (row t s i)). absurd (omega (arith, M.shallow i 0 l (λ e. omega arith)))) (λ (l : length (row t s i) ≤ 0). nil_from_length (row t s i) (omega arith)) (cases_lt 0 (length (row t s i)))

pub starts_going : (f i d n : ℕ) (nodes : List Node) (t s : List ℕ) → Placing f nodes t s → n ≡ length (row t s i) → Going f i d n nodes nodes t s t s
starts_going f i d n nodes t s M e = record {
  lawful = M;
  fewer = omega arith;
  left = sym (take_all n (row t s i) (omega arith));
  itself = refl;
  rows_at = λ x a b c. refl;
  nodes_at = λ x c. refl;
  shrinks = λ x a b. inl refl;
  items = λ x. refl;
  front = take_all (length (row t s f)) (row t s f) (omega arith);
  freed = λ w. rw (drop_all n (row t s i) (omega arith)) (omega arith);
}

pub ends_going : {f i d n : ℕ} {nodes0 nodes : List Node} {t0 s0 t s : List ℕ} → Placing f nodes0 t0 s0 → i < f → 17 ≤ lev_at nodes0 i + d → Going f i (d - 1) n nodes0 nodes t0 s0 t s → n ≤ 0 → Emptied f i d nodes0 nodes t0 s0 t s
ends_going {f} {i} {d} {n} {nodes0} {nodes} {t0} {s0} {t} {s} M0 ii dp G e =
    let z : n ≡ 0 = omega arith in record {
      empty = G.left ∙ ap (λ k. take k (row t0 s0 i)) z;
      itself = G.itself;
      rows_at = λ x nf nu. G.rows_at x nf (λ z. nu ([], tt, sym z)) (λ q l m u. nu (q ∷ u.0, (m, u.1), u.2));
      nodes_at = λ x nu. G.nodes_at x (λ q l m u. nu (q ∷ u.0, (m, u.1), u.2));
      shrinks = λ x nf. ⊎_elim (λ (e : x ≡ i). inr (ap (row t s) e ∙ G.left ∙ ap (λ k. take k (row t0 s0 i)) z)) (λ ne. G.shrinks x nf ne) (cases_eq x i);
      items = G.items;
      front = G.front;
      freed = λ w. let h = whole w d i t0 s0 (bottom f i d nodes0 t0 s0 M0 ii dp) in let g = rw z at (G.freed w) in omega (arith, h, g);
    }

-- one turn: of n children left, the last is emptied and then freed
module _ {f i d n : ℕ} {nodes0 nodes : List Node} {t0 s0 t s : List ℕ} (M0 : Placing f nodes0 t0 s0) (ii : i < f) (ui : up_at nodes0 i ≡ f → ⊥)
    (G : Going f i d n nodes0 nodes t0 s0 t s) (m : 0 < n) where
  pub len_i : length (row t s i) ≡ n
  len_i = ap length G.left ∙ length-take-le n (row t0 s0 i) G.fewer

  pub some : n - 1 < length (row t s i)
  some = omega (arith, len_i)

  abbrev child : ℕ
  child = get_or (row t s i) (n - 1) 0

  pub child_up : up_at nodes child ≡ f → ⊥
  child_up e = omega (arith, G.lawful.shape.ups i (n - 1) some)

  pub lev_i : lev_at nodes0 i < 17
  lev_i = let a = G.lawful.shallow i (n - 1) some (λ e. omega arith) in let b = ap (λ (y : Node). y.depth) G.itself in omega arith

  pub child_lev : lev_at nodes child ≡ lev_at nodes0 i + 1
  child_lev = G.lawful.shape.levels i (n - 1) some ∙ ap (λ (y : Node). y.depth + 1) G.itself

  child_was : child ≡ get_or (row t0 s0 i) (n - 1) 0
  child_was = ap (λ xs. get_or xs (n - 1) 0) G.left ∙ get_or-take n (row t0 s0 i) (n - 1) 0 (omega arith)

  above_child : Under (row t s) child i → ⊥
  above_child u =
      let a = depth (row t s) (up_at nodes) (lev_at nodes) G.lawful.shape u.0 child u.1 in
      let b = ap (lev_at nodes) u.2 in
      let c = G.lawful.shape.levels i (n - 1) some in omega arith

  lt : n - 1 < length (row t0 s0 i)
  lt = omega (arith, G.fewer)

  -- a place under the child is neither i nor under a child that is gone
  apart : (qs : List ℕ) → Steps (row t0 s0) qs (get_or (row t0 s0 i) (n - 1) 0) → (reach (row t0 s0) qs (get_or (row t0 s0 i) (n - 1) 0) ≡ i → ⊥) × ((q : ℕ) → n ≤ q → q < length (row t0 s0 i) → Under (row t0 s0) (get_or (row t0 s0 i) q 0) (reach (row t0 s0) qs (get_or (row t0 s0 i) (n - 1) 0)) → ⊥)
  apart qs st = (
    (λ e.
        let a = depth (row t0 s0) (up_at nodes0) (lev_at nodes0) M0.shape qs (get_or (row t0 s0 i) (n - 1) 0) st in
        let b = ap (lev_at nodes0) e in
        let c = M0.shape.levels i (n - 1) lt in omega arith),
    (λ q l h v. omega (arith, disjoint (row t0 s0) (up_at nodes0) (lev_at nodes0) M0.shape i (n - 1) q qs v.0 lt h st v.1 (sym v.2))),
  )

  low_child : (qs : List ℕ) → Steps (row t0 s0) qs (get_or (row t0 s0 i) (n - 1) 0) → reach (row t0 s0) qs (get_or (row t0 s0 i) (n - 1) 0) ≡ f → ⊥
  low_child qs st e = omega (arith, e, reach_high f nodes0 t0 s0 M0 qs (get_or (row t0 s0 i) (n - 1) 0) (M0.high i (n - 1) lt) st)

  -- what was under the child is so still
  under_was : (x : ℕ) → Under (row t s) child x → Under (row t0 s0) (get_or (row t0 s0 i) (n - 1) 0) x
  under_was x u =
      let u2 : Under (row t s) (get_or (row t0 s0 i) (n - 1) 0) x = subst (λ y. Under (row t s) y x) child_was u in
      let sp = same_paths (row t0 s0) (row t s) (get_or (row t0 s0 i) (n - 1) 0)
      (λ qs st. G.rows_at (reach (row t0 s0) qs (get_or (row t0 s0 i) (n - 1) 0)) (low_child qs st) (apart qs st).0 (apart qs st).1)
      u2.0 u2.1 in
      (u2.0, sp.0, sp.1 ∙ u2.2)

  -- the places under the child are those that were
  child_tree : under t s d child ≡ under t0 s0 d (get_or (row t0 s0 i) (n - 1) 0)
  child_tree =
      ap (under t s d) child_was
      ∙ frame (λ x. (x ≡ f) ⊎ ((x ≡ i) ⊎ ((q : ℕ) × (n ≤ q) × (q < length (row t0 s0 i)) × Under (row t0 s0) (get_or (row t0 s0 i) q 0) x)))
      (λ x. x) (λ x. x) (row t0 s0) (row t s)
      (record {
        data_same = λ x ne. refl;
        kids_same = λ x ne. G.rows_at x (λ z. ne (inl z)) (λ z. ne (inr (inl z))) (λ q l h u. ne (inr (inr (q, l, h, u))));
      })
      d (get_or (row t0 s0 i) (n - 1) 0)
      (λ qs st. ⊎_elim (low_child qs st) (⊎_elim (apart qs st).0 (λ w. (apart qs st).1 w.0 w.1 w.2 w.3)))

  module _ {nodes1 : List Node} {t1 s1 : List ℕ} (E : Emptied f child d nodes nodes1 t s t1 s1) where
    pub row1_i : row t1 s1 i ≡ row t s i
    row1_i = E.rows_at i (λ e. omega arith) above_child

    pub node1_i : get_or nodes1 i blank ≡ get_or nodes0 i blank
    node1_i = E.nodes_at i above_child ∙ G.itself

    pub some1 : n - 1 < length (row t1 s1 i)
    some1 = omega (arith, ap length row1_i, some)

    pub child1 : get_or (row t1 s1 i) (n - 1) 0 ≡ child
    child1 = ap (λ xs. get_or xs (n - 1) 0) row1_i

    pub bare1 : row t1 s1 (get_or (row t1 s1 i) (n - 1) 0) ≡ []
    bare1 = ap (row t1 s1) child1 ∙ E.empty

    pub up1 : up_at nodes1 i ≡ f → ⊥
    up1 e = ui (ap (λ (y : Node). y.parent) (sym node1_i) ∙ e)

    module _ {nodes2 : List Node} {t2 s2 : List ℕ} (M2 : Placing f nodes2 t2 s2) (V : Freed f i (n - 1) nodes1 nodes2 t1 s1 t2 s2) where
      row2_i : row t2 s2 i ≡ take (n - 1) (row t0 s0 i)
      row2_i =
          V.from ∙ ap (λ xs. spliced xs (n - 1) 1 []) row1_i ∙ cut_last (row t s i) (n - 1) (omega (arith, len_i))
          ∙ ap (take (n - 1)) G.left ∙ take-take (n - 1) n (row t0 s0 i) (omega arith)

      row2_f : row t2 s2 f ≡ row t1 s1 f ++ (child ∷ [])
      row2_f = V.to ∙ put_last (row t1 s1 f) (get_or (row t1 s1 i) (n - 1) 0) ∙ ap (λ x. row t1 s1 f ++ (x ∷ [])) child1

      r_i : i ≡ get_or (row t1 s1 i) (n - 1) 0 → ⊥
      r_i e = above_child ([], tt, sym (e ∙ child1))

      count2 : (w : ℕ → ℕ) → total w (row t2 s2 f) ≡ total w (row t0 s0 f) + weights (forest (map (under t0 s0 d) (drop (n - 1) (row t0 s0 i)))) w
      count2 w =
          let a = E.freed w in
          let b = ap (λ u. weight u w) child_tree in
          let l2 = ap (total w) row2_f ∙ total_append w (row t1 s1 f) (child ∷ []) in
          let dr = drop_more (row t0 s0 i) (n - 1) 0 lt in
          let e : n - 1 + 1 ≡ n = omega arith in
          let dr2 = dr ∙ ap (λ j. get_or (row t0 s0 i) (n - 1) 0 ∷ drop j (row t0 s0 i)) e in
          let v = ap (λ xs. weights (forest (map (under t0 s0 d) xs)) w) dr2 in
          omega (arith, G.freed w)

      front2 : take (length (row t0 s0 f)) (row t2 s2 f) ≡ row t0 s0 f
      front2 =
          let a = ap length G.front in
          ap (take (length (row t0 s0 f))) row2_f
          ∙ front_more (length (row t0 s0 f)) (row t0 s0 f) (row t1 s1 f) (child ∷ [])
          (sym (take-take (length (row t0 s0 f)) (length (row t s f)) (row t1 s1 f) (fewer a)) ∙ ap (take (length (row t0 s0 f))) E.front ∙ G.front) refl
        where
          fewer : length (take (length (row t0 s0 f)) (row t s f)) ≡ length (row t0 s0 f) → length (row t0 s0 f) ≤ length (row t s f)
          fewer e = search (rules, places)

      pub goes_on : Going f i d (n - 1) nodes0 nodes2 t0 s0 t2 s2
      goes_on = record {
        lawful = M2;
        fewer = omega (arith, G.fewer);
        left = row2_i;
        itself = V.rest i r_i ∙ node1_i;
        rows_at = λ x nf ni h. V.others x nf ni ∙ E.rows_at x nf (out x h) ∙ G.rows_at x nf ni (less x h);
        nodes_at = λ x h. V.rest x (differs x h) ∙ E.nodes_at x (out x h) ∙ G.nodes_at x (less x h);
        shrinks = λ x nf ni. shrunk (V.others x nf ni) (shorter (E.shrinks x nf) (G.shrinks x nf ni));
        items = λ x. items_stay f i (n - 1) nodes1 nodes2 t1 s1 t2 s2 V x ∙ E.items x ∙ G.items x;
        front = front2;
        freed = count2;
      }
        where
          out : (x : ℕ) → ((q : ℕ) → n - 1 ≤ q → q < length (row t0 s0 i) → Under (row t0 s0) (get_or (row t0 s0 i) q 0) x → ⊥) → Under (row t s) child x → ⊥
          out x h u = h (n - 1) (omega arith) lt (under_was x u)

          less : (x : ℕ) → ((q : ℕ) → n - 1 ≤ q → q < length (row t0 s0 i) → Under (row t0 s0) (get_or (row t0 s0 i) q 0) x → ⊥)
              → (q : ℕ) → n ≤ q → q < length (row t0 s0 i) → Under (row t0 s0) (get_or (row t0 s0 i) q 0) x → ⊥
          less x h q l k u = h q (omega arith) k u

          differs : (x : ℕ) → ((q : ℕ) → n - 1 ≤ q → q < length (row t0 s0 i) → Under (row t0 s0) (get_or (row t0 s0 i) q 0) x → ⊥) → x ≡ get_or (row t1 s1 i) (n - 1) 0 → ⊥
          differs x h e = out x h ([], tt, sym (e ∙ child1))

-- the child k of o, emptied and then freed
module _ {f o k : ℕ} {nodes nodes1 : List Node} {t s t1 s1 : List ℕ} (M : Placing f nodes t s) (io : o < f) (m : k < length (row t s o))
    (E : Emptied f (get_or (row t s o) k 0) 17 nodes nodes1 t s t1 s1) where
  not_above : Under (row t s) (get_or (row t s o) k 0) o → ⊥
  not_above u =
      let a = depth (row t s) (up_at nodes) (lev_at nodes) M.shape u.0 (get_or (row t s o) k 0) u.1 in
      let b = ap (lev_at nodes) u.2 in
      let c = M.shape.levels o k m in omega arith

  pub row1_o : row t1 s1 o ≡ row t s o
  row1_o = E.rows_at o (λ z. omega arith) not_above

  pub node1_o : get_or nodes1 o blank ≡ get_or nodes o blank
  node1_o = E.nodes_at o not_above

  pub unlinks : {nodes2 : List Node} {t2 s2 : List ℕ} → Freed f o k nodes1 nodes2 t1 s1 t2 s2 → Unlinked f o k nodes nodes2 t s t2 s2
  unlinks {nodes2} {t2} {s2} V =
      let was : get_or (row t1 s1 o) k 0 ≡ get_or (row t s o) k 0 = ap (λ xs. get_or xs k 0) row1_o in
      let to : row t2 s2 f ≡ row t1 s1 f ++ (get_or (row t s o) k 0 ∷ []) = V.to ∙ put_last (row t1 s1 f) (get_or (row t1 s1 o) k 0) ∙ ap (λ x. row t1 s1 f ++ (x ∷ [])) was in
      record {
        from = V.from ∙ ap (λ xs. spliced xs k 1 []) row1_o;
        rows_at = λ x nf no nu. V.others x nf no ∙ E.rows_at x nf nu;
        nodes_at = λ x nu. V.rest x (λ e. nu ([], tt, sym (e ∙ was))) ∙ E.nodes_at x nu;
        shrinks = λ x nf no. shrunk (V.others x nf no) (E.shrinks x nf);
        items = λ x. items_stay f o k nodes1 nodes2 t1 s1 t2 s2 V x ∙ E.items x;
        front = ap (take (length (row t s f))) to ∙ front_more (length (row t s f)) (row t s f) (row t1 s1 f) (get_or (row t s o) k 0 ∷ []) E.front refl;
        freed = λ w. let a = E.freed w in let b = ap (total w) to ∙ total_append w (row t1 s1 f) (get_or (row t s o) k 0 ∷ []) in omega arith;
      }
