-- A child taken away, with all under it.
use Rattle.std.proofs.Common.{◌≡◌, ℕ, zero, suc, ◌+◌, ◌-◌, ◌<◌, ◌≤◌, false, ◌⊎◌, List, [], ◌∷◌, ◌++◌, map, length, get_or, take, sym, refl, ap, ◌∙◌, subst, inl, inr, ⊎_elim, arith}
use Rattle.std.proofs.lemmas.List.{get_or-take}
use Rattle.std.proofs.lemmas.Bool.{cases_eq, cases_lt}
use Rattle.packed_rows.specs.Rows.{row}
use Rattle.node_table.specs.Kinds.{branches, is_text}
use Rattle.node_chains.specs.Tree.{pruned, node, none, forest, tree, update, reach, Steps, Under, splice_kids, weight, total}
use Rattle.node_chains.specs.Chains.{Placing, Emptied, Unlinked, no_item, blank, item_at, up_at, lev_at, under}
use Rattle.node_table.specs.Held.{datum, held, Changed, below, Used, Dry, Spared, Wiped}
use Rattle.node_chains.specs.declared.node.Item.{Item}
use Rattle.node_chains.specs.declared.node.Node.{Node}
use Rattle.node_chains.proofs.Frames.{depth, map_same, leaf, Only, Apart}
use Rattle.node_chains.proofs.Deletes.{along, cut_here, steps_then, reach_then}
use Rattle.node_chains.proofs.Frees.{bottom, whole}
use Rattle.node_chains.proofs.Weights.{weight_update, part}
use Rattle.node_table.proofs.Sums.{weight_cut, parts, get_or_mapped, length_mapped}
use Rattle.node_table.proofs.Inserts.{other_test, used_high, used_up, used_lev}

-- x stands in a row, or does not
pub member : (x : ℕ) (xs : List ℕ) → ((p : ℕ) × (p < length xs) × (x ≡ get_or xs p 0)) ⊎ ((p : ℕ) → p < length xs → x ≡ get_or xs p 0 → ⊥)
member x [] = inr (λ p l e. omega arith)
member x (y ∷ ys) = ⊎_elim (λ (e : x ≡ y). inl (zero, omega arith, e)) (λ ne. ⊎_elim (λ w. inl (suc w.0, omega (arith, w.1), w.2)) (λ h. inr (elsewhere ne h)) (member x ys)) (cases_eq x y)
  where
    elsewhere : (x ≡ y → ⊥) → ((p : ℕ) → p < length ys → x ≡ get_or ys p 0 → ⊥) → (p : ℕ) → p < length (y ∷ ys) → x ≡ get_or (y ∷ ys) p 0 → ⊥
    elsewhere ne h zero l e = ne e
    elsewhere ne h (suc p) l e = h p (omega arith) e

-- read past its depth, a tree is the same
pub settled : {D : Type 0} (f : ℕ) (nodes : List Node) (t s : List ℕ) → Placing f nodes t s → (g : ℕ → D) (d e i : ℕ) → i < f → 17 ≤ lev_at nodes i + d → 17 ≤ lev_at nodes i + e → tree g (row t s) d i ≡ tree g (row t s) e i
settled f nodes t s M g zero e i h a b = let r = bottom f i zero nodes t s M h a refl in sym (leaf g (row t s) e i r)
settled f nodes t s M g (suc d) zero i h a b = let r = bottom f i zero nodes t s M h b refl in leaf g (row t s) (suc d) i r
settled f nodes t s M g (suc d) (suc e) i h a b =
    ap (λ ts. node (g i) (forest ts)) (map_same (tree g (row t s) d) (tree g (row t s) e) 0 (row t s i)
    (λ p l. let v = M.shape.levels i p l in settled f nodes t s M g d e (get_or (row t s i) p 0) (M.high i p l) (omega arith) (omega arith)))

-- what is left of a tree without its children
pub prunes : {D : Type 0} (g : ℕ → D) (R : ℕ → List ℕ) (e c : ℕ) → pruned (tree g R e c) ≡ node (g c) none
prunes g R zero c = refl
prunes g R (suc e) c = refl

-- all that Unlinked and Emptied say alike: places become free and nothing else
pub record Shrunk (f : ℕ) (nodes nodes1 : List Node) (t s t1 s1 : List ℕ) : Type 0 where
  pub items : (x : ℕ) → item_at nodes1 x ≡ item_at nodes x
  pub front : take (length (row t s f)) (row t1 s1 f) ≡ row t s f
  pub longer : length (row t s f) ≤ length (row t1 s1 f)
  pub empties : (x : ℕ) → (x ≡ f → ⊥) → row t s x ≡ [] → row t1 s1 x ≡ []
  pub root : get_or nodes1 0 blank ≡ get_or nodes 0 blank

pub total_ones : (xs : List ℕ) → total (λ _. 1) xs ≡ length xs
total_ones [] = refl
total_ones (x ∷ xs) = let ih = total_ones xs in omega arith

-- nothing under a place is above it
pub not_under : {f : ℕ} {nodes : List Node} {t s : List ℕ} → Placing f nodes t s → (c x : ℕ) → lev_at nodes x < lev_at nodes c → Under (row t s) c x → ⊥
not_under {f} {nodes} {t} {s} M c x h u =
    let a = depth (row t s) (up_at nodes) (lev_at nodes) M.shape u.0 c u.1 in
    let b = ap (lev_at nodes) u.2 in omega arith

pub unlinked_shrinks : {f o k bytes : ℕ} {nodes nodes1 : List Node} {t s t1 s1 : List ℕ} → Used f nodes t s bytes → k < length (row t s o) → Unlinked f o k nodes nodes1 t s t1 s1 → Shrunk f nodes nodes1 t s t1 s1
unlinked_shrinks {f} {o} {k} {bytes} {nodes} {nodes1} {t} {s} {t1} {s1} Us m N = record {
  items = N.items;
  front = N.front;
  longer = omega (arith, N.freed (λ _. 1), total_ones (row t s f), total_ones (row t1 s1 f));
  empties = λ x nf r. ⊎_elim (λ z. z ∙ r) (λ z. z) (N.shrinks x nf (λ z. let q = ap (λ y. length (row t s y)) (sym z) ∙ ap length r in omega arith));
  root = N.nodes_at 0 (not_under Us.placing (get_or (row t s o) k 0) 0 (omega (arith, Us.base.1, Us.placing.shape.levels o k m)));
}

pub emptied_shrinks : {f c bytes : ℕ} {nodes nodes1 : List Node} {t s t1 s1 : List ℕ} → Used f nodes t s bytes → 17 ≤ lev_at nodes c + 17 → c < f → Emptied f c 17 nodes nodes1 t s t1 s1 → Shrunk f nodes nodes1 t s t1 s1
emptied_shrinks {f} {c} {bytes} {nodes} {nodes1} {t} {s} {t1} {s1} Us dp ic E = record {
  items = E.items;
  front = E.front;
  longer = let h = whole (λ _. 1) 17 c t s (bottom f c 17 nodes t s Us.placing ic dp) in omega (arith, E.freed (λ _. 1), total_ones (row t s f), total_ones (row t1 s1 f));
  empties = λ x nf r. ⊎_elim (λ z. z ∙ r) (λ z. z) (E.shrinks x nf);
  root = ⊎_elim (λ (e : 0 ≡ c). ap (λ x. get_or nodes1 x blank) e ∙ E.itself ∙ ap (λ x. get_or nodes x blank) (sym e)) (λ ne. E.nodes_at 0 (away ne)) (cases_eq 0 c);
}
  where
    away : (0 ≡ c → ⊥) → Under (row t s) c 0 → ⊥
    away ne u = go u.0 u.1 u.2
      where
        go : (ps : List ℕ) → Steps (row t s) ps c → reach (row t s) ps c ≡ 0 → ⊥
        go [] st e = ne (sym e)
        go (p ∷ ps) st e =
            let a = depth (row t s) (up_at nodes) (lev_at nodes) Us.placing.shape (p ∷ ps) c st in
            let b = ap (lev_at nodes) e in omega (arith, Us.base.1)

-- what is left once the freed places are wiped
module _ {U : Type 0} {f bytes bytes2 : ℕ} {nodes nodes1 nodes2 : List Node} {t s t1 s1 ut ut2 : List ℕ} {us us2 : List U} (Us : Used f nodes t s bytes)
    (M1 : Placing f nodes1 t1 s1) (S : Shrunk f nodes nodes1 t s t1 s1) (W : Wiped f (length (row t s f)) (length (row t1 s1 f)) nodes1 nodes2 t1 s1 ut ut2 us us2 bytes2) where
  -- what is not free stays
  pub stays : (x : ℕ) → (up_at nodes1 x ≡ f → ⊥) → Spared f (length (row t s f)) (length (row t1 s1 f)) t1 s1 x
  stays x h p a b e = h (ap (up_at nodes1) e ∙ M1.shape.ups f p b)

  pub same_item : (x : ℕ) → Spared f (length (row t s f)) (length (row t1 s1 f)) t1 s1 x → item_at nodes2 x ≡ item_at nodes x
  same_item x h = W.items_at x h ∙ S.items x

  -- a place of the chain that is not wiped was free before
  was_free : (p : ℕ) → p < length (row t s f) → get_or (row t1 s1 f) p 0 ≡ get_or (row t s f) p 0
  was_free p l = sym (get_or-take (length (row t s f)) (row t1 s1 f) p 0 l) ∙ ap (λ xs. get_or xs p 0) S.front

  spared : (x : ℕ) → ((p : ℕ) → p < length (row t1 s1 f) → x ≡ get_or (row t1 s1 f) p 0 → ⊥) → Spared f (length (row t s f)) (length (row t1 s1 f)) t1 s1 x
  spared x h p a b e = h p b e

  old_spared : (p : ℕ) → p < length (row t s f) → Spared f (length (row t s f)) (length (row t1 s1 f)) t1 s1 (get_or (row t1 s1 f) p 0)
  old_spared p l q a b e = let z = M1.shape.once f p q (omega (arith, S.longer)) b e in omega arith

  free2 : (p : ℕ) → p < length (row t1 s1 f) → item_at nodes2 (get_or (row t1 s1 f) p 0) ≡ no_item
  free2 p h = ⊎_elim
      (λ (l : p < length (row t s f)). same_item (get_or (row t1 s1 f) p 0) (old_spared p l) ∙ ap (item_at nodes) (was_free p l) ∙ Us.free p l)
      (λ (g : length (row t s f) ≤ p). (W.gone p g h).0) (cases_lt p (length (row t s f)))

  leaf2 : (i : ℕ) → branches (item_at nodes2 i).content ≡ false → row t1 s1 i ≡ []
  leaf2 i h = ⊎_elim
      (λ w. ap (row t1 s1) w.2 ∙ M1.bare w.0 w.1)
      (λ no_one.
      let e = same_item i (spared i no_one) in
      let b : branches (item_at nodes i).content ≡ false = ap (λ (y : Item). branches y.content) (sym e) ∙ h in
      S.empties i (λ z. other_test (branches (item_at nodes f).content) (ap (λ (y : Item). branches y.content) Us.last) (ap (λ x. branches (item_at nodes x).content) (sym z) ∙ b)) (Us.leaf i b))
      (member i (row t1 s1 f))

  short2 : (i : ℕ) → ((item_at nodes2 i).key_len ≤ 64) × ((item_at nodes2 i).string_len ≤ 256)
  short2 i = ⊎_elim
      (λ w. let e : item_at nodes2 i ≡ no_item = ap (item_at nodes2) w.2 ∙ free2 w.0 w.1 in (omega (arith, ap (λ (y : Item). y.key_len) e), omega (arith, ap (λ (y : Item). y.string_len) e)))
      (λ h. let e = same_item i (spared i h) in (omega (arith, ap (λ (y : Item). y.key_len) e, (Us.short i).0), omega (arith, ap (λ (y : Item). y.string_len) e, (Us.short i).1))) (member i (row t1 s1 f))

  pub used_wiped : ((w : ℕ → ℕ) → total w (row t1 s1 f) + weight (under t1 s1 17 0) w ≡ below f w) → Used f nodes2 t1 s1 bytes2
  used_wiped parted2 = record {
    placing = W.lawful;
    some = Us.some;
    root = same_item 0 (λ p a b e. omega (arith, M1.low f p b)) ∙ Us.root;
    base = ((W.links 0).0 ∙ ap (λ (y : Node). y.parent) S.root ∙ Us.base.0, (W.links 0).1 ∙ ap (λ (y : Node). y.depth) S.root ∙ Us.base.1);
    last = same_item f (λ p a b e. omega (arith, M1.high f p b)) ∙ Us.last;
    leaf = leaf2;
    free = free2;
    short = short2;
    parted = parted2;
    counted = W.counted;
  }

  pub dry_wiped : Dry nodes (row ut us) → Dry nodes2 (row ut2 us2)
  dry_wiped D i h = ⊎_elim
      (λ w. ap (row ut2 us2) w.2 ∙ dry_free w.0 w.1)
      (λ no_one. W.units_stay i (spared i no_one) ∙ D i (ap (λ (y : Item). is_text y.content) (sym (same_item i (spared i no_one))) ∙ h)) (member i (row t1 s1 f))
    where
      dry_free : (p : ℕ) → p < length (row t1 s1 f) → row ut2 us2 (get_or (row t1 s1 f) p 0) ≡ []
      dry_free p l = ⊎_elim
          (λ (lo : p < length (row t s f)).
          W.units_stay (get_or (row t1 s1 f) p 0) (old_spared p lo)
          ∙ D (get_or (row t1 s1 f) p 0) (ap (λ (y : Item). is_text y.content) (ap (item_at nodes) (was_free p lo) ∙ Us.free p lo)))
          (λ (hi : length (row t s f) ≤ p). (W.gone p hi l).1) (cases_lt p (length (row t s f)))

-- places that are not in use
abbrev pub Off : ℕ → List Node → ℕ → Type 0
Off f nodes x = (up_at nodes x ≡ f) ⊎ (x ≡ f)

module _ {f bytes : ℕ} {nodes : List Node} {t s : List ℕ} (Us : Used f nodes t s bytes) where
  pub off_apart : Apart (row t s) (Off f nodes) 0
  off_apart qs h = ⊎_elim (used_up Us (qs, h, refl)) (λ e. omega (arith, used_high Us (qs, h, refl)))

  pub off_under : {o : ℕ} → Under (row t s) 0 o → Apart (row t s) (Off f nodes) o
  off_under {o} uo qs h z =
      let h2 : Steps (row t s) qs (reach (row t s) uo.0 0) = subst (λ x. Steps (row t s) qs x) (sym uo.2) h in
      let e : reach (row t s) (uo.0 ++ qs) 0 ≡ reach (row t s) qs o = reach_then (row t s) uo.0 qs 0 ∙ ap (reach (row t s) qs) uo.2 in
      off_apart (uo.0 ++ qs) (steps_then (row t s) uo.0 qs 0 uo.1 h2) (subst (Off f nodes) (sym e) z)

  -- no place in use lies deeper than 17
  pub used_deep : (ps : List ℕ) (i : ℕ) → i < f → lev_at nodes i ≤ 17 → Steps (row t s) ps i → lev_at nodes (reach (row t s) ps i) ≤ 17
  used_deep [] i a b st = b
  used_deep (p ∷ ps) i a b st =
      let v = Us.placing.shape.levels i p st.0 in
      let w = Us.placing.shallow i p st.0 (λ e. omega arith) in
      used_deep ps (get_or (row t s i) p 0) (Us.placing.high i p st.0) (omega arith) st.1

module _ {U : Type 0} {f o k bytes bytes2 : ℕ} {nodes nodes1 nodes2 : List Node} {t s t1 s1 ut ut2 : List ℕ} {us us2 : List U} (Us : Used f nodes t s bytes) (uo : Under (row t s) 0 o) (m : k < length (row t s o))
    (M1 : Placing f nodes1 t1 s1) (N : Unlinked f o k nodes nodes1 t s t1 s1) (W : Wiped f (length (row t s f)) (length (row t1 s1 f)) nodes1 nodes2 t1 s1 ut ut2 us us2 bytes2) where
  abbrev c : ℕ
  c = get_or (row t s o) k 0

  o_high : o < f
  o_high = used_high Us uo

  -- the change of any tree that reads the rest alike
  module _ {D : Type 0} (g g2 : ℕ → D) (gx : (x : ℕ) → (Under (row t s) c x → ⊥) → (Off f nodes x → ⊥) → g2 x ≡ g x) where
    pub tree_less : (ps : List ℕ) → Steps (row t s) ps 0 → reach (row t s) ps 0 ≡ o → tree g2 (row t1 s1) 17 0 ≡ update ps (splice_kids k 1 []) (tree g (row t s) 17 0)
    tree_less ps st r =
        let lv = used_lev Us ps st r in
        let sh = Us.placing.shallow o k m (λ z. omega (arith, o_high)) in
        let deep : 17 ≡ length ps + suc (17 - length ps - 1) = omega arith in
        along (row t s) (up_at nodes) (lev_at nodes) Us.placing.shape (Off f nodes) o g g2 (row t1 s1) only2 (splice_kids k 1 []) (suc (17 - length ps - 1))
        (cut_here (row t s) (up_at nodes) (lev_at nodes) Us.placing.shape (Off f nodes) o k m g g2 (row t1 s1) only go N.from (off_under Us uo) (17 - length ps - 1))
        ps 17 0 deep st r (off_apart Us)
      where
        above : Under (row t s) c o → ⊥
        above u =
            let a = depth (row t s) (up_at nodes) (lev_at nodes) Us.placing.shape u.0 c u.1 in
            let b = ap (lev_at nodes) u.2 in
            let d = Us.placing.shape.levels o k m in omega arith

        go : g2 o ≡ g o
        go = gx o above (⊎_elim (used_up Us uo) (λ e. omega (arith, o_high)))

        only : Only (λ x. (x ≡ o) ⊎ (Under (row t s) c x ⊎ Off f nodes x)) g g2 (row t s) (row t1 s1)
        only = record {
          data_same = λ x ne. gx x (λ u. ne (inr (inl u))) (λ z. ne (inr (inr z)));
          kids_same = λ x ne. N.rows_at x (λ z. ne (inr (inr (inr z)))) (λ z. ne (inl z)) (λ u. ne (inr (inl u)));
        }

        only2 : Only (λ x. Under (row t s) o x ⊎ Off f nodes x) g g2 (row t s) (row t1 s1)
        only2 = record {
          data_same = λ x ne. only.data_same x (⊎_elim (λ z. ne (inl ([], tt, sym z))) (⊎_elim (λ u. ne (inl (k ∷ u.0, (m, u.1), u.2))) (λ z. ne (inr z))));
          kids_same = λ x ne. only.kids_same x (⊎_elim (λ z. ne (inl ([], tt, sym z))) (⊎_elim (λ u. ne (inl (k ∷ u.0, (m, u.1), u.2))) (λ z. ne (inr z))));
        }

  parted_less : (w : ℕ → ℕ) → total w (row t1 s1 f) + weight (under t1 s1 17 0) w ≡ below f w
  parted_less w =
      let lv = used_lev Us uo.0 uo.1 uo.2 in
      let sh = Us.placing.shallow o k m (λ z. omega (arith, o_high)) in
      let lc = Us.placing.shape.levels o k m in
      let a = ap (λ x. weight x w) (tree_less (λ x. x) (λ x. x) (λ x p q. refl) uo.0 uo.1 uo.2) in
      let P = parts (λ x. x) (row t s) uo.0 17 (suc (17 - length uo.0 - 1)) 0 (omega arith) uo.1 in
      let b = weight_update w (splice_kids k 1 []) uo.0 (under t s 17 0) P.leads in
      let is : part uo.0 (under t s 17 0) ≡ under t s (suc (17 - length uo.0 - 1)) o = P.is ∙ ap (under t s (suc (17 - length uo.0 - 1))) uo.2 in
      let ka = ap (λ x. weight (splice_kids k 1 [] x) w) is in
      let kb = ap (λ x. weight x w) is in
      let d = weight_cut w k (node 0 none) o (map (under t s (17 - length uo.0 - 1)) (row t s o)) (omega (arith, length_mapped (under t s (17 - length uo.0 - 1)) (row t s o))) in
      let e = ap (λ x. weight x w) (get_or_mapped (under t s (17 - length uo.0 - 1)) 0 (node 0 none) (row t s o) k m) in
      let h = ap (λ x. weight x w) (settled f nodes t s Us.placing (λ x. x) (17 - length uo.0 - 1) 17 c (Us.placing.high o k m) (omega arith) (omega arith)) in
      omega (arith, Us.parted w, N.freed w)

  pub used_less : Used f nodes2 t1 s1 bytes2
  used_less = used_wiped Us M1 (unlinked_shrinks Us m N) W parted_less

  pub dry_less : Dry nodes (row ut us) → Dry nodes2 (row ut2 us2)
  dry_less = dry_wiped Us M1 (unlinked_shrinks Us m N) W

  pub changed_less : (keys strings : List ℕ) → Changed (row t s) o (splice_kids k 1 []) (held nodes t s keys strings (row ut us)) (held nodes2 t1 s1 keys strings (row ut2 us2))
  changed_less keys strings = tree_less (datum nodes keys strings (row ut us)) (datum nodes2 keys strings (row ut2 us2))
      (λ x nu ng.
      let sp = stays Us M1 (unlinked_shrinks Us m N) W x (λ e. ng (inl (ap (λ (y : Node). y.parent) (sym (N.nodes_at x nu)) ∙ e))) in
      let a = same_item Us M1 (unlinked_shrinks Us m N) W x sp in
      let b = W.units_stay x sp in cc)

-- a node emptied
module _ {U : Type 0} {f c bytes bytes2 : ℕ} {nodes nodes1 nodes2 : List Node} {t s t1 s1 ut ut2 : List ℕ} {us us2 : List U} (Us : Used f nodes t s bytes) (uc : Under (row t s) 0 c)
    (M1 : Placing f nodes1 t1 s1) (E : Emptied f c 17 nodes nodes1 t s t1 s1) (W : Wiped f (length (row t s f)) (length (row t1 s1 f)) nodes1 nodes2 t1 s1 ut ut2 us us2 bytes2) where
  S : Shrunk f nodes nodes1 t s t1 s1
  S = emptied_shrinks Us (omega arith) (used_high Us uc) E

  module _ {D : Type 0} (g g2 : ℕ → D) (gc : g2 c ≡ g c) (gx : (x : ℕ) → (Under (row t s) c x → ⊥) → (Off f nodes x → ⊥) → g2 x ≡ g x) where
    pub tree_bare : (ps : List ℕ) → Steps (row t s) ps 0 → reach (row t s) ps 0 ≡ c → tree g2 (row t1 s1) 17 0 ≡ update ps pruned (tree g (row t s) 17 0)
    tree_bare ps st r =
        let dp = used_deep Us ps 0 Us.some (omega (arith, Us.base.1)) st in
        let lv = used_lev Us ps st r in
        let dc = ap (lev_at nodes) r in
        along (row t s) (up_at nodes) (lev_at nodes) Us.placing.shape (Off f nodes) c g g2 (row t1 s1)
        (record { data_same = λ x ne. gx x (λ u. ne (inl u)) (λ z. ne (inr z)); kids_same = λ x ne. E.rows_at x (λ z. ne (inr (inr z))) (λ u. ne (inl u)) })
        pruned (17 - length ps)
        (leaf g2 (row t1 s1) (17 - length ps) c E.empty ∙ ap (λ x. node x none) gc ∙ sym (prunes g (row t s) (17 - length ps) c))
        ps 17 0 (omega arith) st r (off_apart Us)

  parted_bare : (w : ℕ → ℕ) → total w (row t1 s1 f) + weight (under t1 s1 17 0) w ≡ below f w
  parted_bare w =
      let lv = used_lev Us uc.0 uc.1 uc.2 in
      let dp = used_deep Us uc.0 0 Us.some (omega (arith, Us.base.1)) uc.1 in
      let dc = ap (lev_at nodes) uc.2 in
      let a = ap (λ x. weight x w) (tree_bare (λ x. x) (λ x. x) refl (λ x p q. refl) uc.0 uc.1 uc.2) in
      let P = parts (λ x. x) (row t s) uc.0 17 (17 - length uc.0) 0 (omega arith) uc.1 in
      let b = weight_update w pruned uc.0 (under t s 17 0) P.leads in
      let is : part uc.0 (under t s 17 0) ≡ under t s (17 - length uc.0) c = P.is ∙ ap (under t s (17 - length uc.0)) uc.2 in
      let ka = ap (λ x. weight (pruned x) w) is ∙ ap (λ x. weight x w) (prunes (λ x. x) (row t s) (17 - length uc.0) c) in
      let kb = ap (λ x. weight x w) is in
      let h = ap (λ x. weight x w) (settled f nodes t s Us.placing (λ x. x) (17 - length uc.0) 17 c (used_high Us uc) (omega arith) (omega arith)) in
      omega (arith, Us.parted w, E.freed w)

  pub used_bare : Used f nodes2 t1 s1 bytes2
  used_bare = used_wiped Us M1 S W parted_bare

  pub dry_bare : Dry nodes (row ut us) → Dry nodes2 (row ut2 us2)
  dry_bare = dry_wiped Us M1 S W

  pub changed_bare : (keys strings : List ℕ) → Changed (row t s) c pruned (held nodes t s keys strings (row ut us)) (held nodes2 t1 s1 keys strings (row ut2 us2))
  changed_bare keys strings = tree_bare (datum nodes keys strings (row ut us)) (datum nodes2 keys strings (row ut2 us2))
      (let sp = stays Us M1 S W c (λ e. used_up Us uc (ap (λ (y : Node). y.parent) (sym E.itself) ∙ e)) in
      let a = same_item Us M1 S W c sp in
      let b = W.units_stay c sp in cc)
      (λ x nu ng.
      let sp = stays Us M1 S W x (λ e. ng (inl (ap (λ (y : Node). y.parent) (sym (E.nodes_at x nu)) ∙ e))) in
      let a = same_item Us M1 S W x sp in
      let b = W.units_stay x sp in cc)
