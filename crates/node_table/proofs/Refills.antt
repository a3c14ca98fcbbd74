-- What a node holds replaced.
use Rattle.std.proofs.Common.{◌≡◌, ℕ, zero, suc, ◌+◌, ◌-◌, ◌*◌, ◌<◌, ◌≤◌, Bool, ◌⊎◌, List, [], ◌∷◌, length, get_or, sym, refl, ap, ◌∙◌, subst, inl, inr, ⊎_elim, arith}
use Rattle.std.proofs.lemmas.Bool.{cases_eq, cases_lt}
use Rattle.sequence_tree.specs.Lists.{Replaced}
use Rattle.packed_rows.specs.Rows.{row}
use Rattle.node_table.specs.Kinds.{is_text}
use Rattle.node_chains.specs.Tree.{Tree, node, forest, trees, change, update, pruned, relabel, reach, Steps, Under}
use Rattle.node_chains.specs.Chains.{Placing, Emptied, item_at, up_at, lev_at}
use Rattle.node_table.specs.Held.{datum, held, Changed, Cleared, Wiped, item_bytes, Used, Dry, refilled}
use Rattle.node_chains.specs.declared.node.Content.{Content}
use Rattle.node_chains.specs.declared.node.Item.{Item}
use Rattle.node_chains.specs.declared.node.Node.{Node}
use Rattle.node_chains.proofs.Frames.{depth, trees_forest}
use Rattle.node_table.proofs.Sums.{below_part}
use Rattle.node_table.proofs.Inserts.{used_high, slot_new, slot_other}
use Rattle.node_table.proofs.Removes.{not_under, used_bare, dry_bare, changed_bare}
use Rattle.node_chains.specs.Changes.{with_item}
use Rattle.node_chains.proofs.Items.{item_c, item_x}
use Rattle.node_table.proofs.Touches.{used_touched, relabels}

-- two changes at one place are one
pub change_twice : {X : Type 0} (f g h : X → X) → ((x : X) → f (g x) ≡ h x) → (xs : List X) (p : ℕ) → change (change xs p g) p f ≡ change xs p h
change_twice f g h e [] p = refl
change_twice f g h e (x ∷ xs) zero = ap (λ y. y ∷ xs) (e x)
change_twice f g h e (x ∷ xs) (suc p) = ap (λ ys. x ∷ ys) (change_twice f g h e xs p)

pub update_twice : {D : Type 0} (ps : List ℕ) (f g : Tree D → Tree D) (t : Tree D) → update ps f (update ps g t) ≡ update ps (λ x. f (g x)) t
update_twice [] f g t = refl
update_twice (p ∷ ps) f g (node x ts) =
    ap (λ us. node x (forest (change us p (update ps f)))) (trees_forest (change (trees ts) p (update ps g)))
    ∙ ap (λ us. node x (forest us)) (change_twice (update ps f) (update ps g) (update ps (λ y. f (g y))) (update_twice ps f g) (trees ts) p)

-- the bytes of an entry are among those that are counted
pub item_enough : {f bytes : ℕ} {nodes : List Node} {t s : List ℕ} → Used f nodes t s bytes → (c : ℕ) → c < f → item_bytes (item_at nodes c) ≤ bytes
item_enough {f} {bytes} {nodes} Us c l = omega (arith, below_part f c (λ i. item_bytes (item_at nodes i)) l, Us.counted)

-- the way to a node that is emptied stays
pub kept_path : {f c : ℕ} {nodes nodes1 : List Node} {t s t1 s1 : List ℕ} → Placing f nodes t s → Emptied f c 17 nodes nodes1 t s t1 s1
    → (ps : List ℕ) (i : ℕ) → i < f → Steps (row t s) ps i → reach (row t s) ps i ≡ c → Steps (row t1 s1) ps i × (reach (row t1 s1) ps i ≡ c)
kept_path M E [] i l st r = (tt, r)
kept_path {f} {c} {nodes} {nodes1} {t} {s} {t1} {s1} M E (p ∷ ps) i l st r =
    let a = depth (row t s) (up_at nodes) (lev_at nodes) M.shape (p ∷ ps) i st in
    let b = ap (lev_at nodes) r in
    let e : row t1 s1 i ≡ row t s i = E.rows_at i (λ z. omega arith) (not_under M c i (omega arith)) in
    let ih = kept_path M E ps (get_or (row t s i) p 0) (M.high i p st.0) st.1 r in
    let k : get_or (row t s i) p 0 ≡ get_or (row t1 s1 i) p 0 = ap (λ xs. get_or xs p 0) (sym e) in
    ((omega (arith, ap length e, st.0), subst (λ x. Steps (row t1 s1) ps x) k ih.0), ap (reach (row t1 s1) ps) (sym k) ∙ ih.1)

module _ {U : Type 0} {f c bytes bytes2 : ℕ} {nodes nodes1 nodes2 : List Node} {t s t1 s1 ut ut2 ut3 : List ℕ} {us us2 us3 : List U} (Us : Used f nodes t s bytes) (uc : Under (row t s) 0 c) (lo : 0 < c)
    (M1 : Placing f nodes1 t1 s1) (E : Emptied f c 17 nodes nodes1 t s t1 s1) (W : Wiped f (length (row t s f)) (length (row t1 s1 f)) nodes1 nodes2 t1 s1 ut ut2 us us2 bytes2) (C : Cleared c ut2 us2 ut3 us3)
    (content : Content) (conflict : Bool) (n : ℕ) (sh : n ≤ 256) where
  pub bare : Used f nodes2 t1 s1 bytes2
  bare = used_bare Us uc M1 E W

  pub c_high : c < f
  c_high = used_high Us uc

  pub c_inside : c < length nodes2
  c_inside = omega (arith, c_high, bare.placing.count)

  abbrev pub it : Item
  it = record { content = content; conflict = conflict; key_len = (item_at nodes2 c).key_len; string_len = n }

  abbrev nodes3 : List Node
  nodes3 = with_item nodes2 c it

  way : (ps : List ℕ) → Steps (row t s) ps 0 → reach (row t s) ps 0 ≡ c → Steps (row t1 s1) ps 0 × (reach (row t1 s1) ps 0 ≡ c)
  way ps st r = kept_path Us.placing E ps 0 Us.some st r

  pub used_refilled : Used f nodes3 t1 s1 (bytes2 - (item_at nodes2 c).string_len + n)
  used_refilled =
      let w = way uc.0 uc.1 uc.2 in
      used_touched c nodes2 it c_inside bare lo (uc.0, w.0, w.1) (λ z. E.empty) ((bare.short c).0, sh) (omega (arith, item_enough bare c c_high))

  pub dry_refilled : Dry nodes (row ut us) → Dry nodes3 (row ut3 us3)
  dry_refilled D i h = ⊎_elim
      (λ (e : i ≡ c). ap (row ut3 us3) e ∙ C.here)
      (λ ne. C.others i ne ∙ dry_bare Us uc M1 E W D i (ap (λ (y : Item). is_text y.content) (sym (item_x c nodes2 it c_inside i ne)) ∙ h)) (cases_eq i c)

  pub changed_refilled : (keys strings strings2 string : List ℕ) → length string ≡ n → length strings ≡ 256 * (f + 1) → length strings2 ≡ length strings → Replaced strings strings2 (length strings) (256 * c) (length string) string
      → Changed (row t s) c (λ x. relabel (refilled content conflict string) (pruned x)) (held nodes t s keys strings (row ut us)) (held nodes3 t1 s1 keys strings2 (row ut3 us3))
  changed_refilled keys strings strings2 string ln ls ls2 rs ps st r =
      let w = way ps st r in
      relabels bare c (refilled content conflict string) (datum nodes2 keys strings (row ut2 us2)) (datum nodes3 keys strings2 (row ut3 us3)) new old ps w.0 w.1
      ∙ ap (update ps (relabel (refilled content conflict string))) (changed_bare Us uc M1 E W keys strings ps st r)
      ∙ update_twice ps (relabel (refilled content conflict string)) pruned (held nodes t s keys strings (row ut us))
    where
      apart : (x : ℕ) → (x ≡ c → ⊥) → (256 * x + (item_at nodes2 x).string_len ≤ 256 * c) ⊎ (256 * c + length string ≤ 256 * x)
      apart x ne = ⊎_elim (λ (h : x < c). inl (omega (arith, (bare.short x).1))) (λ (h : c ≤ x). inr (omega arith)) (cases_lt x c)

      new : datum nodes3 keys strings2 (row ut3 us3) c ≡ refilled content conflict string (datum nodes2 keys strings (row ut2 us2) c)
      new =
          let i = item_c c nodes2 it c_inside in
          let b = slot_new strings strings2 string (256 * c) ls2 (omega (arith, c_high)) rs in
          let d = C.here in cc

      old : (x : ℕ) → (x ≡ c → ⊥) → datum nodes3 keys strings2 (row ut3 us3) x ≡ datum nodes2 keys strings (row ut2 us2) x
      old x ne =
          let i = item_x c nodes2 it c_inside x ne in
          let b = slot_other strings strings2 string (256 * c) (256 * x) (item_at nodes2 x).string_len ls2 (omega (arith, c_high)) rs (apart x ne) in
          let d = C.others x ne in cc
