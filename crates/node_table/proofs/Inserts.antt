-- A new entry put in.
use Rattle.std.proofs.Common.{◌≡◌, ℕ, zero, suc, ◌+◌, ◌-◌, ◌*◌, ◌<◌, ◌≤◌, Bool, true, false, ◌⊎◌, List, [], ◌∷◌, length, get_or, take, drop, sym, refl, ap, ◌∙◌, subst, inl, inr, ⊎_elim, arith, rules}
use Rattle.std.proofs.lemmas.List.{places, same_lists}
use Rattle.std.proofs.lemmas.Bool.{cases_eq, cases_lt}
use Rattle.sequence_tree.specs.Lists.{Replaced}
use Rattle.packed_rows.specs.Rows.{row}
use Rattle.node_table.specs.Kinds.{branches, is_text}
use Rattle.node_chains.specs.Tree.{node, none, tree, update, reach, Steps, Under, splice_kids, weight, total}
use Rattle.node_chains.specs.Chains.{Placing, Moved, no_item, item_at, up_at, lev_at, under}
use Rattle.node_table.specs.Held.{Datum, datum, held, Changed, item_bytes, below, Used, Dry}
use Rattle.node_chains.specs.declared.node.Item.{Item}
use Rattle.node_chains.specs.declared.node.Node.{Node}
use Rattle.node_chains.proofs.Frames.{climb, back, depth}
use Rattle.node_chains.proofs.Memories.{tree_after, length_cut, cut_low, cut_high}
use Rattle.node_chains.proofs.Frees.{reach_high}
use Rattle.node_chains.proofs.Weights.{weight_update, part}
use Rattle.node_table.proofs.Sums.{below_change, below_bound, total_cut, weight_put, parts}

-- two answers of one test
pub other_test : (b : Bool) → b ≡ true → b ≡ false → ⊥
other_test b p q = let z : true ≡ false = sym p ∙ q in absurd (let y : ◌≡◌ {A = ℕ} 0 1 = cc in omega arith)

-- the bytes written into a slot
pub slot_new : (s t xs : List ℕ) (a : ℕ) → length t ≡ length s → a + length xs ≤ length s → Replaced s t (length s) a (length xs) xs → take (length xs) (drop a t) ≡ xs
slot_new s t xs a e l r = same_lists _ _ (search (rules, places)) (λ j d h. grind (arith, places, r.here j d))

pub slot_other : (s t xs : List ℕ) (a b m : ℕ) → length t ≡ length s → a + length xs ≤ length s → Replaced s t (length s) a (length xs) xs → (b + m ≤ a) ⊎ (a + length xs ≤ b) → take m (drop b t) ≡ take m (drop b s)
slot_other s t xs a b m e l r (inl h) = same_lists _ _ (search (rules, places)) (λ j d k. grind (arith, places, r.below (b + j) d))
slot_other s t xs a b m e l r (inr h) = same_lists _ _ (search (rules, places)) (λ j d k. let z : a + length xs + (b + j - a - length xs) ≡ b + j = omega arith in grind (arith, places, r.tail (b + j - a - length xs) d))

module _ {f bytes : ℕ} {nodes : List Node} {t s : List ℕ} (Us : Used f nodes t s bytes) where
  -- a place in use is neither free nor f
  pub used_high : {x : ℕ} → Under (row t s) 0 x → x < f
  used_high u = subst (λ y. y < f) u.2 (reach_high f nodes t s Us.placing u.0 0 Us.some u.1)

  climbs : (n x : ℕ) → up_at nodes x ≡ f → climb (up_at nodes) (suc n) x ≡ f
  climbs zero x e = e
  climbs (suc n) x e = ap (up_at nodes) (climbs n x e) ∙ Us.placing.top

  pub used_up : {x : ℕ} → Under (row t s) 0 x → up_at nodes x ≡ f → ⊥
  used_up {x} u = go u.0 u.1 u.2
    where
      go : (ps : List ℕ) → Steps (row t s) ps 0 → reach (row t s) ps 0 ≡ x → up_at nodes x ≡ f → ⊥
      go [] st e up = let a = Us.base.0 in let b = ap (up_at nodes) e in omega (arith, Us.some)
      go (p ∷ ps) st e up =
          let b = back (row t s) (up_at nodes) (lev_at nodes) Us.placing.shape (p ∷ ps) 0 st in
          let c = climbs (length ps) x up in
          let z : 0 ≡ f = sym b ∙ ap (climb (up_at nodes) (suc (length ps))) e ∙ c in omega (arith, Us.some)

  pub used_lev : {x : ℕ} (ps : List ℕ) → Steps (row t s) ps 0 → reach (row t s) ps 0 ≡ x → lev_at nodes x ≡ length ps
  used_lev ps st e =
      let a = depth (row t s) (up_at nodes) (lev_at nodes) Us.placing.shape ps 0 st in
      let b = ap (lev_at nodes) e in
      let c = Us.base.1 in omega arith

  pub bytes_bound : bytes ≤ 320 * f
  bytes_bound = let a = below_bound f (λ i. item_bytes (item_at nodes i)) (λ x. omega (arith, (Us.short x).0, (Us.short x).1)) in omega (arith, Us.counted)

  module _ {k o at n : ℕ} {item : Item} {nodes2 : List Node} {t2 s2 : List ℕ} (V : Moved f k o at n item nodes nodes2 t s t2 s2) (M2 : Placing f nodes2 t2 s2)
      (uo : Under (row t s) 0 o) (br : branches (item_at nodes o).content ≡ true) (lv : lev_at nodes o < 17) (m : k < length (row t s f)) (l : at ≤ length (row t s o))
      (sh : (item.key_len ≤ 64) × (item.string_len ≤ 256)) where
    n_high : n < f
    n_high = omega (arith, V.was, Us.placing.high f k m)

    n_low : 0 < n
    n_low = omega (arith, V.was, Us.placing.low f k m)

    pub n_free : item_at nodes n ≡ no_item
    n_free = ap (item_at nodes) V.was ∙ Us.free k m

    n_bare : row t s n ≡ []
    n_bare = ap (row t s) V.was ∙ Us.placing.bare k m

    n_not_o : n ≡ o → ⊥
    n_not_o e = other_test (branches (item_at nodes o).content) br (ap (λ x. branches (item_at nodes x).content) (sym e) ∙ ap (λ (y : Item). branches y.content) n_free)

    item_new : item_at nodes2 n ≡ item
    item_new = ap (λ (y : Node). y.item) V.itself

    pub item_old : (x : ℕ) → (x ≡ n → ⊥) → item_at nodes2 x ≡ item_at nodes x
    item_old x ne = ap (λ (y : Node). y.item) (V.rest x ne)

    leaf2 : (i : ℕ) → branches (item_at nodes2 i).content ≡ false → row t2 s2 i ≡ []
    leaf2 i h = ⊎_elim
        (λ (e : i ≡ n). ap (row t2 s2) e ∙ V.others n n_not_o (λ z. omega (arith, n_high)) ∙ n_bare)
        (λ (ne : i ≡ n → ⊥).
        let b : branches (item_at nodes i).content ≡ false = ap (λ (y : Item). branches y.content) (sym (item_old i ne)) ∙ h in
        V.others i
        (λ z. other_test (branches (item_at nodes o).content) br (ap (λ x. branches (item_at nodes x).content) (sym z) ∙ b))
        (λ z. let r : length (row t s f) ≡ 0 = ap (λ x. length (row t s x)) (sym z) ∙ ap length (Us.leaf i b) in omega arith)
        ∙ Us.leaf i b) (cases_eq i n)

    free2 : (p : ℕ) → p < length (row t2 s2 f) → item_at nodes2 (get_or (row t2 s2 f) p 0) ≡ no_item
    free2 p h = ⊎_elim
        (λ (c : p < k). at_old p (omega arith) (ap (λ xs. get_or xs p 0) V.from ∙ cut_low (row t s f) k 0 m p c) (λ e. omega arith))
        (λ (c : k ≤ p). at_old (p + 1) (omega (arith, ap length V.from, length_cut (row t s f) k 0 m)) (ap (λ xs. get_or xs p 0) V.from ∙ cut_high (row t s f) k 0 m p c) (λ e. omega arith)) (cases_lt p k)
      where
        at_old : (q : ℕ) → q < length (row t s f) → get_or (row t2 s2 f) p 0 ≡ get_or (row t s f) q 0 → (q ≡ k → ⊥) → item_at nodes2 (get_or (row t2 s2 f) p 0) ≡ no_item
        at_old q lq e ne =
            ap (item_at nodes2) e ∙ item_old (get_or (row t s f) q 0) (λ z. ne (Us.placing.shape.once f q k lq m (z ∙ V.was))) ∙ Us.free q lq

    after_tree : {D : Type 0} (g g2 : ℕ → D) → ((x : ℕ) → (x ≡ n → ⊥) → g2 x ≡ g x) → (ps : List ℕ) → Steps (row t s) ps 0 → reach (row t s) ps 0 ≡ o
        → tree g2 (row t2 s2) 17 0 ≡ update ps (splice_kids at 0 (node (g2 n) none ∷ [])) (tree g (row t s) 17 0)
    after_tree g g2 gx ps st r =
        tree_after (row t s) (row t2 s2) (up_at nodes) (up_at nodes2) (lev_at nodes) (lev_at nodes2) f k n o at Us.placing.shape m (sym V.was) n_bare
        (λ z. omega (arith, used_high uo)) (used_up uo) l V.from V.to V.others
        (ap (λ (x : Node). x.parent) V.itself) (λ x ne. ap (λ (y : Node). y.parent) (V.rest x ne)) (ap (λ (x : Node). x.depth) V.itself) (λ x ne. ap (λ (y : Node). y.depth) (V.rest x ne))
        g g2 Us.placing.top gx
        0 (λ z. omega (arith, n_low)) (λ z. omega (arith, Us.some)) ps 17 (17 - length ps - 1) (omega (arith, used_lev ps st r)) st r

    parted2 : (w : ℕ → ℕ) → total w (row t2 s2 f) + weight (under t2 s2 17 0) w ≡ below f w
    parted2 w =
        let a = ap (λ x. weight x w) (after_tree (λ x. x) (λ x. x) (λ x ne. refl) uo.0 uo.1 uo.2) in
        let P = parts (λ x. x) (row t s) uo.0 17 (17 - length uo.0) 0 (omega (arith, used_lev uo.0 uo.1 uo.2)) uo.1 in
        let b = weight_update w (splice_kids at 0 (node n none ∷ [])) uo.0 (under t s 17 0) P.leads in
        let c = weight_put w at n (part uo.0 (under t s 17 0)) in
        let d = ap (total w) V.from in
        let e = total_cut w k (row t s f) m in
        let h = ap w V.was in
        omega (arith, Us.parted w)

    pub used_more : Used f nodes2 t2 s2 (bytes + (item.key_len + item.string_len))
    used_more = record {
      placing = M2;
      some = Us.some;
      root = item_old 0 (λ e. omega (arith, n_low)) ∙ Us.root;
      base = let z = V.rest 0 (λ e. omega (arith, n_low)) in (ap (λ (y : Node). y.parent) z ∙ Us.base.0, ap (λ (y : Node). y.depth) z ∙ Us.base.1);
      last = item_old f (λ e. omega (arith, n_high)) ∙ Us.last;
      leaf = leaf2;
      free = free2;
      short = λ i. ⊎_elim
          (λ (e : i ≡ n). let z : item_at nodes2 i ≡ item = ap (item_at nodes2) e ∙ item_new in (omega (arith, ap (λ (y : Item). y.key_len) z, sh.0), omega (arith, ap (λ (y : Item). y.string_len) z, sh.1)))
          (λ (ne : i ≡ n → ⊥). let z = item_old i ne in (omega (arith, ap (λ (y : Item). y.key_len) z, (Us.short i).0), omega (arith, ap (λ (y : Item). y.string_len) z, (Us.short i).1))) (cases_eq i n);
      parted = parted2;
      counted =
          let a = below_change f n (λ i. item_bytes (item_at nodes i)) (λ i. item_bytes (item_at nodes2 i)) n_high (λ x ne. ap item_bytes (item_old x ne)) in
          let b = ap item_bytes n_free in
          let c = ap item_bytes item_new in
          omega (arith, Us.counted);
    }

    pub dry_more : {U : Type 0} (u : ℕ → List U) → Dry nodes u → Dry nodes2 u
    dry_more u D i h = ⊎_elim
        (λ (e : i ≡ n). ap u e ∙ D n (ap (λ (y : Item). is_text y.content) n_free))
        (λ (ne : i ≡ n → ⊥). D i (ap (λ (y : Item). is_text y.content) (sym (item_old i ne)) ∙ h)) (cases_eq i n)

    pub changed_more : {U : Type 0} (keys keys2 strings strings2 key string : List ℕ) (u : ℕ → List U) → Dry nodes u
        → item.key_len ≡ length key → item.string_len ≡ length string
        → length keys ≡ 64 * (f + 1) → length strings ≡ 256 * (f + 1) → length keys2 ≡ length keys → length strings2 ≡ length strings
        → Replaced keys keys2 (length keys) (64 * n) (length key) key → Replaced strings strings2 (length strings) (256 * n) (length string) string
        → Changed (row t s) o (splice_kids at 0 (node (record { key = key; content = item.content; conflict = item.conflict; string = string; units = [] }) none ∷ [])) (held nodes t s keys strings u) (held nodes2 t2 s2 keys2 strings2 u)
    changed_more {U} keys keys2 strings strings2 key string u D ek es lk ls lk2 ls2 rk rs ps st r =
        after_tree (datum nodes keys strings u) (datum nodes2 keys2 strings2 u) old ps st r
        ∙ ap (λ (x : Datum U). update ps (splice_kids at 0 (node x none ∷ [])) (held nodes t s keys strings u)) new
      where
        old : (x : ℕ) → (x ≡ n → ⊥) → datum nodes2 keys2 strings2 u x ≡ datum nodes keys strings u x
        old x ne =
            let i = item_old x ne in
            let a = slot_other keys keys2 key (64 * n) (64 * x) (item_at nodes x).key_len lk2 (omega (arith, n_high, sh.0)) rk (apart64 x ne) in
            let b = slot_other strings strings2 string (256 * n) (256 * x) (item_at nodes x).string_len ls2 (omega (arith, n_high, sh.1)) rs (apart256 x ne) in
            cc
          where
            apart64 : (x : ℕ) → (x ≡ n → ⊥) → (64 * x + (item_at nodes x).key_len ≤ 64 * n) ⊎ (64 * n + length key ≤ 64 * x)
            apart64 x ne = ⊎_elim (λ (h : x < n). inl (omega (arith, (Us.short x).0))) (λ (h : n ≤ x). inr (omega (arith, sh.0))) (cases_lt x n)

            apart256 : (x : ℕ) → (x ≡ n → ⊥) → (256 * x + (item_at nodes x).string_len ≤ 256 * n) ⊎ (256 * n + length string ≤ 256 * x)
            apart256 x ne = ⊎_elim (λ (h : x < n). inl (omega (arith, (Us.short x).1))) (λ (h : n ≤ x). inr (omega (arith, sh.1))) (cases_lt x n)

        new : datum nodes2 keys2 strings2 u n ≡ record { key = key; content = item.content; conflict = item.conflict; string = string; units = [] }
        new =
            let i = item_new in
            let a = slot_new keys keys2 key (64 * n) lk2 (omega (arith, n_high, sh.0)) rk in
            let b = slot_new strings strings2 string (256 * n) ls2 (omega (arith, n_high, sh.1)) rs in
            let d = D n (ap (λ (y : Item). is_text y.content) n_free) in
            cc
