use Rattle.std.proofs.Common.{◌≡◌, ℕ, zero, suc, ◌+◌, ◌-◌, ◌<◌, ◌≤◌, ◌⊎◌, List, [], ◌∷◌, length, get_or, sym, refl, ap, ◌∙◌, inl, inr, ⊎_elim, arith, rules}
use Rattle.std.proofs.lemmas.List.{places}
use Rattle.std.proofs.lemmas.Bool.{cases_eq, cases_lt}
use Rattle.sequence_tree.specs.Lists.{spliced}
use Rattle.node_chains.specs.Tree.{node, none, tree, update, reach, Steps, Shape, splice_kids}
use Rattle.node_chains.proofs.Frames.{climb, back, Apart, Only, along, splices, leaf}

-- one element put in at `at`
module _ {X : Type 0} (xs : List X) (at : ℕ) (n d : X) (l : at ≤ length xs) where
  pub length_put : length (spliced xs at 0 (n ∷ [])) ≡ length xs + 1
  length_put = search (rules, places)

  pub put_low : (p : ℕ) → p < at → get_or (spliced xs at 0 (n ∷ [])) p d ≡ get_or xs p d
  put_low p h = grind (arith, places)

  pub put_at : get_or (spliced xs at 0 (n ∷ [])) at d ≡ n
  put_at = grind (arith, places)

  pub put_high : (p : ℕ) → at < p → get_or (spliced xs at 0 (n ∷ [])) p d ≡ get_or xs (p - 1) d
  put_high p h = grind (arith, places)

-- one element taken out at k
module _ {X : Type 0} (xs : List X) (k : ℕ) (d : X) (l : k < length xs) where
  pub length_cut : length (spliced xs k 1 []) + 1 ≡ length xs
  length_cut = search (rules, places)

  pub cut_low : (p : ℕ) → p < k → get_or (spliced xs k 1 []) p d ≡ get_or xs p d
  cut_low p h = grind (arith, places)

  pub cut_high : (p : ℕ) → k ≤ p → get_or (spliced xs k 1 []) p d ≡ get_or xs (p + 1) d
  cut_high p h = grind (arith, places)

-- where a child of the new rows comes from
pub record Old (R R2 : ℕ → List ℕ) (F k n o at i p : ℕ) : Type 0 where
  pub place : ℕ
  pub inside : place < length (R i)
  pub is : get_or (R2 i) p 0 ≡ get_or (R i) place 0
  pub other : get_or (R2 i) p 0 ≡ n → ⊥
  pub o_low : i ≡ o → p < at → place ≡ p
  pub o_high : i ≡ o → at ≤ p → (at < p) × (place + 1 ≡ p)
  pub F-low : i ≡ F → p < k → place ≡ p
  pub F-high : i ≡ F → k ≤ p → place ≡ p + 1
  pub else : (i ≡ o → ⊥) → (i ≡ F → ⊥) → place ≡ p

pub record New (R2 : ℕ → List ℕ) (n o at i p : ℕ) : Type 0 where
  pub row : i ≡ o
  pub spot : p ≡ at
  pub is : get_or (R2 i) p 0 ≡ n

-- the child n moves from k in row F to `at` in row o
module _ (R R2 : ℕ → List ℕ) (up up2 lev lev2 : ℕ → ℕ) (F k n o at : ℕ) (s : Shape R up lev)
    (m : k < length (R F)) (isn : get_or (R F) k 0 ≡ n) (bn : R n ≡ [])
    (oF : o ≡ F → ⊥) (uo : up o ≡ F → ⊥) (l : at ≤ length (R o))
    (rF : R2 F ≡ spliced (R F) k 1 []) (ro : R2 o ≡ spliced (R o) at 0 (n ∷ []))
    (rx : (j : ℕ) → (j ≡ o → ⊥) → (j ≡ F → ⊥) → R2 j ≡ R j)
    (un : up2 n ≡ o) (ux : (x : ℕ) → (x ≡ n → ⊥) → up2 x ≡ up x)
    (ln : lev2 n ≡ lev o + 1) (lx : (x : ℕ) → (x ≡ n → ⊥) → lev2 x ≡ lev x) where
  pub up_n : up n ≡ F
  up_n = let a = s.ups F k m in cc

  pub o_n : o ≡ n → ⊥
  o_n e = uo (ap up e ∙ up_n)

  pub F-n : F ≡ n → ⊥
  F-n e = let a : length (R F) ≡ 0 = ap (λ x. length (R x)) e ∙ ap length bn in omega arith

  -- a child of a row other than F's is not n
  pub not_n : (i p : ℕ) → (i ≡ F → ⊥) → p < length (R i) → get_or (R i) p 0 ≡ n → ⊥
  not_n i p ne h e = ne (sym (s.ups i p h) ∙ ap up e ∙ up_n)

  pub from : (i p : ℕ) → p < length (R2 i) → New R2 n o at i p ⊎ Old R R2 F k n o at i p
  from i p h = ⊎_elim in_o (λ ne. ⊎_elim (in_F ne) (elsewhere ne) (cases_eq i F)) (cases_eq i o)
    where
      in_o : i ≡ o → New R2 n o at i p ⊎ Old R R2 F k n o at i p
      in_o e =
          let r : R2 i ≡ spliced (R o) at 0 (n ∷ []) = ap R2 e ∙ ro in
          let len : length (R2 i) ≡ length (R o) + 1 = ap length r ∙ length_put (R o) at n 0 l in
          let re : R i ≡ R o = ap R e in
          let rl = ap length re in
          let nF : i ≡ F → ⊥ = λ y. oF (sym e ∙ y) in
          ⊎_elim
          (λ (lt : p < at).
          let w : get_or (R2 i) p 0 ≡ get_or (R i) p 0 = ap (λ xs. get_or xs p 0) r ∙ put_low (R o) at n 0 l p lt ∙ ap (λ xs. get_or xs p 0) (sym re) in
          let z : p < length (R i) = omega arith in
          inr (record { place = p; inside = z; is = w; other = λ y. not_n i p nF z (sym w ∙ y); o_low = λ a b. refl; o_high = λ a b. absurd (omega arith); F-low = λ a b. refl; F-high = λ a b. absurd (nF a); else = λ a b. refl }))
          (λ (ge : at ≤ p).
          ⊎_elim
          (λ (eq : p ≡ at). inl (record { row = e; spot = eq; is = ap (λ xs. get_or xs p 0) r ∙ ap (λ q. get_or (spliced (R o) at 0 (n ∷ [])) q 0) eq ∙ put_at (R o) at n 0 l }))
          (λ (ne : p ≡ at → ⊥).
          let gt : at < p = omega arith in
          let w : get_or (R2 i) p 0 ≡ get_or (R i) (p - 1) 0 = ap (λ xs. get_or xs p 0) r ∙ put_high (R o) at n 0 l p gt ∙ ap (λ xs. get_or xs (p - 1) 0) (sym re) in
          let z : p - 1 < length (R i) = omega arith in
          inr (record { place = p - 1; inside = z; is = w; other = λ y. not_n i (p - 1) nF z (sym w ∙ y); o_low = λ a b. absurd (omega arith); o_high = λ a b. (gt, omega arith); F-low = λ a b. absurd (nF a); F-high = λ a b. absurd (nF a); else = λ a b. absurd (a e) }))
          (cases_eq p at))
          (cases_lt p at)

      in_F : (i ≡ o → ⊥) → i ≡ F → New R2 n o at i p ⊎ Old R R2 F k n o at i p
      in_F ne e =
          let r : R2 i ≡ spliced (R F) k 1 [] = ap R2 e ∙ rF in
          let re : R i ≡ R F = ap R e in
          let rl = ap length re in
          let len : length (R2 i) + 1 ≡ length (R F) = ap (λ xs. length xs + 1) r ∙ length_cut (R F) k 0 m in
          ⊎_elim
          (λ (lt : p < k).
          let w : get_or (R2 i) p 0 ≡ get_or (R i) p 0 = ap (λ xs. get_or xs p 0) r ∙ cut_low (R F) k 0 m p lt ∙ ap (λ xs. get_or xs p 0) (sym re) in
          inr (record {
            place = p;
            inside = omega arith;
            is = w;
            other = λ z. let q : p ≡ k = s.once F p k (omega arith) m (ap (λ xs. get_or xs p 0) (sym re) ∙ sym w ∙ z ∙ sym isn) in omega arith;
            o_low = λ a b. refl;
            o_high = λ a b. absurd (ne a);
            F-low = λ a b. refl;
            F-high = λ a b. absurd (omega arith);
            else = λ a b. refl;
          }))
          (λ (ge : k ≤ p).
          let w : get_or (R2 i) p 0 ≡ get_or (R i) (p + 1) 0 = ap (λ xs. get_or xs p 0) r ∙ cut_high (R F) k 0 m p ge ∙ ap (λ xs. get_or xs (p + 1) 0) (sym re) in
          inr (record {
            place = p + 1;
            inside = omega arith;
            is = w;
            other = λ z. let q : p + 1 ≡ k = s.once F (p + 1) k (omega arith) m (ap (λ xs. get_or xs (p + 1) 0) (sym re) ∙ sym w ∙ z ∙ sym isn) in omega arith;
            o_low = λ a b. absurd (ne a);
            o_high = λ a b. absurd (ne a);
            F-low = λ a b. absurd (omega arith);
            F-high = λ a b. refl;
            else = λ a b. absurd (b e);
          }))
          (cases_lt p k)

      elsewhere : (i ≡ o → ⊥) → (i ≡ F → ⊥) → New R2 n o at i p ⊎ Old R R2 F k n o at i p
      elsewhere ne nf =
          let r = rx i ne nf in
          let rl = ap length r in
          let w = ap (λ xs. get_or xs p 0) r in
          inr (record { place = p; inside = omega arith; is = w; other = λ z. not_n i p nf (omega arith) (sym w ∙ z); o_low = λ a b. refl; o_high = λ a b. absurd (ne a); F-low = λ a b. refl; F-high = λ a b. absurd (nf a); else = λ a b. refl })

  -- n has no children, before and after
  pub bare_n : R2 n ≡ []
  bare_n = rx n (λ e. o_n (sym e)) (λ e. F-n (sym e)) ∙ bn

  pub not_i_n : (i p : ℕ) → p < length (R2 i) → i ≡ n → ⊥
  not_i_n i p h e = let a : length (R2 i) ≡ 0 = ap (λ x. length (R2 x)) e ∙ ap length bare_n in omega arith

  -- old places tell the new ones apart
  same_place : (i p q : ℕ) (w : Old R R2 F k n o at i p) (v : Old R R2 F k n o at i q) → w.place ≡ v.place → p ≡ q
  same_place i p q w v e = ⊎_elim
      (λ (io : i ≡ o). ⊎_elim
      (λ (a : p < at). ⊎_elim (λ (b : q < at). omega (arith, w.o_low io a, v.o_low io b)) (λ (b : at ≤ q). omega (arith, w.o_low io a, (v.o_high io b).0, (v.o_high io b).1)) (cases_lt q at))
      (λ (a : at ≤ p). ⊎_elim (λ (b : q < at). omega (arith, (w.o_high io a).0, (w.o_high io a).1, v.o_low io b)) (λ (b : at ≤ q). omega (arith, (w.o_high io a).1, (v.o_high io b).1)) (cases_lt q at))
      (cases_lt p at))
      (λ (no-o : i ≡ o → ⊥). ⊎_elim
      (λ (iF : i ≡ F). ⊎_elim
      (λ (a : p < k). ⊎_elim (λ (b : q < k). omega (arith, w.F-low iF a, v.F-low iF b)) (λ (b : k ≤ q). omega (arith, w.F-low iF a, v.F-high iF b)) (cases_lt q k))
      (λ (a : k ≤ p). ⊎_elim (λ (b : q < k). omega (arith, w.F-high iF a, v.F-low iF b)) (λ (b : k ≤ q). omega (arith, w.F-high iF a, v.F-high iF b)) (cases_lt q k))
      (cases_lt p k))
      (λ (no-F : i ≡ F → ⊥). omega (arith, w.else no-o no-F, v.else no-o no-F)) (cases_eq i F)) (cases_eq i o)

  pub shape_after : Shape R2 up2 lev2
  shape_after = record {
    ups = λ i p h. ⊎_elim
        (λ (w : New R2 n o at i p). ap up2 w.is ∙ un ∙ sym w.row)
        (λ (w : Old R R2 F k n o at i p). ux (get_or (R2 i) p 0) w.other ∙ ap up w.is ∙ s.ups i w.place w.inside) (from i p h);
    levels = λ i p h. let li = lx i (not_i_n i p h) in ⊎_elim
        (λ (w : New R2 n o at i p). let a = ap lev2 w.is in let b = ap lev w.row in omega arith)
        (λ (w : Old R R2 F k n o at i p). let a = lx (get_or (R2 i) p 0) w.other in let b = ap lev w.is in let c = s.levels i w.place w.inside in omega arith) (from i p h);
    once = λ i p q hp hq e. ⊎_elim
        (λ (w : New R2 n o at i p). ⊎_elim
        (λ (v : New R2 n o at i q). w.spot ∙ sym v.spot)
        (λ (v : Old R R2 F k n o at i q). absurd (v.other (sym e ∙ w.is))) (from i q hq))
        (λ (w : Old R R2 F k n o at i p). ⊎_elim
        (λ (v : New R2 n o at i q). absurd (w.other (e ∙ v.is)))
        (λ (v : Old R R2 F k n o at i q).
        same_place i p q w v (s.once i w.place v.place w.inside v.inside (sym w.is ∙ e ∙ v.is))) (from i q hq)) (from i p hp);
  }

  module _ {D : Type 0} (g g2 : ℕ → D) (top : up F ≡ F) (gx : (x : ℕ) → (x ≡ n → ⊥) → g2 x ≡ g x) where
    -- the free node and n are above nothing else
    pub climb_n : (k : ℕ) → (climb up k n ≡ n) ⊎ (climb up k n ≡ F)
    climb_n zero = inl refl
    climb_n (suc k) = inr (⊎_elim (λ e. ap up e ∙ up_n) (λ e. ap up e ∙ top) (climb_n k))

    pub climb_F : (k : ℕ) → climb up k F ≡ F
    climb_F zero = refl
    climb_F (suc k) = ap up (climb_F k) ∙ top

    pub fresh : (i : ℕ) → (i ≡ n → ⊥) → (i ≡ F → ⊥) → Apart R (λ x. (x ≡ n) ⊎ (x ≡ F)) i
    fresh i nn nf ps h c =
        let b = back R up lev s ps i h in
        ⊎_elim
        (λ e. ⊎_elim (λ w. nn (sym b ∙ ap (climb up (length ps)) e ∙ w)) (λ w. nf (sym b ∙ ap (climb up (length ps)) e ∙ w)) (climb_n (length ps)))
        (λ e. nf (sym b ∙ ap (climb up (length ps)) e ∙ climb_F (length ps))) c

    pub only : Only (λ x. (x ≡ o) ⊎ ((x ≡ n) ⊎ (x ≡ F))) g g2 R R2
    only = record {
      data_same = λ i ne. gx i (λ e. ne (inr (inl e)));
      kids_same = λ i ne. rx i (λ e. ne (inl e)) (λ e. ne (inr (inr e)));
    }

    pub tree_after : (root : ℕ) → (root ≡ n → ⊥) → (root ≡ F → ⊥) → (ps : List ℕ) (d e : ℕ) → d ≡ length ps + (e + 1) → Steps R ps root → reach R ps root ≡ o
        → tree g2 R2 d root ≡ update ps (splice_kids at 0 (node (g2 n) none ∷ [])) (tree g R d root)
    tree_after root rn rf ps d e de h r =
        let lf = leaf g2 R2 e n bare_n in
        let go = gx o o_n in
        let sp = splices R up lev s (λ x. (x ≡ n) ⊎ (x ≡ F)) o g g2 R2 only e at 0 (n ∷ []) (fresh o o_n oF) go ro in
        let here : tree g2 R2 (suc e) o ≡ splice_kids at 0 (node (g2 n) none ∷ []) (tree g R (suc e) o) =
        sp ∙ ap (λ t. splice_kids at 0 (t ∷ []) (tree g R (suc e) o)) lf in
        along R up lev s (λ x. (x ≡ n) ⊎ (x ≡ F)) o g g2 R2 only (splice_kids at 0 (node (g2 n) none ∷ [])) (suc e) here ps d root (omega arith) h r (fresh root rn rf)
