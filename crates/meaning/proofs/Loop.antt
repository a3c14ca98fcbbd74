-- Making by the queue is the turns of all identities; the queue stays small.
use Rattle.std.proofs.Common.{◌≡◌, ℕ, zero, suc, ◌+◌, ◌<◌, ◌≤◌, Bool, true, false, cond, not, T, eqb, ltb, leb, ◌⊎◌, List, [], ◌∷◌, ◌++◌, length, sym, refl, ap, ◌∙◌, subst, inl, inr, arith, leb→le, length-append}
use mathlib.Core.Option.{Option, none, some}
use lib.Dec.{nleb→lt}
use Rattle.types.specs.declared.types.ObjId.{ObjId}
use Rattle.meaning.specs.Lists.{In, Every}
use Rattle.meaning.specs.Entries.{ranks, Ref, ref_rank}
use Rattle.meaning.specs.Rows.{refs, ids}
use Rattle.meaning.specs.Documents.{Obj, name, Doc, find, items, Lawful}
use Rattle.meaning.specs.Log.{Event, Log}
use Rattle.meaning.specs.Making.{on_rank, events_of, arranged, wrote, naming, queue_all, turns, queues, making, news, turn_of, on_ranks, identities, turns_of}
use Rattle.meaning.proofs.Tests.{eqb_yes, eqb_same, eqb_no, eqb_not, ltb_yes, ltb_no}
use Rattle.meaning.proofs.Members.{every_map, every_in, every_at, append_inl, append_inr, in_ids_ref, memb_in, in_memb, memb_out}
use Rattle.meaning.proofs.Found.{find_name, find_in, in_find, top, below_top}
use Rattle.meaning.proofs.Paths.{child, later_of}
use Rattle.meaning.proofs.News.{kin, Named, news_keeps, news_from, news_takes, nw}
use Rattle.meaning.proofs.Queue.{RiseN, joins_every, joins_rise, joins_in, in_joins, RiseE, arranged_rise, arranged_every, arranged_of, arranged_length}

-- how many of a list are not below n
abbrev cnt : ℕ → List ℕ → ℕ
cnt n [] = 0
cnt n (x ∷ xs) = cond (leb n x) (suc (cnt n xs)) (cnt n xs)

cnt_step : (n x : ℕ) (a b : ℕ) → a ≤ b → cond (leb (suc n) x) (suc a) a ≤ cond (leb n x) (suc b) b
cnt_step n x a b h = go (leb (suc n) x) (leb n x) refl refl
  where
    go : (s t : Bool) → leb (suc n) x ≡ s → leb n x ≡ t → cond s (suc a) a ≤ cond t (suc b) b
    go true true e k = omega arith
    go true false e k = let p = leb→le (suc n) x (subst T (sym e) tt) in let q = nleb→lt n x (subst (λ t. T (not t)) (sym k) tt) in absurd (omega arith)
    go false true e k = omega arith
    go false false e k = h

cnt_mono : (n : ℕ) (xs : List ℕ) → cnt (suc n) xs ≤ cnt n xs
cnt_mono n [] = omega arith
cnt_mono n (x ∷ xs) = cnt_step n x (cnt (suc n) xs) (cnt n xs) (cnt_mono n xs)

cnt_less : (n : ℕ) (xs : List ℕ) → In n xs → cnt (suc n) xs < cnt n xs
cnt_less n [] m = absurd m
cnt_less n (x ∷ xs) (inr m) = go (cnt_less n xs m) (leb (suc n) x) (leb n x) refl refl
  where
    go : cnt (suc n) xs < cnt n xs → (s t : Bool) → leb (suc n) x ≡ s → leb n x ≡ t → cond s (suc (cnt (suc n) xs)) (cnt (suc n) xs) < cond t (suc (cnt n xs)) (cnt n xs)
    go h true true e k = omega arith
    go h true false e k = let p = leb→le (suc n) x (subst T (sym e) tt) in let q = nleb→lt n x (subst (λ t. T (not t)) (sym k) tt) in absurd (omega arith)
    go h false true e k = omega arith
    go h false false e k = h
cnt_less n (x ∷ xs) (inl i) = go (cnt_mono n xs) (leb (suc n) x) (leb n x) refl refl
  where
    go : cnt (suc n) xs ≤ cnt n xs → (s t : Bool) → leb (suc n) x ≡ s → leb n x ≡ t → cond s (suc (cnt (suc n) xs)) (cnt (suc n) xs) < cond t (suc (cnt n xs)) (cnt n xs)
    go h true t e k = let p = leb→le (suc n) x (subst T (sym e) tt) in absurd (omega arith)
    go h false true e k = omega arith
    go h false false e k = let q = nleb→lt n x (subst (λ t. T (not t)) (sym k) tt) in absurd (omega arith)

cnt_from : (n m : ℕ) (xs : List ℕ) → n ≤ m → cnt m xs ≤ cnt n xs
cnt_from n m [] h = omega arith
cnt_from n m (x ∷ xs) h = go (leb m x) (leb n x) refl refl (cnt_from n m xs h)
  where
    go : (s t : Bool) → leb m x ≡ s → leb n x ≡ t → cnt m xs ≤ cnt n xs → cond s (suc (cnt m xs)) (cnt m xs) ≤ cond t (suc (cnt n xs)) (cnt n xs)
    go true true e k i = omega arith
    go true false e k i = let p = leb→le m x (subst T (sym e) tt) in let q = nleb→lt n x (subst (λ t. T (not t)) (sym k) tt) in absurd (omega arith)
    go false true e k i = omega arith
    go false false e k i = i

-- a rising list within another is no longer than it
rising_fits : (q xs : List ℕ) (n : ℕ) → RiseN q → Every (λ x. n ≤ x) q → Every (λ x. In x xs) q → length q ≤ cnt n xs
rising_fits [] xs n r h m = omega arith
rising_fits (x ∷ q) xs n r h m =
    let a = rising_fits q xs (suc x) r.1 r.0 m.1 in
    let b = cnt_less x xs m.0 in
    let c = cnt_from n x xs h.0 in
    omega arith

cnt_all : (n : ℕ) (xs : List ℕ) → cnt n xs ≤ length xs
cnt_all n [] = omega arith
cnt_all n (x ∷ xs) = go (leb n x) (cnt_all n xs)
  where
    go : (t : Bool) → cnt n xs ≤ length xs → cond t (suc (cnt n xs)) (cnt n xs) ≤ suc (length xs)
    go true h = omega arith
    go false h = omega arith

pub ranks_length : (os : List ObjId) → length (ranks os) ≡ length os
ranks_length [] = refl
ranks_length (o ∷ os) = ap suc (ranks_length os)

abbrev names_of : Doc → List ℕ
names_of [] = []
names_of (o ∷ os) = name o ∷ names_of os

names_length : (d : Doc) → length (names_of d) ≡ length d
names_length [] = refl
names_length (o ∷ os) = ap suc (names_length os)

names_in : (d : Doc) (q : Obj) → In q d → In (name q) (names_of d)
names_in [] q m = absurd m
names_in (o ∷ os) q (inl e) = inl (ap (λ (x : Obj). name x) e)
names_in (o ∷ os) q (inr m) = inr (names_in os q m)

-- events all of later objects are none of n's
none_of : (n : ℕ) (es : List Event) → Every (λ (e : Event). n < on_rank e) es → events_of es n ≡ []
none_of n [] h = refl
none_of n (e ∷ es) h = ap (λ t. cond t (e ∷ events_of es n) (events_of es n)) (eqb_no (on_rank e) n (λ k. let a = h.0 in omega arith)) ∙ none_of n es h.1

-- one turn of the loop
run_pop : (d : Doc) (f x : ℕ) (q : List ℕ) (es : List Event) → Every (λ (e : Event). x < on_rank e) es → turns (suc f) d (x ∷ q) es ≡ wrote (find d x) ++ turns f d (queue_all (naming (find d x)) q) es
run_pop d f x q [] h = refl
run_pop d f x q (e ∷ es) h =
    ap (λ t. cond t (wrote (find d x) ++ turns f d (queue_all (naming (find d x)) q) (e ∷ es)) (cond (eqb x (on_rank e)) (turns f d (x ∷ q) es) (e ∷ turns f d (x ∷ q) es))) (ltb_yes x (on_rank e) h.0)

run_skip : (d : Doc) (f x : ℕ) (q : List ℕ) (e : Event) (es : List Event) → x ≡ on_rank e → turns (suc f) d (x ∷ q) (e ∷ es) ≡ turns f d (x ∷ q) es
run_skip d f x q e es k =
    ap (λ t. cond t (wrote (find d x) ++ turns f d (queue_all (naming (find d x)) q) (e ∷ es)) (cond (eqb x (on_rank e)) (turns f d (x ∷ q) es) (e ∷ turns f d (x ∷ q) es))) (ltb_no x (on_rank e) (omega arith))
    ∙ ap (λ t. cond t (turns f d (x ∷ q) es) (e ∷ turns f d (x ∷ q) es)) (ap (eqb x) (sym k) ∙ eqb_same x)

run_emit : (d : Doc) (f : ℕ) (q : List ℕ) (e : Event) (es : List Event) → Every (λ x. on_rank e < x) q → turns (suc f) d q (e ∷ es) ≡ e ∷ turns f d q es
run_emit d f [] e es h = refl
run_emit d f (x ∷ q) e es h =
    let k = h.0 in
    ap (λ t. cond t (wrote (find d x) ++ turns f d (queue_all (naming (find d x)) q) (e ∷ es)) (cond (eqb x (on_rank e)) (turns f d (x ∷ q) es) (e ∷ turns f d (x ∷ q) es))) (ltb_no x (on_rank e) (omega arith))
    ∙ ap (λ t. cond t (turns f d (x ∷ q) es) (e ∷ turns f d (x ∷ q) es)) (eqb_no x (on_rank e) (λ j. omega arith))

-- the lowest of a rising queue that is not below n
lowest : (n : ℕ) (q : List ℕ) → RiseN q → Every (λ x. n ≤ x) q → ((q' : List ℕ) × (q ≡ n ∷ q')) ⊎ Every (λ x. n < x) q
lowest n [] r h = inr tt
lowest n (x ∷ q) r h = go (eqb x n) refl
  where
    go : (t : Bool) → eqb x n ≡ t → ((q' : List ℕ) × (◌≡◌ {A = List ℕ} (x ∷ q) (n ∷ q'))) ⊎ Every (λ x. n < x) (x ∷ q)
    go true e = inl (q, ap (λ t. t ∷ q) (eqb_yes x n e))
    go false e = let a = h.0 in let b = eqb_not x n e in let c : n < x = omega arith in inr (c, every_map (λ y. x < y) (λ y. n < y) q (λ y _ m. omega arith) r.0)

module _ (l : Log) (db : Doc) (LB : Lawful db) (above : Every (λ x. 0 < x) (ranks l.exposed)) where
  abbrev pub N : ℕ → Bool
  N = nw db LB (ranks l.exposed) above

  abbrev Cand : ℕ → ℕ → Type 0
  Cand n x = In x (ranks l.exposed) ⊎ ((o : Obj) × In o db × (name o < n) × (N (name o) ≡ true) × In x (kin o))

  cand_more : (n m x : ℕ) → n ≤ m → Cand n x → Cand m x
  cand_more n m x h (inl a) = inl a
  cand_more n m x h (inr (o, i, k, t, j)) = inr (o, i, omega arith, t, j)

  kin_after : (o : Obj) (x : ℕ) → In o db → In x (kin o) → name o < x
  kin_after o x i k = let (r, m, e) = in_ids_ref x (refs (items o)) k in let a = every_at (λ (r : Ref). name o < ref_rank r) (refs (items o)) r (every_at _ db o (later_of db LB) i) m in omega arith

  cand_now : (n x : ℕ) → Cand n x → N x ≡ true
  cand_now n x (inl a) = memb_in x (news (ranks l.exposed) db) (news_keeps db (ranks l.exposed) x a)
  cand_now n x (inr (o, i, k, t, j)) = memb_in x (news (ranks l.exposed) db) (news_takes db (ranks l.exposed) LB.rising (later_of db LB) o x i (in_memb (name o) (news (ranks l.exposed) db) t) j)

  now_cand : (n : ℕ) → N n ≡ true → Cand n n
  now_cand n h =
      elim (news_from db (ranks l.exposed) n (in_memb n (news (ranks l.exposed) db) h)) [
        | inl a ↦ inl a
        | inr (o, i, t, j) ↦ inr (o, i, kin_after o n i j, memb_in (name o) (news (ranks l.exposed) db) t, j)
      ]

  pool : List ℕ
  pool = ranks l.exposed ++ names_of db

  kin_named : (o : Obj) (x : ℕ) → In o db → In x (kin o) → (c : Obj) × (find db x ≡ some c)
  kin_named o x i k =
      let (r, m, e) = in_ids_ref x (refs (items o)) k in
      let (_, c, f, _, _) = every_at _ (refs (items o)) r (child db LB (name o) o (in_find db o LB.rising i)) m in
      (c, ap (find db) e ∙ f)

  pooled : (n x : ℕ) → Cand n x → In x pool
  unfolding pool
  pooled n x (inl a) = append_inl x (ranks l.exposed) (names_of db) a
  pooled n x (inr (o, i, k, t, j)) =
      let (c, f) = kin_named o x i j in
      append_inr x (ranks l.exposed) (names_of db) (subst (λ y. In y (names_of db)) (find_name db x c f) (names_in db c (find_in db x c f)))

  -- the turns of all identities from n on, k of them
  abbrev pub from : ℕ → ℕ → List Event
  from n zero = []
  from n (suc k) = turn_of l db n ++ from (suc n) k

  record Inv (b n : ℕ) (q : List ℕ) (es : List Event) : Type 0 where
    low : Every (λ x. n ≤ x) q
    rise : RiseN q
    to_q : (x : ℕ) → n ≤ x → Cand n x → In x q
    of_q : (x : ℕ) → In x q → Cand n x
    elow : Every (λ (e : Event). n ≤ on_rank e) es
    erise : RiseE es
    evs : (m : ℕ) → n < m → events_of es m ≡ events_of l.events m
    high : Every (λ x. x < b) q
    ehigh : Every (λ (e : Event). on_rank e < b) es

  idle : (b n : ℕ) (q : List ℕ) (es : List Event) → Inv b n q es → Every (λ x. n < x) q → N n ≡ false
  idle b n q es I h = memb_out n (news (ranks l.exposed) db) (λ m. let k = every_at (λ x. n < x) q n h (I.to_q n (omega arith) (now_cand n (memb_in n (news (ranks l.exposed) db) m))) in omega arith)

  cand_split : (n x : ℕ) → Cand (suc n) x → Cand n x ⊎ ((o : Obj) × (find db n ≡ some o) × (N n ≡ true) × In x (kin o))
  cand_split n x (inl a) = inl (inl a)
  cand_split n x (inr (o, i, k, t, j)) = go (eqb (name o) n) refl
    where
      go : (s : Bool) → eqb (name o) n ≡ s → Cand n x ⊎ ((o : Obj) × (find db n ≡ some o) × (N n ≡ true) × In x (kin o))
      go true e = let h = eqb_yes (name o) n e in inr (o, ap (find db) (sym h) ∙ in_find db o LB.rising i, ap N (sym h) ∙ t, j)
      go false e = let h = eqb_not (name o) n e in inl (inr (o, i, omega arith, t, j))

  -- the next identity, when n is not in the queue
  next_idle : (b n : ℕ) (q : List ℕ) (es : List Event) → Inv b n q es → Every (λ x. n < x) q → Every (λ (e : Event). n < on_rank e) es → Inv b (suc n) q es
  next_idle b n q es I h k = record {
    low = h;
    rise = I.rise;
    to_q = (λ x le c. elim (cand_split n x c) [ inl a ↦ I.to_q x (omega arith) a | inr (o, f, t, j) ↦ absurd (let y = idle b n q es I h in let z : ◌≡◌ {A = ℕ} 0 1 = cc in omega arith) ]);
    of_q = (λ x m. cand_more n (suc n) x (omega arith) (I.of_q x m));
    elow = k;
    erise = I.erise;
    evs = (λ m le. I.evs m (omega arith));
    high = I.high;
    ehigh = I.ehigh;
  }

  naming_of : (x : ℕ) (t : Option Obj) → In x (naming t) → (o : Obj) × (t ≡ some o) × In x (kin o)
  naming_of x none m = absurd m
  naming_of x (some o) m = (o, refl, m)

  of_naming : (x : ℕ) (t : Option Obj) (o : Obj) → t ≡ some o → In x (kin o) → In x (naming t)
  of_naming x t o e m = subst (λ s. In x (naming s)) (sym e) m

  -- the next identity, when n is written out
  next_pop : (b n : ℕ) (q : List ℕ) (es : List Event) → top db ≤ b → Inv b n (n ∷ q) es → Every (λ (e : Event). n < on_rank e) es → Inv b (suc n) (queue_all (naming (find db n)) q) es
  next_pop b n q es tb I k = record {
    low = joins_every (λ x. suc n ≤ x) (naming (find db n)) q (every_in (λ x. suc n ≤ x) (naming (find db n)) (λ x m. let (o, f, j) = naming_of x (find db n) m in let a = kin_after o x (find_in db n o f) j in let e = find_name db n o f in omega arith)) I.rise.0;
    rise = joins_rise (naming (find db n)) q I.rise.1;
    to_q = (λ x le c. in_joins x (naming (find db n)) q
        (elim (cand_split n x c) [
          | inl a ↦ elim (I.to_q x (omega arith) a) [ inl e ↦ absurd (omega arith) | inr m ↦ inr m ]
          | inr (o, f, t, j) ↦ inl (of_naming x (find db n) o f j)
        ]));
    of_q = (λ x m. elim (joins_in x (naming (find db n)) q m) [
      | inl a ↦ (let (o, f, j) = naming_of x (find db n) a in let e = find_name db n o f in inr (o, find_in db n o f, omega arith, ap N e ∙ cand_now n n (I.of_q n (inl refl)), j))
      | inr a ↦ cand_more n (suc n) x (omega arith) (I.of_q x (inr a))
    ]);
    elow = k;
    erise = I.erise;
    evs = (λ m le. I.evs m (omega arith));
    high = joins_every (λ x. x < b) (naming (find db n)) q (every_in (λ x. x < b) (naming (find db n)) (λ x m. let (o, f, j) = naming_of x (find db n) m in let (c, g) = kin_named o x (find_in db n o f) j in let a = below_top db x c g in omega arith)) I.high.1;
    ehigh = I.ehigh;
  }

  -- the next event
  next_event : (b n : ℕ) (q : List ℕ) (e : Event) (es : List Event) → on_rank e ≡ n → Inv b n q (e ∷ es) → Inv b n q es
  next_event b n q e es h I = record {
    low = I.low;
    rise = I.rise;
    to_q = I.to_q;
    of_q = I.of_q;
    elow = I.elow.1;
    erise = I.erise.1;
    evs = (λ m le. sym (ap (λ t. cond t (e ∷ events_of es m) (events_of es m)) (eqb_no (on_rank e) m (λ k. omega arith))) ∙ I.evs m le);
    high = I.high;
    ehigh = I.ehigh.1;
  }

  module _ (b n k : ℕ) (tb : top db ≤ b)
      (later : (q : List ℕ) (es : List Event) (f : ℕ) → Inv b (suc n) q es → events_of es (suc n) ≡ events_of l.events (suc n) → suc (length es) + cnt (suc n) pool ≤ f → turns f db q es ≡ from (suc n) k) where
    abbrev shown : List Event → Bool → List Event
    shown es t = (cond t (wrote (find db n)) (events_of es n)) ++ from (suc n) k

    popped : (es : List Event) (f : ℕ) (q : List ℕ) → Inv b n (n ∷ q) es → Every (λ (e : Event). n < on_rank e) es → suc (length es) + cnt n pool ≤ f → turns f db (n ∷ q) es ≡ shown es (N n)
    popped es zero q I h fuel = absurd (omega arith)
    popped es (suc f) q I h fuel =
        let c = I.of_q n (inl refl) in
        let less = cnt_less n pool (pooled n n c) in
        run_pop db f n q es h
        ∙ ap (λ t. wrote (find db n) ++ t) (later (queue_all (naming (find db n)) q) es f (next_pop b n q es tb I h) (I.evs (suc n) (omega arith)) (omega arith))
        ∙ ap (shown es) (sym (cand_now n n c))

    clear : (es : List Event) (f : ℕ) (q : List ℕ) → Inv b n q es → Every (λ (e : Event). n < on_rank e) es → suc (length es) + cnt n pool ≤ f → turns f db q es ≡ shown es (N n)
    clear es f q I h fuel = go (lowest n q I.rise I.low)
      where
        go : ((q' : List ℕ) × (q ≡ n ∷ q')) ⊎ Every (λ x. n < x) q → turns f db q es ≡ shown es (N n)
        go (inl (q', e)) = ap (λ x. turns f db x es) e ∙ popped es f q' (subst (λ x. Inv b n x es) e I) h fuel
        go (inr a) =
            let less = cnt_mono n pool in
            later q es f (next_idle b n q es I a h) (I.evs (suc n) (omega arith)) (omega arith)
            ∙ ap (λ x. x ++ from (suc n) k) (sym (none_of n es h))
            ∙ ap (shown es) (sym (idle b n q es I a))

    inner : (es : List Event) (f : ℕ) (q : List ℕ) → Inv b n q es → suc (length es) + cnt n pool ≤ f → turns f db q es ≡ shown es (N n)
    inner [] f q I fuel = clear [] f q I tt fuel
    inner (e ∷ es) zero q I fuel = absurd (omega arith)
    inner (e ∷ es) (suc f) q I fuel = go (inner es f) (eqb (on_rank e) n) refl (lowest n q I.rise I.low)
      where
        go : ((q : List ℕ) → Inv b n q es → suc (length es) + cnt n pool ≤ f → turns f db q es ≡ shown es (N n)) → (t : Bool) → eqb (on_rank e) n ≡ t → ((q' : List ℕ) × (q ≡ n ∷ q')) ⊎ Every (λ x. n < x) q
            → turns (suc f) db q (e ∷ es) ≡ shown (e ∷ es) (N n)
        go ih false h w =
            let a = eqb_not (on_rank e) n h in let c = I.elow.0 in let g : n < on_rank e = omega arith in
            clear (e ∷ es) (suc f) q I (g, every_map (λ (x : Event). on_rank e ≤ on_rank x) (λ (x : Event). n < on_rank x) es (λ x _ m. omega arith) I.erise.0) fuel
        go ih true h (inl (q', w)) =
            let on = eqb_yes (on_rank e) n h in
            let t = cand_now n n (I.of_q n (subst (λ x. In n x) (sym w) (inl refl))) in
            ap (λ x. turns (suc f) db x (e ∷ es)) w
            ∙ run_skip db f n q' e es (sym on)
            ∙ ap (λ x. turns f db x es) (sym w)
            ∙ ih q (next_event b n q e es on I) (omega arith)
            ∙ ap (shown es) t
            ∙ ap (shown (e ∷ es)) (sym t)
        go ih true h (inr w) =
            let on = eqb_yes (on_rank e) n h in
            let t = idle b n q (e ∷ es) I w in
            run_emit db f q e es (every_map (λ x. n < x) (λ x. on_rank e < x) q (λ x _ m. omega arith) w)
            ∙ ap (λ x. e ∷ x) (ih q (next_event b n q e es on I) (omega arith) ∙ ap (shown es) t)
            ∙ ap (λ s. (cond s (e ∷ events_of es n) (events_of es n)) ++ from (suc n) k) (sym h)
            ∙ ap (shown (e ∷ es)) (sym t)

  loop : (b : ℕ) → top db ≤ b → (k n : ℕ) → n + k ≡ b → (q : List ℕ) (es : List Event) (f : ℕ) → Inv b n q es → events_of es n ≡ events_of l.events n → suc (length es) + cnt n pool ≤ f → turns f db q es ≡ from n k
  loop b tb zero n e q es zero I h fuel = absurd (omega arith)
  loop b tb zero n e [] [] (suc f) I h fuel = refl
  loop b tb zero n e [] (x ∷ es) (suc f) I h fuel = let a = I.elow.0 in let c = I.ehigh.0 in absurd (omega arith)
  loop b tb zero n e (x ∷ q) es (suc f) I h fuel = let a = I.low.0 in let c = I.high.0 in absurd (omega arith)
  loop b tb (suc k) n e q es f I h fuel =
      inner b n k tb (loop b tb k (suc n) (omega arith)) es f q I fuel
      ∙ ap (λ x. (cond (N n) (wrote (find db n)) x) ++ from (suc n) k) h

  -- the loop is the turns, in rising identity
  abbrev tall : List ℕ → ℕ
  tall [] = 0
  tall (x ∷ xs) = suc x + tall xs

  tall_every : (xs : List ℕ) → Every (λ x. x < tall xs) xs
  tall_every [] = tt
  tall_every (x ∷ xs) = (omega arith, every_map (λ y. y < tall xs) (λ y. y < suc x + tall xs) xs (λ y _ h. omega arith) (tall_every xs))

  on_every : (P : ℕ → Type 0) (es : List Event) → Every P (on_ranks es) → Every (λ (e : Event). P (on_rank e)) es
  on_every P [] h = tt
  on_every P (e ∷ es) h = (h.0, on_every P es h.1)

  abbrev pub end : ℕ
  end = top db + (tall (ranks l.exposed) + tall (on_ranks l.events))

  first : Inv end 0 (queue_all (ranks l.exposed) []) (arranged l.events)
  first = record {
    low = every_in (λ x. 0 ≤ x) (queue_all (ranks l.exposed) []) (λ x _. omega arith);
    rise = joins_rise (ranks l.exposed) [] tt;
    to_q = (λ x _ c. elim c [ inl m ↦ in_joins x (ranks l.exposed) [] (inl m) | inr (o, i, k, t, j) ↦ absurd (omega arith) ]);
    of_q = (λ x m. elim (joins_in x (ranks l.exposed) [] m) [ inl a ↦ inl a | inr a ↦ absurd a ]);
    elow = every_in (λ (e : Event). 0 ≤ on_rank e) (arranged l.events) (λ e _. omega arith);
    erise = arranged_rise l.events;
    evs = (λ m _. arranged_of m l.events);
    high = joins_every (λ x. x < end) (ranks l.exposed) [] (every_map (λ x. x < tall (ranks l.exposed)) (λ x. x < end) (ranks l.exposed) (λ x _ h. omega arith) (tall_every (ranks l.exposed))) tt;
    ehigh = arranged_every (λ (e : Event). on_rank e < end) l.events
        (every_map (λ (e : Event). on_rank e < tall (on_ranks l.events)) (λ (e : Event). on_rank e < end) l.events (λ e _ h. omega arith) (on_every (λ x. x < tall (on_ranks l.events)) l.events (tall_every (on_ranks l.events))));
  }

  pool_length : length pool ≡ length (ranks l.exposed) + length db
  unfolding pool
  pool_length = length-append (ranks l.exposed) (names_of db) ∙ ap (λ n. length (ranks l.exposed) + n) (names_length db)

  pub made : making l db ≡ from 0 end
  made =
      let a = arranged_length l.events in
      let c = cnt_all 0 pool in
      let d = pool_length in
      let r = ranks_length l.exposed in
      loop end (omega arith) end 0 (omega arith) (queue_all (ranks l.exposed) []) (arranged l.events) (suc (length l.events + (length l.exposed + length db))) first (arranged_of 0 l.events) (omega arith)

  -- only identities of the list have a turn that is not empty
  on_ranks_lem : (es : List Event) (i : ℕ) → (In i (on_ranks es) → ⊥) → events_of es i ≡ []
  on_ranks_lem [] i n = refl
  on_ranks_lem (e ∷ es) i n = ap (λ t. cond t (e ∷ events_of es i) (events_of es i)) (eqb_no (on_rank e) i (λ k. n (inl (sym k)))) ∙ on_ranks_lem es i (λ m. n (inr m))

  idle_turn : (i : ℕ) → (In i (identities l db) → ⊥) → turn_of l db i ≡ []
  idle_turn i n =
      ap (λ t. cond t (wrote (find db i)) (events_of l.events i)) (memb_out i (news (ranks l.exposed) db) (λ m. n (in_joins i (on_ranks l.events) (queue_all (news (ranks l.exposed) db) []) (inr (in_joins i (news (ranks l.exposed) db) [] (inl m))))))
      ∙ on_ranks_lem l.events i (λ m. n (in_joins i (on_ranks l.events) (queue_all (news (ranks l.exposed) db) []) (inl m)))

  from_list : (k n : ℕ) (is : List ℕ) → RiseN is → Every (λ x. n ≤ x) is → Every (λ x. x < n + k) is → ((i : ℕ) → n ≤ i → (In i is → ⊥) → turn_of l db i ≡ []) → from n k ≡ turns_of l db is
  from_list zero n [] r lo hi idles = refl
  from_list zero n (x ∷ is) r lo hi idles = let a = lo.0 in let b = hi.0 in absurd (omega arith)
  from_list (suc k) n is r lo hi idles = go (lowest n is r lo) (from_list k (suc n))
    where
      go : ((is' : List ℕ) × (is ≡ n ∷ is')) ⊎ Every (λ x. n < x) is
          → ((is : List ℕ) → RiseN is → Every (λ x. suc n ≤ x) is → Every (λ x. x < suc n + k) is → ((i : ℕ) → suc n ≤ i → (In i is → ⊥) → turn_of l db i ≡ []) → from (suc n) k ≡ turns_of l db is)
          → turn_of l db n ++ from (suc n) k ≡ turns_of l db is
      go (inl (is', e)) ih =
          let r' : RiseN (n ∷ is') = subst RiseN e r in
          let hi' : Every (λ x. x < n + suc k) (n ∷ is') = subst (Every (λ x. x < n + suc k)) e hi in
          ap (λ t. turn_of l db n ++ t) (ih is' r'.1 r'.0 (every_map (λ x. x < n + suc k) (λ x. x < suc n + k) is' (λ x _ h. omega arith) hi'.1)
          (λ i h out. idles i (omega arith) (λ m. elim (subst (In i) e m) [ inl q ↦ omega arith | inr q ↦ out q ])))
          ∙ ap (turns_of l db) (sym e)
      go (inr a) ih =
          ap (λ t. t ++ from (suc n) k) (idles n (omega arith) (λ m. let h = every_at (λ x. n < x) is n a m in omega arith))
          ∙ ih is r a (every_map (λ x. x < n + suc k) (λ x. x < suc n + k) is (λ x _ h. omega arith) hi) (λ i h out. idles i (omega arith) out)

  news_low : Every (λ x. x < end) (news (ranks l.exposed) db)
  news_low = every_in (λ x. x < end) (news (ranks l.exposed) db) (λ x m. low x (news_from db (ranks l.exposed) x m))
    where
      low : (x : ℕ) → In x (ranks l.exposed) ⊎ Named db (news (ranks l.exposed) db) x → x < end
      low x (inl m) = let h = every_at (λ x. x < tall (ranks l.exposed)) (ranks l.exposed) x (tall_every (ranks l.exposed)) m in omega arith
      low x (inr (o, i, _, k)) = let (c, g) = kin_named o x i k in let h = below_top db x c g in omega arith

  pub made_in_turns : making l db ≡ turns_of l db (identities l db)
  made_in_turns =
      made
      ∙ from_list end 0 (identities l db)
      (joins_rise (on_ranks l.events) (queue_all (news (ranks l.exposed) db) []) (joins_rise (news (ranks l.exposed) db) [] tt))
      (every_in (λ x. 0 ≤ x) (identities l db) (λ x _. omega arith))
      (joins_every (λ x. x < 0 + end) (on_ranks l.events) (queue_all (news (ranks l.exposed) db) [])
      (every_map (λ x. x < tall (on_ranks l.events)) (λ x. x < 0 + end) (on_ranks l.events) (λ x _ h. omega arith) (tall_every (on_ranks l.events)))
      (joins_every (λ x. x < 0 + end) (news (ranks l.exposed) db) [] (every_map (λ x. x < end) (λ x. x < 0 + end) (news (ranks l.exposed) db) (λ x _ h. omega arith) news_low) tt))
      (λ i _ out. idle_turn i out)

-- the queues of making hold only the exposed and the objects, each once
module _ (exposed : List ObjId) (db : Doc) (LB : Lawful db) where
  abbrev all : List ℕ
  all = ranks exposed ++ names_of db

  abbrev Sound : List ℕ → Type 0
  Sound q = RiseN q × Every (λ x. In x all) q

  naming_all : (x : ℕ) (t : Option Obj) → find db x ≡ t → Every (λ y. In y all) (naming t)
  naming_all x none e = tt
  naming_all x (some o) e =
      every_in (λ y. In y all) (ids (refs (items o))) (λ y m.
      let (r, i, h) = in_ids_ref y (refs (items o)) m in
      let (_, c, f, _, _) = every_at _ (refs (items o)) r (child db LB x o e) i in
      let g : find db y ≡ some c = ap (find db) h ∙ f in
      append_inr y (ranks exposed) (names_of db) (subst (λ z. In z (names_of db)) (find_name db y c g) (names_in db c (find_in db y c g))))

  popped_sound : (x : ℕ) (q : List ℕ) → Sound (x ∷ q) → Sound (queue_all (naming (find db x)) q)
  popped_sound x q s = (joins_rise (naming (find db x)) q s.0.1, joins_every (λ y. In y all) (naming (find db x)) q (naming_all x (find db x) refl) s.1.1)

  queues_sound : (n : ℕ) (q : List ℕ) (es : List Event) → Sound q → Every Sound (queues n db q es)
  queues_sound zero q es s = tt
  queues_sound (suc n) [] [] s = (s, tt)
  queues_sound (suc n) (x ∷ q) [] s = (s, queues_sound n (queue_all (naming (find db x)) q) [] (popped_sound x q s))
  queues_sound (suc n) [] (e ∷ es) s = (s, queues_sound n [] es s)
  queues_sound (suc n) (x ∷ q) (e ∷ es) s =
      (s, go (ltb x (on_rank e)) (eqb x (on_rank e)) (queues_sound n (queue_all (naming (find db x)) q) (e ∷ es) (popped_sound x q s)) (queues_sound n (x ∷ q) es s))
    where
      go : (a b : Bool) → Every Sound (queues n db (queue_all (naming (find db x)) q) (e ∷ es)) → Every Sound (queues n db (x ∷ q) es)
          → Every Sound (cond a (queues n db (queue_all (naming (find db x)) q) (e ∷ es)) (cond b (queues n db (x ∷ q) es) (queues n db (x ∷ q) es)))
      go true b h k = h
      go false true h k = k
      go false false h k = k

  exposed_all : (xs : List ℕ) → Every (λ x. In x (ranks exposed)) xs → Every (λ x. In x all) xs
  exposed_all xs h = every_map (λ x. In x (ranks exposed)) (λ x. In x all) xs (λ x _ m. append_inl x (ranks exposed) (names_of db) m) h

  pub queues_fit : (n : ℕ) (es : List Event) → Every (λ q. length q ≤ length exposed + length db) (queues n db (queue_all (ranks exposed) []) es)
  queues_fit n es =
      every_map Sound (λ q. length q ≤ length exposed + length db) (queues n db (queue_all (ranks exposed) []) es)
      (λ q _ s.
      let a = rising_fits q all 0 s.0 (every_in (λ x. 0 ≤ x) q (λ x _. omega arith)) s.1 in
      let c = cnt_all 0 all in
      let d = length-append (ranks exposed) (names_of db) in
      let e = names_length db in
      let f = ranks_length exposed in
      omega arith)
      (queues_sound n (queue_all (ranks exposed) []) es
      (joins_rise (ranks exposed) [] tt, joins_every (λ x. In x all) (ranks exposed) [] (exposed_all (ranks exposed) (every_in (λ x. In x (ranks exposed)) (ranks exposed) (λ x m. m))) tt))
