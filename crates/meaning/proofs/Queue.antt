-- The queue and the arranged events.
use Rattle.std.proofs.Common.{◌≡◌, ℕ, suc, ◌<◌, ◌≤◌, Bool, true, false, cond, not, T, eqb, ltb, leb, ◌⊎◌, List, [], ◌∷◌, length, sym, refl, ap, ◌∙◌, subst, inl, inr, arith, leb→le}
use lib.Dec.{nleb→lt}
use Rattle.meaning.specs.Lists.{In, Every}
use Rattle.meaning.specs.Log.{Event}
use Rattle.meaning.specs.Making.{on_rank, events_of, arrange, arranged, queue_in, queue_all}
use Rattle.meaning.proofs.Tests.{eqb_yes, eqb_not, ltb_was, ltb_wasnt}
use Rattle.meaning.proofs.Members.{every_map}

abbrev pub RiseN : List ℕ → Type 0
RiseN [] = Unit {0}
RiseN (x ∷ xs) = Every (λ y. x < y) xs × RiseN xs

pub three : (x y : ℕ) (X : Type 0) (P : X → Type 0) (a b c : X) → (x < y → P a) → (x ≡ y → P b) → (y < x → P c) → P (cond (ltb x y) a (cond (eqb x y) b c))
three x y X P a b c f g h = go (ltb x y) (eqb x y) refl refl
  where
    go : (s t : Bool) → ltb x y ≡ s → eqb x y ≡ t → P (cond s a (cond t b c))
    go true t e k = f (ltb_was x y e)
    go false true e k = g (eqb_yes x y k)
    go false false e k = let m = ltb_wasnt x y e in let n = eqb_not x y k in h (omega arith)

join_every : (P : ℕ → Type 0) (x : ℕ) (q : List ℕ) → P x → Every P q → Every P (queue_in x q)
join_every P x [] p h = (p, tt)
join_every P x (y ∷ ys) p h =
    let ih = join_every P x ys p h.1 in
    three x y (List ℕ) (Every P) (x ∷ y ∷ ys) (y ∷ ys) (y ∷ queue_in x ys) (λ _. (p, h)) (λ _. h) (λ _. (h.0, ih))

join_rise : (x : ℕ) (q : List ℕ) → RiseN q → RiseN (queue_in x q)
join_rise x [] h = (tt, tt)
join_rise x (y ∷ ys) h =
    let ih = join_rise x ys h.1 in
    three x y (List ℕ) RiseN (x ∷ y ∷ ys) (y ∷ ys) (y ∷ queue_in x ys) (λ l. ((l, every_map (λ z. y < z) (λ z. x < z) ys (λ z _ m. omega arith) h.0), h)) (λ _. h)
    (λ l. (join_every (λ z. y < z) x ys l h.0, ih))

join_in : (x z : ℕ) (q : List ℕ) → In z (queue_in x q) → (z ≡ x) ⊎ In z q
join_in x z [] (inl e) = inl e
join_in x z [] (inr m) = absurd m
join_in x z (y ∷ ys) m =
    let ih = join_in x z ys in
    three x y (List ℕ) (λ q. In z q → (z ≡ x) ⊎ In z (y ∷ ys)) (x ∷ y ∷ ys) (y ∷ ys) (y ∷ queue_in x ys) (λ _ m. m) (λ _ m. inr m)
    (λ _ m. elim m [ inl e ↦ inr (inl e) | inr k ↦ elim (ih k) [ inl e ↦ inl e | inr j ↦ inr (inr j) ] ]) m

in_join : (x z : ℕ) (q : List ℕ) → (z ≡ x) ⊎ In z q → In z (queue_in x q)
in_join x z [] m = m
in_join x z (y ∷ ys) m =
    let ih = in_join x z ys in
    three x y (List ℕ) (λ q. (z ≡ x) ⊎ In z (y ∷ ys) → In z q) (x ∷ y ∷ ys) (y ∷ ys) (y ∷ queue_in x ys) (λ _ m. m)
    (λ k m. elim m [ inl e ↦ inl (e ∙ k) | inr j ↦ j ])
    (λ _ m. elim m [ inl e ↦ inr (ih (inl e)) | inr j ↦ elim j [ inl e ↦ inl e | inr i ↦ inr (ih (inr i)) ] ]) m

pub joins_every : (P : ℕ → Type 0) (xs q : List ℕ) → Every P xs → Every P q → Every P (queue_all xs q)
joins_every P [] q h k = k
joins_every P (x ∷ xs) q h k = join_every P x (queue_all xs q) h.0 (joins_every P xs q h.1 k)

pub joins_rise : (xs q : List ℕ) → RiseN q → RiseN (queue_all xs q)
joins_rise [] q h = h
joins_rise (x ∷ xs) q h = join_rise x (queue_all xs q) (joins_rise xs q h)

pub joins_in : (z : ℕ) (xs q : List ℕ) → In z (queue_all xs q) → In z xs ⊎ In z q
joins_in z [] q m = inr m
joins_in z (x ∷ xs) q m = go (joins_in z xs q) (join_in x z (queue_all xs q) m)
  where
    go : (In z (queue_all xs q) → In z xs ⊎ In z q) → (z ≡ x) ⊎ In z (queue_all xs q) → In z (x ∷ xs) ⊎ In z q
    go ih (inl e) = inl (inl e)
    go ih (inr k) = elim (ih k) [ inl j ↦ inl (inr j) | inr j ↦ inr j ]

pub in_joins : (z : ℕ) (xs q : List ℕ) → In z xs ⊎ In z q → In z (queue_all xs q)
in_joins z [] q (inl m) = absurd m
in_joins z [] q (inr m) = m
in_joins z (x ∷ xs) q (inl (inl e)) = in_join x z (queue_all xs q) (inl e)
in_joins z (x ∷ xs) q (inl (inr m)) = in_join x z (queue_all xs q) (inr (in_joins z xs q (inl m)))
in_joins z (x ∷ xs) q (inr m) = in_join x z (queue_all xs q) (inr (in_joins z xs q (inr m)))

-- events in rising objects, those of one object in their order
abbrev pub RiseE : List (Event) → Type 0
RiseE [] = Unit {0}
RiseE (e ∷ es) = Every (λ (x : Event). on_rank e ≤ on_rank x) es × RiseE es

two : (x y : ℕ) (X : Type 0) (P : X → Type 0) (a b : X) → (x ≤ y → P a) → (y < x → P b) → P (cond (leb x y) a b)
two x y X P a b f g = go (leb x y) refl
  where
    go : (t : Bool) → leb x y ≡ t → P (cond t a b)
    go true e = f (leb→le x y (subst T (sym e) tt))
    go false e = g (nleb→lt x y (subst (λ t. T (not t)) (sym e) tt))

arrange_every : (P : Event → Type 0) (e : Event) (es : List (Event)) → P e → Every P es → Every P (arrange e es)
arrange_every P e [] p h = (p, tt)
arrange_every P e (x ∷ xs) p h =
    let ih = arrange_every P e xs p h.1 in two (on_rank e) (on_rank x) (List (Event)) (Every P) (e ∷ x ∷ xs) (x ∷ arrange e xs) (λ _. (p, h)) (λ _. (h.0, ih))

arrange_rise : (e : Event) (es : List (Event)) → RiseE es → RiseE (arrange e es)
arrange_rise e [] h = (tt, tt)
arrange_rise e (x ∷ xs) h =
    let ih = arrange_rise e xs h.1 in
    two (on_rank e) (on_rank x) (List (Event)) RiseE (e ∷ x ∷ xs) (x ∷ arrange e xs)
    (λ l. ((l, every_map (λ (z : Event). on_rank x ≤ on_rank z) (λ (z : Event). on_rank e ≤ on_rank z) xs (λ z _ m. omega arith) h.0), h))
    (λ l. (arrange_every (λ (z : Event). on_rank x ≤ on_rank z) e xs (omega arith) h.0, ih))

pub arranged_rise : (es : List (Event)) → RiseE (arranged es)
arranged_rise [] = tt
arranged_rise (e ∷ es) = arrange_rise e (arranged es) (arranged_rise es)

pub arranged_every : (P : Event → Type 0) (es : List (Event)) → Every P es → Every P (arranged es)
arranged_every P [] h = tt
arranged_every P (e ∷ es) h = arrange_every P e (arranged es) h.0 (arranged_every P es h.1)

arrange_of : (m : ℕ) (e : Event) (es : List (Event)) → events_of (arrange e es) m ≡ events_of (e ∷ es) m
arrange_of m e [] = refl
arrange_of m e (x ∷ xs) =
    let ih = arrange_of m e xs in
    two (on_rank e) (on_rank x) (List (Event)) (λ q. events_of q m ≡ events_of (e ∷ x ∷ xs) m) (e ∷ x ∷ xs) (x ∷ arrange e xs) (λ _. refl) (λ l. ap (λ t. cond (eqb (on_rank x) m) (x ∷ t) t) ih ∙ swap (eqb (on_rank x) m) (eqb (on_rank e) m) refl refl l)
  where
    swap : (s t : Bool) → eqb (on_rank x) m ≡ s → eqb (on_rank e) m ≡ t → on_rank x < on_rank e
        → cond s (x ∷ cond t (e ∷ events_of xs m) (events_of xs m)) (cond t (e ∷ events_of xs m) (events_of xs m))
        ≡ cond t (e ∷ cond s (x ∷ events_of xs m) (events_of xs m)) (cond s (x ∷ events_of xs m) (events_of xs m))
    swap true true h k l = let a = eqb_yes (on_rank x) m h in let b = eqb_yes (on_rank e) m k in absurd (omega arith)
    swap true false h k l = refl
    swap false true h k l = refl
    swap false false h k l = refl

pub arranged_of : (m : ℕ) (es : List (Event)) → events_of (arranged es) m ≡ events_of es m
arranged_of m [] = refl
arranged_of m (e ∷ es) = arrange_of m e (arranged es) ∙ ap (λ t. cond (eqb (on_rank e) m) (e ∷ t) t) (arranged_of m es)

arrange_length : (e : Event) (es : List (Event)) → length (arrange e es) ≡ suc (length es)
arrange_length e [] = refl
arrange_length e (x ∷ xs) = let ih = arrange_length e xs in two (on_rank e) (on_rank x) (List (Event)) (λ q. length q ≡ suc (suc (length xs))) (e ∷ x ∷ xs) (x ∷ arrange e xs) (λ _. refl) (λ _. ap suc ih)

pub arranged_length : (es : List (Event)) → length (arranged es) ≡ length es
arranged_length [] = refl
arranged_length (e ∷ es) = arrange_length e (arranged es) ∙ ap suc (arranged_length es)
