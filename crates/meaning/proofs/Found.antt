-- Objects found by identity; ancestors.
use Rattle.std.proofs.Common.{◌≡◌, ℕ, zero, suc, ◌<◌, ◌≤◌, max, Bool, true, false, cond, eqb, ◌⊎◌, [], ◌∷◌, sym, refl, ap, ◌∙◌, subst, inl, inr, arith}
use mathlib.Core.Option.{Option, some}
use Rattle.meaning.specs.Lists.{In, Every}
use Rattle.meaning.specs.Documents.{Obj, name, Doc, find, Rising}
use Rattle.meaning.proofs.Tests.{eqb_yes, eqb_same, eqb_no}
use Rattle.meaning.proofs.Members.{every_at}

pub find_split : (o : Obj) (os : Doc) (i : ℕ) (q : Obj) → find (o ∷ os) i ≡ some q → ((eqb i (name o) ≡ true) × (o ≡ q)) ⊎ ((eqb i (name o) ≡ false) × (find os i ≡ some q))
find_split o os i q e = go (eqb i (name o)) refl
  where
    go : (t : Bool) → eqb i (name o) ≡ t → ((eqb i (name o) ≡ true) × (o ≡ q)) ⊎ ((eqb i (name o) ≡ false) × (find os i ≡ some q))
    go true h = inl (h, (let k : ◌≡◌ {A = Option (Obj)} (some o) (some q) = subst (λ t. cond t (some o) (find os i) ≡ some q) h e in let m : o ≡ q = cc in m))
    go false h = inr (h, subst (λ t. cond t (some o) (find os i) ≡ some q) h e)

pub find_skip : (o : Obj) (os : Doc) (i : ℕ) → (i ≡ name o → ⊥) → find (o ∷ os) i ≡ find os i
find_skip o os i n = ap (λ t. cond t (some o) (find os i)) (eqb_no i (name o) n)

-- what is found is named so, and has what every object has
pub find_name : (d : Doc) (i : ℕ) (q : Obj) → find d i ≡ some q → name q ≡ i
find_name [] i q e = let z : ◌≡◌ {A = ℕ} 0 1 = cc in omega arith
find_name (o ∷ os) i q e =
    elim (find_split o os i q e) [ inl h ↦ sym (eqb_yes i (name o) h.0 ∙ ap (λ (x : Obj). name x) h.1) | inr h ↦ find_name os i q h.1 ]

pub find_every : (P : Obj → Type 0) (d : Doc) (i : ℕ) (q : Obj) → Every P d → find d i ≡ some q → P q
find_every P [] i q all e = absurd (let z : ◌≡◌ {A = ℕ} 0 1 = cc in omega arith)
find_every P (o ∷ os) i q all e =
    elim (find_split o os i q e) [ inl h ↦ subst P h.1 all.0 | inr h ↦ find_every P os i q all.1 h.1 ]

abbrev pub top : Doc → ℕ
top [] = 0
top (o ∷ os) = max (suc (name o)) (top os)

pub below_top : (d : Doc) (i : ℕ) (q : Obj) → find d i ≡ some q → i < top d
below_top [] i q e = let z : ◌≡◌ {A = ℕ} 0 1 = cc in absurd (omega arith)
below_top (o ∷ os) i q e = go (below_top os i q) (find_split o os i q e)
  where
    go : (find os i ≡ some q → i < top os) → ((eqb i (name o) ≡ true) × (o ≡ q)) ⊎ ((eqb i (name o) ≡ false) × (find os i ≡ some q)) → i < top (o ∷ os)
    go ih (inl h) = let k = eqb_yes i (name o) h.0 in omega arith
    go ih (inr h) = let k = ih h.1 in omega arith

-- the ancestors of an object by a function of parents
module _ (par : ℕ → ℕ) (par≤ : (x : ℕ) → par x ≤ x) where
  abbrev pub up_from : ℕ → ℕ → ℕ
  up_from zero x = x
  up_from (suc n) x = up_from n (par x)

  up≤ : (n x : ℕ) → up_from n x ≤ x
  up≤ zero x = omega arith
  up≤ (suc n) x = let a = up≤ n (par x) in let b = par≤ x in omega arith

  pub up_more : (n x : ℕ) → up_from (suc n) x ≡ par (up_from n x)
  up_more zero x = refl
  up_more (suc n) x = up_more n (par x)

  -- of one row's entries at most one is an ancestor of o
  pub one_child : (n m o q y z : ℕ) → up_from n o ≡ y → up_from m o ≡ z → par y ≡ q → par z ≡ q → q < y → q < z → y ≡ z
  one_child zero zero o q y z e f py pz ly lz = sym e ∙ f
  one_child zero (suc m) o q y z e f py pz ly lz =
      let k : up_from m q ≡ z = subst (λ t. up_from m t ≡ z) (ap par e ∙ py) f in let a = up≤ m q in absurd (omega arith)
  one_child (suc n) zero o q y z e f py pz ly lz =
      let k : up_from n q ≡ y = subst (λ t. up_from n t ≡ y) (ap par f ∙ pz) e in let a = up≤ n q in absurd (omega arith)
  one_child (suc n) (suc m) o q y z e f py pz ly lz = one_child n m (par o) q y z e f py pz ly lz

pub find_in : (d : Doc) (i : ℕ) (q : Obj) → find d i ≡ some q → In q d
find_in [] i q e = let z : ◌≡◌ {A = ℕ} 0 1 = cc in absurd (omega arith)
find_in (o ∷ os) i q e = elim (find_split o os i q e) [ inl h ↦ inl (sym h.1) | inr h ↦ inr (find_in os i q h.1) ]

pub in_find : (d : Doc) (q : Obj) → Rising d → In q d → find d (name q) ≡ some q
in_find [] q up m = absurd m
in_find (o ∷ os) q up (inl e) = ap (λ t. cond t (some o) (find os (name q))) (ap (λ (x : Obj). eqb (name q) (name x)) (sym e) ∙ eqb_same (name q)) ∙ ap some (sym e)
in_find (o ∷ os) q up (inr m) =
    find_skip o os (name q) (λ e. let a = every_at (λ (x : Obj). name o < name x) os q up.0 m in omega arith) ∙ in_find os q up.1 m
