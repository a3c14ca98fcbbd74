-- The objects below an identity.
use Rattle.std.proofs.Common.{◌≡◌, ℕ, suc, ◌<◌, ◌≤◌, Bool, true, false, cond, eqb, ltb, ◌⊎◌, List, [], ◌∷◌, ◌++◌, sym, refl, ap, ◌∙◌, subst, inl, inr, arith}
use mathlib.Core.Option.{Option, none, some}
use Rattle.meaning.specs.Lists.{Every}
use Rattle.meaning.specs.Entries.{Ref, ref_rank}
use Rattle.meaning.specs.Rows.{map_row}
use Rattle.meaning.specs.Values.{Value, built}
use Rattle.meaning.specs.Documents.{Obj, name, Doc, find, row_in, Rising, values}
use Rattle.meaning.proofs.Tests.{eqb_yes, eqb_not, ltb_yes, ltb_no, ltb_was, ltb_wasnt}
use Rattle.meaning.proofs.Members.{every_map}
use Rattle.meaning.proofs.Found.{find_split, find_skip, find_name, find_every, top}

-- the objects below n
abbrev pub upto : ℕ → Doc → Doc
upto n [] = []
upto n (o ∷ os) = cond (ltb (name o) n) (o ∷ upto n os) (upto n os)

keep : (n : ℕ) (o : Obj) (os : Doc) → name o < n → upto n (o ∷ os) ≡ o ∷ upto n os
keep n o os h = ap (λ t. cond t (o ∷ upto n os) (upto n os)) (ltb_yes (name o) n h)

leave : (n : ℕ) (o : Obj) (os : Doc) → n ≤ name o → upto n (o ∷ os) ≡ upto n os
leave n o os h = ap (λ t. cond t (o ∷ upto n os) (upto n os)) (ltb_no (name o) n h)

either : (n : ℕ) (o : Obj) → (name o < n) ⊎ (n ≤ name o)
either n o = go (ltb (name o) n) refl
  where
    go : (t : Bool) → ltb (name o) n ≡ t → (name o < n) ⊎ (n ≤ name o)
    go true e = inl (ltb_was (name o) n e)
    go false e = inr (ltb_wasnt (name o) n e)

pub upto_every : (P : Obj → Type 0) (n : ℕ) (d : Doc) → Every P d → Every P (upto n d)
upto_every P n [] h = tt
upto_every P n (o ∷ os) h = go (upto_every P n os h.1) (ltb (name o) n)
  where
    go : Every P (upto n os) → (t : Bool) → Every P (cond t (o ∷ upto n os) (upto n os))
    go ih true = (h.0, ih)
    go ih false = ih

pub upto_rising : (n : ℕ) (d : Doc) → Rising d → Rising (upto n d)
upto_rising n [] h = tt
upto_rising n (o ∷ os) h = go (upto_rising n os h.1) (ltb (name o) n)
  where
    go : Rising (upto n os) → (t : Bool) → Rising (cond t (o ∷ upto n os) (upto n os))
    go ih true = (upto_every (λ (q : Obj). name o < name q) n os h.0, ih)
    go ih false = ih

pub find_below : (n : ℕ) (d : Doc) (i : ℕ) → i < n → find (upto n d) i ≡ find d i
find_below n [] i h = refl
find_below n (o ∷ os) i h = go (find_below n os i h) (either n o)
  where
    go : find (upto n os) i ≡ find os i → (name o < n) ⊎ (n ≤ name o) → find (upto n (o ∷ os)) i ≡ find (o ∷ os) i
    go ih (inl k) = ap (λ x. find x i) (keep n o os k) ∙ ap (λ x. cond (eqb i (name o)) (some o) x) ih
    go ih (inr k) = ap (λ x. find x i) (leave n o os k) ∙ ih ∙ sym (find_skip o os i (λ e. omega arith))

pub find_above : (n : ℕ) (d : Doc) (i : ℕ) → n ≤ i → find (upto n d) i ≡ none
find_above n [] i h = refl
find_above n (o ∷ os) i h = go (find_above n os i h) (either n o)
  where
    go : find (upto n os) i ≡ none → (name o < n) ⊎ (n ≤ name o) → find (upto n (o ∷ os)) i ≡ none
    go ih (inl k) = ap (λ x. find x i) (keep n o os k) ∙ find_skip o (upto n os) i (λ e. omega arith) ∙ ih
    go ih (inr k) = ap (λ x. find x i) (leave n o os k) ∙ ih

pub find_upto : (n : ℕ) (d : Doc) (i : ℕ) (q : Obj) → find (upto n d) i ≡ some q → find d i ≡ some q
find_upto n d i q e = go (ltb i n) refl
  where
    go : (t : Bool) → ltb i n ≡ t → find d i ≡ some q
    go true h = sym (find_below n d i (ltb_was i n h)) ∙ e
    go false h = let k : ◌≡◌ {A = Option (Obj)} none (some q) = sym (find_above n d i (ltb_wasnt i n h)) ∙ e in let z : ◌≡◌ {A = ℕ} 0 1 = cc in absurd (omega arith)

pub upto_none : (n : ℕ) (d : Doc) → Every (λ (q : Obj). n ≤ name q) d → upto n d ≡ []
upto_none n [] h = refl
upto_none n (o ∷ os) h = leave n o os h.0 ∙ upto_none n os h.1

pub upto_same : (n : ℕ) (d : Doc) → find d n ≡ none → upto (suc n) d ≡ upto n d
upto_same n [] e = refl
upto_same n (o ∷ os) e = go (upto_same n os) (eqb n (name o)) refl
  where
    go : (find os n ≡ none → upto (suc n) os ≡ upto n os) → (t : Bool) → eqb n (name o) ≡ t → upto (suc n) (o ∷ os) ≡ upto n (o ∷ os)
    go ih true h = let k : ◌≡◌ {A = Option (Obj)} (some o) none = subst (λ t. cond t (some o) (find os n) ≡ none) h e in let z : ◌≡◌ {A = ℕ} 0 1 = cc in absurd (omega arith)
    go ih false h = next (ih (subst (λ t. cond t (some o) (find os n) ≡ none) h e)) (eqb_not n (name o) h) (either n o)
      where
        next : upto (suc n) os ≡ upto n os → (n ≡ name o → ⊥) → (name o < n) ⊎ (n ≤ name o) → upto (suc n) (o ∷ os) ≡ upto n (o ∷ os)
        next ih ne (inl k) = keep (suc n) o os (omega arith) ∙ ap (λ x. o ∷ x) ih ∙ sym (keep n o os k)
        next ih ne (inr k) = leave (suc n) o os (omega arith) ∙ ih ∙ sym (leave n o os k)

pub upto_more : (n : ℕ) (d : Doc) (q : Obj) → Rising d → find d n ≡ some q → upto (suc n) d ≡ upto n d ++ (q ∷ [])
upto_more n [] q r e = let z : ◌≡◌ {A = ℕ} 0 1 = cc in absurd (omega arith)
upto_more n (o ∷ os) q r e = go (upto_more n os q r.1) (find_split o os n q e)
  where
    go : (find os n ≡ some q → upto (suc n) os ≡ upto n os ++ (q ∷ [])) → ((eqb n (name o) ≡ true) × (o ≡ q)) ⊎ ((eqb n (name o) ≡ false) × (find os n ≡ some q)) → upto (suc n) (o ∷ os) ≡ upto n (o ∷ os) ++ (q ∷ [])
    go ih (inl (h, m)) =
        let k : n ≡ name o = eqb_yes n (name o) h in
        let a : Every (λ (x : Obj). suc n ≤ name x) os = every_map (λ (x : Obj). name o < name x) (λ (x : Obj). suc n ≤ name x) os (λ x _ l. omega arith) r.0 in
        let b : Every (λ (x : Obj). n ≤ name x) os = every_map (λ (x : Obj). name o < name x) (λ (x : Obj). n ≤ name x) os (λ x _ l. omega arith) r.0 in
        keep (suc n) o os (omega arith) ∙ ap (λ x. o ∷ x) (upto_none (suc n) os a) ∙ ap (λ x. x ∷ []) m ∙ sym (ap (λ x. x ++ (q ∷ [])) (leave n o os (omega arith) ∙ upto_none n os b))
    go ih (inr (h, m)) =
        let l : name o < name q = find_every (λ (x : Obj). name o < name x) os n q r.0 m in
        let k : name q ≡ n = find_name os n q m in
        keep (suc n) o os (omega arith) ∙ ap (λ x. o ∷ x) (ih m) ∙ sym (ap (λ x. x ++ (q ∷ [])) (keep n o os (omega arith)))

pub upto_all : (n : ℕ) (d : Doc) → top d ≤ n → upto n d ≡ d
upto_all n [] h = refl
upto_all n (o ∷ os) h = keep n o os (omega arith) ∙ ap (λ x. o ∷ x) (upto_all n os (omega arith))

module _ {U : Type 0} (units : List ℕ → List U) where
  -- one more object at the end
  pub values_more : (base : ℕ → Value U) (xs ys : Doc) → values units base (xs ++ ys) ≡ values units (values units base ys) xs
  values_more base [] ys = refl
  values_more base (o ∷ os) ys = ap (λ (g : ℕ → Value U). λ i. cond (eqb i (name o)) (built (map_row (λ (r : Ref). g (ref_rank r)) (row_in units o))) (g i)) (values_more base os ys)
