-- The order of keys.
use Rattle.std.proofs.Common.{◌≡◌, ℕ, ◌<◌, ◌≤◌, ◌⊎◌, [], ◌∷◌, Less, Equal, Greater, sym, refl, ap, ◌∙◌, inl, inr, ⊎_elim, arith}
use Rattle.std.proofs.lemmas.Bool.{cases_lt, cases_eq}
use Rattle.std.proofs.lemmas.Bool.Decides.{nat_tests}
use Rattle.std.specs.Ordering.{ordering_then, nat_cmp}
use Rattle.std.specs.Cmp.Lexicographic.{slice_cmp}
use Rattle.types.specs.Identities.{compare_numbers}
use Rattle.meaning.specs.Entries.{Key, compare_keys}

pub numbers_less : (x y : ℕ) → x < y → compare_numbers x y ≡ Less
numbers_less x y h = grind (arith, nat_tests)

pub numbers_same : (x y : ℕ) → x ≡ y → compare_numbers x y ≡ Equal
numbers_same x y h = grind (arith, nat_tests)

pub numbers_more : (x y : ℕ) → y < x → compare_numbers x y ≡ Greater
numbers_more x y h = grind (arith, nat_tests)

-- numbers and keys that differ in a first number
pub by_first : (x y : ℕ) (a b : Key) → (x ≡ y → ⊥) → compare_keys (x ∷ a) (y ∷ b) ≡ compare_numbers x y
by_first x y a b ne = ⊎_elim
    (λ (h : x < y). ap (λ o. ordering_then o (compare_keys a b)) (numbers_less x y h) ∙ sym (numbers_less x y h))
    (λ (h : y ≤ x). let l : y < x = omega arith in ap (λ o. ordering_then o (compare_keys a b)) (numbers_more x y l) ∙ sym (numbers_more x y l)) (cases_lt x y)

pub by_rest : (x y : ℕ) (a b : Key) → x ≡ y → compare_keys (x ∷ a) (y ∷ b) ≡ compare_keys a b
by_rest x y a b e = ap (λ o. ordering_then o (compare_keys a b)) (numbers_same x y e)

-- the library's order of lists is the order of keys
pub numbers_are : (x y : ℕ) → nat_cmp x y ≡ compare_numbers x y
numbers_are x y = grind (arith, nat_tests)

pub keys_are : (a b : Key) → slice_cmp nat_cmp a b ≡ compare_keys a b
keys_are [] [] = refl
keys_are [] (y ∷ ys) = refl
keys_are (x ∷ xs) [] = refl
keys_are (x ∷ xs) (y ∷ ys) = let e = numbers_are x y in let i = keys_are xs ys in cc

-- laws of the order
pub key_cases : (x y : ℕ) → (x < y) ⊎ ((x ≡ y) ⊎ (y < x))
key_cases x y = ⊎_elim (λ h. inl h) (λ (h : y ≤ x). inr (⊎_elim (λ (e : x ≡ y). inl e) (λ ne. inr (omega arith)) (cases_eq x y))) (cases_lt x y)

pub turned : (a b : Key) → compare_keys a b ≡ Greater → compare_keys b a ≡ Less
turned [] [] e = absurd (let z : ◌≡◌ {A = ℕ} 0 1 = cc in omega arith)
turned [] (y ∷ b) e = absurd (let z : ◌≡◌ {A = ℕ} 0 1 = cc in omega arith)
turned (x ∷ a) [] e = refl
turned (x ∷ a) (y ∷ b) e = go (turned a b) (key_cases x y)
  where
    go : (compare_keys a b ≡ Greater → compare_keys b a ≡ Less) → (x < y) ⊎ ((x ≡ y) ⊎ (y < x)) → compare_keys (y ∷ b) (x ∷ a) ≡ Less
    go ih (inl h) = let w = by_first x y a b (λ z. omega arith) in let v = numbers_less x y h in absurd (let z : ◌≡◌ {A = ℕ} 0 1 = cc in omega arith)
    go ih (inr (inl h)) = by_rest y x b a (sym h) ∙ ih (sym (by_rest x y a b h) ∙ e)
    go ih (inr (inr h)) = by_first y x b a (λ z. omega arith) ∙ numbers_less y x h

pub keys_same : (a b : Key) → compare_keys a b ≡ Equal → a ≡ b
keys_same [] [] e = refl
keys_same [] (y ∷ b) e = absurd (let z : ◌≡◌ {A = ℕ} 0 1 = cc in omega arith)
keys_same (x ∷ a) [] e = absurd (let z : ◌≡◌ {A = ℕ} 0 1 = cc in omega arith)
keys_same (x ∷ a) (y ∷ b) e = go (keys_same a b) (key_cases x y)
  where
    go : (compare_keys a b ≡ Equal → a ≡ b) → (x < y) ⊎ ((x ≡ y) ⊎ (y < x)) → x ∷ a ≡ y ∷ b
    go ih (inl h) = let w = by_first x y a b (λ z. omega arith) in let v = numbers_less x y h in absurd (let z : ◌≡◌ {A = ℕ} 0 1 = cc in omega arith)
    go ih (inr (inl h)) = let q = ih (sym (by_rest x y a b h) ∙ e) in cc
    go ih (inr (inr h)) = let w = by_first x y a b (λ z. omega arith) in let v = numbers_more x y h in absurd (let z : ◌≡◌ {A = ℕ} 0 1 = cc in omega arith)

pub less_less : (a b c : Key) → compare_keys a b ≡ Less → compare_keys b c ≡ Less → compare_keys a c ≡ Less
less_less [] [] c e d = d
less_less [] (y ∷ b) [] e d = absurd (let z : ◌≡◌ {A = ℕ} 0 1 = cc in omega arith)
less_less [] (y ∷ b) (z ∷ c) e d = refl
less_less (x ∷ a) [] c e d = absurd (let z : ◌≡◌ {A = ℕ} 0 1 = cc in omega arith)
less_less (x ∷ a) (y ∷ b) [] e d = absurd (let z : ◌≡◌ {A = ℕ} 0 1 = cc in omega arith)
less_less (x ∷ a) (y ∷ b) (z ∷ c) e d = go (less_less a b c) (key_cases x y) (key_cases y z)
  where
    go : (compare_keys a b ≡ Less → compare_keys b c ≡ Less → compare_keys a c ≡ Less) → (x < y) ⊎ ((x ≡ y) ⊎ (y < x)) → (y < z) ⊎ ((y ≡ z) ⊎ (z < y)) → compare_keys (x ∷ a) (z ∷ c) ≡ Less
    go ih (inr (inr h)) k = let w = by_first x y a b (λ q. omega arith) in let v = numbers_more x y h in absurd (let q : ◌≡◌ {A = ℕ} 0 1 = cc in omega arith)
    go ih (inl h) (inr (inr k)) = let w = by_first y z b c (λ q. omega arith) in let v = numbers_more y z k in absurd (let q : ◌≡◌ {A = ℕ} 0 1 = cc in omega arith)
    go ih (inl h) (inl k) = by_first x z a c (λ q. omega arith) ∙ numbers_less x z (omega arith)
    go ih (inl h) (inr (inl k)) = by_first x z a c (λ q. omega arith) ∙ numbers_less x z (omega arith)
    go ih (inr (inl h)) (inr (inr k)) = let w = by_first y z b c (λ q. omega arith) in let v = numbers_more y z k in absurd (let q : ◌≡◌ {A = ℕ} 0 1 = cc in omega arith)
    go ih (inr (inl h)) (inl k) = by_first x z a c (λ q. omega arith) ∙ numbers_less x z (omega arith)
    go ih (inr (inl h)) (inr (inl k)) = by_rest x z a c (h ∙ k) ∙ ih (sym (by_rest x y a b h) ∙ e) (sym (by_rest y z b c k) ∙ d)
