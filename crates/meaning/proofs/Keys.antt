-- The order of keys.
use Rattle.std.proofs.Common.{◌≡◌, ℕ, Bool, true, false, cond, eqb, ltb, [], ◌∷◌, Ordering, Less, Equal, Greater, refl, ap, ◌∙◌, subst, arith}
use Rattle.std.specs.Ordering.{is_eq, ordering_then}
use Rattle.types.specs.Identities.{compare_numbers}
use Rattle.meaning.specs.Entries.{Key, compare_keys}
use Rattle.meaning.proofs.Tests.{ltb_no, eqb_same, eqb_yes}

numbers_same : (x : ℕ) → compare_numbers x x ≡ Equal
numbers_same x = ap (λ t. cond t Less (cond (eqb x x) Equal Greater)) (ltb_no x x (omega arith)) ∙ ap (λ t. cond t Equal Greater) (eqb_same x)

pub keys_same : (k : Key) → compare_keys k k ≡ Equal
keys_same [] = refl
keys_same (x ∷ k) = ap (λ o. ordering_then o (compare_keys k k)) (numbers_same x) ∙ keys_same k

numbers_eq : (x y : ℕ) → compare_numbers x y ≡ Equal → x ≡ y
numbers_eq x y e = go (ltb x y) (eqb x y) refl refl
  where
    go : (s t : Bool) → ltb x y ≡ s → eqb x y ≡ t → x ≡ y
    go true t p q = let z : Less ≡ Equal = rw p at e in let w : ◌≡◌ {A = ℕ} 0 1 = cc in absurd (omega arith)
    go false true p q = eqb_yes x y q
    go false false p q = let z : Greater ≡ Equal = rw (p, q) at e in let w : ◌≡◌ {A = ℕ} 0 1 = cc in absurd (omega arith)

pub keys_eq : (k j : Key) → is_eq (compare_keys k j) ≡ true → k ≡ j
keys_eq [] [] e = refl
keys_eq [] (y ∷ j) e = let w : ◌≡◌ {A = ℕ} 0 1 = cc in absurd (omega arith)
keys_eq (x ∷ k) [] e = let w : ◌≡◌ {A = ℕ} 0 1 = cc in absurd (omega arith)
keys_eq (x ∷ k) (y ∷ j) e = go (compare_numbers x y) refl (keys_eq k j)
  where
    go : (o : Ordering) → compare_numbers x y ≡ o → (is_eq (compare_keys k j) ≡ true → k ≡ j) → x ∷ k ≡ y ∷ j
    go Less c ih = let z : false ≡ true = subst (λ o. is_eq (ordering_then o (compare_keys k j)) ≡ true) c e in let w : ◌≡◌ {A = ℕ} 0 1 = cc in absurd (omega arith)
    go Equal c ih =
        let p : x ≡ y = numbers_eq x y c in
        let q : k ≡ j = ih (subst (λ o. is_eq (ordering_then o (compare_keys k j)) ≡ true) c e) in
        cc
    go Greater c ih = let z : false ≡ true = subst (λ o. is_eq (ordering_then o (compare_keys k j)) ≡ true) c e in let w : ◌≡◌ {A = ℕ} 0 1 = cc in absurd (omega arith)
