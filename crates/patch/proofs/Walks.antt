-- Lists from a place on.
use Rattle.std.proofs.Common.{◌≡◌, ℕ, zero, suc, ◌+◌, List, [], ◌∷◌, drop, Some, None, refl, ap, ◌∙◌, arith}
use Rattle.std.specs.List.{slice_get}

pub nth_none : {X : Type 0} (xs : List X) (i : ℕ) → slice_get xs i ≡ None → drop i xs ≡ []
nth_none [] zero h = refl
nth_none [] (suc i) h = refl
nth_none (x ∷ xs) zero h = cc
nth_none (x ∷ xs) (suc i) h = nth_none xs i h

pub nth_some : {X : Type 0} (xs : List X) (i : ℕ) (y : X) → slice_get xs i ≡ Some y → drop i xs ≡ y ∷ drop (i + 1) xs
nth_some [] i y h = cc
nth_some (x ∷ xs) zero y h = let e : x ≡ y = cc in ap (λ z. z ∷ xs) e
nth_some (x ∷ xs) (suc i) y h = let e : suc (i + 1) ≡ suc i + 1 = omega arith in nth_some xs i y h ∙ ap (λ k. y ∷ drop k (x ∷ xs)) e
