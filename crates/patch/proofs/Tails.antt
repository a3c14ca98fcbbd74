-- Lists that are cut and read at their end.
use Rattle.std.proofs.Common.{◌≡◌, ℕ, ◌+◌, ◌-◌, List, ◌++◌, length, take, drop, refl, ap, ◌∙◌, arith, length-append, take-append-drop}
use Rattle.std.proofs.lemmas.List.{take_at, drop_at, take_all, drop_all, append-nil}
use Rattle.sequence_tree.specs.Lists.{spliced}
use Rattle.patch.specs.Told.{last, front}

pub spliced_end : {X : Type 0} (xs ys : List X) (n : ℕ) → n ≡ length xs → spliced xs n 0 ys ≡ xs ++ ys
spliced_end xs ys n e =
    rw (take_all n xs (omega arith), drop_all (n + 0) xs (omega arith)) (ap (λ w. xs ++ w) (append-nil ys))

-- what is put at the end
pub last_append : {X : Type 0} (xs ys : List X) (n : ℕ) → length ys ≡ n → last n (xs ++ ys) ≡ ys
last_append xs ys n h = let q : length (xs ++ ys) - n ≡ length xs = simp length-append (omega arith) in ap (λ i. drop i (xs ++ ys)) q ∙ drop_at xs ys (length xs) refl

pub front_append : {X : Type 0} (xs ys : List X) (n : ℕ) → length ys ≡ n → front n (xs ++ ys) ≡ xs
front_append xs ys n h = let q : length (xs ++ ys) - n ≡ length xs = simp length-append (omega arith) in ap (λ i. take i (xs ++ ys)) q ∙ take_at xs ys (length xs) refl

pub front_last : {X : Type 0} (n : ℕ) (xs : List X) → front n xs ++ last n xs ≡ xs
front_last n xs = take-append-drop (length xs - n) xs
