-- Walking along a list: what a test of all says at one place.
use Rattle.std.proofs.Common.{◌≡◌, ℕ, zero, suc, ◌+◌, ◌<◌, ◌≤◌, Bool, true, ◌&&◌, List, [], ◌∷◌, length, get_or, drop, sym, refl, ap, ◌∙◌, add-one, arith}
use mathlib.Core.Option.{none, some}
use Rattle.std.proofs.lemmas.List.{drop_more, drop_all}
use Rattle.std.proofs.lemmas.Bool.{and_parts}
use Rattle.std.proofs.lemmas.Iterator.{YieldsList-from_range}
use Rattle.std.proofs.lemmas.Iterator.Search.{all_from_yields_List}
use Rattle.std.proofs.iter.Yields.{nat_range_steps}
use Rattle.std.specs.List.{list_all, range_with_len}
use Rattle.std.specs.Iterator.{ChecksAll}
use Rattle.std.specs.Fn.{Called}
use Rattle.std.specs.declared.ops.Range.{Range}
use denote.Param.Members.{Mut}
use Rattle.document.specs.Places.{first, nth}
use Rattle.document.specs.Laws.{every, chained, chain_from}
use Rattle.document.specs.Steps.{passes, ordered}

pub nth_is : {X : Type 0} (xs : List X) (i : ℕ) (d : X) → i < length xs → nth xs i ≡ some (get_or xs i d)
nth_is xs i d h = ap first (drop_more xs i d h)

pub nth_past : {X : Type 0} (xs : List X) (i : ℕ) → length xs ≤ i → nth xs i ≡ none
nth_past xs i h = ap first (drop_all i xs h)

-- one place and the rest
every_first : {X : Type 0} (p : X → Bool) (xs : List X) → every p xs ≡ (passes p (first xs) && every p (drop 1 xs))
every_first p [] = refl
every_first p (x ∷ xs) = refl

drop_suc : {X : Type 0} (xs : List X) (i : ℕ) → drop (suc i) xs ≡ drop 1 (drop i xs)
drop_suc [] zero = refl
drop_suc [] (suc i) = refl
drop_suc (x ∷ xs) zero = refl
drop_suc (x ∷ xs) (suc i) = drop_suc xs i

pub drop_next : {X : Type 0} (xs : List X) (i : ℕ) → drop (i + 1) xs ≡ drop 1 (drop i xs)
drop_next xs i = ap (λ k. drop k xs) (add-one i) ∙ drop_suc xs i

module _ {X : Type 0} (p : X → Bool) (xs : List X) (i : ℕ) (so : every p (drop i xs) ≡ every p xs) where
  every_here : every p xs ≡ (passes p (nth xs i) && every p (drop (i + 1) xs))
  every_here = sym so ∙ (every_first p (drop i xs) ∙ ap (λ ys. passes p (nth xs i) && every p ys) (sym (drop_next xs i)))

  pub every_on : (t : Bool) → t ≡ passes p (nth xs i) → t ≡ true → every p (drop (i + 1) xs) ≡ every p xs
  every_on t e h = sym (every_here ∙ ap (λ b. b && every p (drop (i + 1) xs)) (sym e ∙ h))

-- a test at each place from one on, as a chain of all places makes it
every_placed : {X : Type 0} (p : X → Bool) (xs : List X) (n i : ℕ) → length xs ≤ i + n → list_all (λ k. passes p (nth xs k)) (range_with_len i n) ≡ every p (drop i xs)
every_placed p xs zero i h = sym (ap (every p) (drop_all i xs (omega arith)))
every_placed p xs (suc n) i h =
    ap (λ b. passes p (nth xs i) && b) (every_placed p xs n (i + 1) (omega arith) ∙ ap (every p) (drop_next xs i)) ∙ sym (every_first p (drop i xs))

chain_first : {X : Type 0} (lt : X → X → Bool) (xs : List X) → chained lt xs ≡ (ordered lt (first xs) (first (drop 1 xs)) && chained lt (drop 1 xs))
chain_first lt [] = refl
chain_first lt (x ∷ []) = refl
chain_first lt (x ∷ (y ∷ ys)) = refl

chain_placed : {X : Type 0} (lt : X → X → Bool) (xs : List X) (n i : ℕ) → length xs ≤ i + n → list_all (λ k. ordered lt (nth xs k) (nth xs (k + 1))) (range_with_len i n) ≡ chained lt (drop i xs)
chain_placed lt xs zero i h = sym (ap (chained lt) (drop_all i xs (omega arith)))
chain_placed lt xs (suc n) i h =
    ap (λ b. ordered lt (nth xs i) (nth xs (i + 1)) && b) (chain_placed lt xs n (i + 1) (omega arith) ∙ ap (chained lt) (drop_next xs i))
    ∙ (ap (λ ys. ordered lt (nth xs i) (first ys) && chained lt (drop 1 (drop i xs))) (drop_next xs i) ∙ sym (chain_first lt (drop i xs)))

-- what a chain of all places below n answers
module _ {X F : Type 0} {g : Mut F (ℕ × Unit {0}) Bool} (xs : List X) (n : ℕ) (far : length xs ≤ n) (u : Range ℕ) (f : F) (r : Bool) (ran : ChecksAll nat_range_steps g (record { start = 0; end = n }) f r u) where
  pub every_by_all : (p : X → Bool) → ((i : ℕ) (b : Bool) (q : F) → Called g f (i, tt) b q → (q ≡ f) × (b ≡ passes p (nth xs i))) → r ≡ every p xs
  every_by_all p h = all_from_yields_List (λ i. passes p (nth xs i)) u f r ran (YieldsList-from_range 0 n n refl (omega arith)) h ∙ every_placed p xs n 0 (omega arith)

  pub chained_by_all : (lt : X → X → Bool) → ((i : ℕ) (b : Bool) (q : F) → Called g f (i, tt) b q → (q ≡ f) × (b ≡ ordered lt (nth xs i) (nth xs (i + 1)))) → r ≡ chained lt xs
  chained_by_all lt h = all_from_yields_List (λ i. ordered lt (nth xs i) (nth xs (i + 1))) u f r ran (YieldsList-from_range 0 n n refl (omega arith)) h ∙ chain_placed lt xs n 0 (omega arith)

-- in a chain each comes before all later ones
module _ {X : Type 0} (lt : X → X → Bool) (across : (x y z : X) → lt x y ≡ true → lt y z ≡ true → lt x z ≡ true) (d : X) where
  chain_later : (x : X) (xs : List X) → chain_from lt x xs ≡ true → (j : ℕ) → j < length xs → lt x (get_or xs j d) ≡ true
  chain_later x [] h j l = absurd (omega arith)
  chain_later x (y ∷ ys) h zero l = (and_parts (lt x y) (chain_from lt y ys) h).0
  chain_later x (y ∷ ys) h (suc j) l =
      let p = and_parts (lt x y) (chain_from lt y ys) h in
      across x y (get_or ys j d) p.0 (chain_later y ys p.1 j (omega arith))

  chain_tail : (x : X) (xs : List X) → chain_from lt x xs ≡ true → chained lt xs ≡ true
  chain_tail x [] h = refl
  chain_tail x (y ∷ ys) h = (and_parts (lt x y) (chain_from lt y ys) h).1

  pub chain_apart : (xs : List X) → chained lt xs ≡ true → (i j : ℕ) → i < j → j < length xs → lt (get_or xs i d) (get_or xs j d) ≡ true
  chain_apart [] h i j l m = absurd (omega arith)
  chain_apart (x ∷ xs) h zero zero l m = absurd (omega arith)
  chain_apart (x ∷ xs) h zero (suc j) l m = chain_later x xs h j (omega arith)
  chain_apart (x ∷ xs) h (suc i) zero l m = absurd (omega arith)
  chain_apart (x ∷ xs) h (suc i) (suc j) l m = chain_apart xs (chain_tail x xs h) i j (omega arith) (omega arith)
