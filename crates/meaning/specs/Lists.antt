-- Lists: edits, and what holds of their members.
use Rattle.std.specs.Prelude.{◌≡◌, ℕ, ◌+◌, Bool, true, false, cond, ◌⊎◌, List, [], ◌∷◌, ◌++◌, length, take, drop, ◌==◌, nat_le}
use Rattle.types.specs.declared.error.Refusal.TheVariants.{InvalidIndex}
use Rattle.meaning.specs.Results.{Answer, provided}

-- The n elements from i give way to ys.
abbrev pub splice : {A : Type 0} → ℕ → ℕ → List A → List A → List A
splice i n ys xs = take i xs ++ (ys ++ drop (i + n) xs)

-- The same as a change that is refused where those elements are not there.
abbrev pub edit : {A : Type 0} → ℕ → ℕ → List A → List A → Answer (List A)
edit i n ys xs = provided (nat_le (i + n) (length xs)) InvalidIndex (splice i n ys xs)

-- x is a member.
abbrev pub In : {X : Type 0} → X → List X → Type 0
In x [] = ⊥
In x (y ∷ ys) = (x ≡ y) ⊎ In x ys

-- P holds of every member.
abbrev pub Every : {X : Type 0} → (X → Type 0) → List X → Type 0
Every P [] = Unit {0}
Every P (x ∷ xs) = P x × Every P xs

-- No number stands twice.
abbrev pub Apart : List ℕ → Type 0
Apart [] = Unit {0}
Apart (x ∷ xs) = (In x xs → ⊥) × Apart xs

-- Membership of a number as a test.
abbrev pub memb : ℕ → List ℕ → Bool
memb x [] = false
memb x (y ∷ ys) = cond (x == y) true (memb x ys)
