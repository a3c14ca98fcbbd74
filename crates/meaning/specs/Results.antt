-- What a call answers: what it gives, or why it is refused.
use Rattle.std.specs.Prelude.{Bool, true, false, cond, List, [], ◌∷◌, Ok, Err, Result}
use Rattle.std.proofs.Math.Option.{Option, none, some}
use Rattle.types.specs.declared.error.Refusal.{Refusal}

-- A value or a refusal.
abbrev pub Answer : Type 0 → Type 0
Answer A = Result A Refusal

-- The value, if a test holds, else the refusal.
abbrev pub provided : {A : Type 0} → Bool → Refusal → A → Answer A
provided true r a = Ok a
provided false r a = Err r

-- What is made of the value; a refusal stays.
abbrev pub on_ok : {A B : Type 0} → (A → B) → Answer A → Answer B
on_ok f (Ok a) = Ok (f a)
on_ok f (Err r) = Err r

-- One after the other: the first refusal is the answer.
abbrev pub and_then : {A B : Type 0} → Answer A → (A → Answer B) → Answer B
and_then (Ok a) f = f a
and_then (Err r) f = Err r

-- What is found, handed on; nothing where nothing is found.
abbrev pub on_some : {A B : Type 0} → Option A → (A → Option B) → Option B
on_some none f = none
on_some (some a) f = f a

-- The first refusal of a list whose test holds.
abbrev pub first_of : List (Bool × Refusal) → Option Refusal
first_of [] = none
first_of (x ∷ xs) = cond x.0 (some x.1) (first_of xs)
