-- Ordered sets as lists; o is a comparison.
use Rattle.std.specs.Prelude.{◌≡◌, ℕ, suc, ◌<◌, ◌≤◌, Bool, true, false, cond, not, ◌&&◌, ◌||◌, List, [], ◌∷◌, length, take, Ok, Err, Result, nat_lt, slice_index_or}
use Rattle.std.specs.declared.cmp.Ordering.{Ordering}
use Rattle.std.specs.declared.cmp.Ordering.TheVariants.{Less}
use Rattle.std.specs.Ordering.{is_lt, is_eq}
use Rattle.sequence_tree.specs.Lists.{spliced}
use Rattle.sequence_tree.specs.declared.error.SequenceError.{SequenceError}
use Rattle.sequence_tree.specs.declared.error.SequenceError.TheVariants.{Full}
use Rattle.ordered_set.specs.declared.set.OrderedSet.{OrderedSet}

-- strictly rising, so without repeats
abbrev pub Rising : {X : Type 0} → (X → X → Ordering) → List X → Type 0
Rising {X} o xs = (i j : ℕ) (d : X) → i < j → j < length xs → o (slice_index_or xs i d) (slice_index_or xs j d) ≡ Less

-- whether an item that compares equal to x is among xs
abbrev pub has : {X : Type 0} → (X → X → Ordering) → X → List X → Bool
has o x [] = false
has o x (y ∷ ys) = is_eq (o y x) || has o x ys

-- how many items stand before x: those in front that are less
abbrev pub before : {X : Type 0} → (X → X → Ordering) → X → List X → ℕ
before o x [] = 0
before o x (y ∷ ys) = cond (is_lt (o y x)) (suc (before o x ys)) 0

-- the place of x where it is among xs, and else the place where it would go
abbrev pub found : {X : Type 0} → (X → X → Ordering) → X → List X → Result ℕ ℕ
found o x xs = cond (has o x xs) (Ok (before o x xs)) (Err (before o x xs))

-- what stands in the places that a set has in use
abbrev pub members : {X : Type 0} → OrderedSet → List X → List X
members s places = take s.len places

-- the set lies within the places and rises
pub record Ordered {X : Type 0} (o : X → X → Ordering) (s : OrderedSet) (places : List X) : Type 0 where
  pub fits : s.len ≤ length places
  pub rising : Rising o (members s places)

-- ys has what xs has, and x
abbrev pub With : {X : Type 0} → (X → X → Ordering) → X → List X → List X → Type 0
With {X} o x xs ys = (y : X) → has o y ys ≡ (is_eq (o x y) || has o y xs)

-- ys has what xs has, but for x
abbrev pub Without : {X : Type 0} → (X → X → Ordering) → X → List X → List X → Type 0
Without {X} o x xs ys = (y : X) → has o y ys ≡ (has o y xs && not (is_eq (o x y)))

-- the answer to putting x into a set of `cap` places: whether it is new
abbrev pub putting : {X : Type 0} → (X → X → Ordering) → X → List X → ℕ → Result Bool SequenceError
putting o x xs cap = cond (has o x xs) (Ok false) (cond (nat_lt (length xs) cap) (Ok true) (Err Full))

-- the set after that: x stands behind what is less, unless it was there or no place is free
abbrev pub put : {X : Type 0} → (X → X → Ordering) → X → List X → ℕ → List X
put o x xs cap = cond (has o x xs) xs (cond (nat_lt (length xs) cap) (spliced xs (before o x xs) 0 (x ∷ [])) xs)
