-- Lists with a part replaced.
use Rattle.std.specs.Prelude.{◌≡◌, ℕ, ◌+◌, ◌<◌, List, ◌++◌, length, take, drop, slice_index_or}

-- xs with the k elements from `at` on replaced by ys
abbrev pub spliced : {X : Type 0} → List X → ℕ → ℕ → List X → List X
spliced xs at k ys = take at xs ++ (ys ++ drop (at + k) xs)

-- The places s of which n are in use become t: below `at` they stay, there xs stands, and what was past at + k comes after it.
pub record Replaced {X : Type 0} (s t : List X) (n at k : ℕ) (xs : List X) : Type 0 where
  pub below : (j : ℕ) (d : X) → j < at → slice_index_or t j d ≡ slice_index_or s j d
  pub here : (j : ℕ) (d : X) → j < length xs → slice_index_or t (at + j) d ≡ slice_index_or xs j d
  pub tail : (j : ℕ) (d : X) → at + k + j < n → slice_index_or t (at + length xs + j) d ≡ slice_index_or s (at + k + j) d
