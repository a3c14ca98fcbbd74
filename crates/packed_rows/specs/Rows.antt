-- Many rows in one slice of places: row i lies between two starts.
use Rattle.std.specs.Prelude.{◌≡◌, ℕ, ◌+◌, ◌-◌, ◌<◌, ◌≤◌, List, length, take, drop, ◌≢◌, slice_index}
use Rattle.sequence_tree.specs.Lists.{spliced}

-- the row i of the packed places
abbrev pub row : {X : Type 0} → List ℕ → List X → ℕ → List X
row starts places i = take (slice_index starts (i + 1) - slice_index starts i) (drop (slice_index starts i) places)

-- how many places are in use
abbrev pub used : List ℕ → ℕ
used starts = slice_index starts (length starts - 1)

-- no row starts before the one in front of it
abbrev pub Rising : List ℕ → Type 0
Rising starts = (j k : ℕ) → j ≤ k → k < length starts → slice_index starts j ≤ slice_index starts k

-- the starts rise, and end within the places
pub record Packed {X : Type 0} (starts : List ℕ) (places : List X) : Type 0 where
  pub rising : Rising starts
  pub within : used starts ≤ length places

-- the starts past row i move on by m - k
pub record Moved (starts after : List ℕ) (i k m : ℕ) : Type 0 where
  pub upto : (j : ℕ) → j ≤ i → slice_index after j ≡ slice_index starts j
  pub past : (j : ℕ) → i < j → j < length starts → slice_index after j ≡ slice_index starts j - k + m

-- In row i, the k elements from `at` on are replaced by xs; every other row stays.
pub record RowSpliced {X : Type 0} (t : List ℕ) (s : List X) (t' : List ℕ) (s' : List X) (i at k : ℕ) (xs : List X) : Type 0 where
  pub lawful : Packed t' s'
  pub count : used t' + k ≡ used t + length xs
  pub here : row t' s' i ≡ spliced (row t s i) at k xs
  pub others : (j : ℕ) → (j ≢ i) → row t' s' j ≡ row t s j
