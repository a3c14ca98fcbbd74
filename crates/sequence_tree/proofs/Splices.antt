-- What the places hold after a part of them was replaced.
use Rattle.std.proofs.Common.{◌≡◌, ℕ, ◌+◌, ◌-◌, ◌<◌, ◌≤◌, List, [], ◌∷◌, length, get_or, take, set, arith, length-append, length-drop, length-take, get_or-set_same, rules}
use borrow.Rule.Slice.PartMut.{put_mid}
use Rattle.std.proofs.lemmas.List.{places, same_lists}
use Rattle.std.proofs.lemmas.Bool.{cases_eq}
use Rattle.sequence_tree.specs.Lists.{spliced, Replaced}

-- the first n places, read element by element, are the spliced list
pub spliced_is : {X : Type 0} (s t xs : List X) (n at k : ℕ) → at + k ≤ n → n ≤ length s → length t ≡ length s → n + length xs ≤ length s + k
    → Replaced s t n at k xs → take (n - k + length xs) t ≡ spliced (take n s) at k xs
spliced_is s t xs n at k a b e f h =
    same_lists _ _ (search (rules, places))
    (λ j d l. grind (arith, places, h.below j d, h.here (j - at) d, h.tail (j - at - length xs) d))

-- a write of xs over the places that were made free
pub written_is : {X : Type 0} (s s' ys xs : List X) (n at k w : ℕ) → at + k ≤ n → n ≤ length s → length s' ≡ length s → n + length xs ≤ length s + k → w ≡ length xs → ys ≡ xs
    → ((j : ℕ) (d : X) → j < at → get_or s' j d ≡ get_or s j d)
    → ((j : ℕ) (d : X) → at + k + j < n → get_or s' (at + length xs + j) d ≡ get_or s (at + k + j) d)
    → take (n - k + length xs) (put_mid at w s' ys) ≡ spliced (take n s) at k xs
written_is s s' ys xs n at k w a b e f g h p r =
    same_lists _ _ (search (rules, places))
    (λ j d l. grind (arith, places, p j d, r (j - at - length xs) d))

-- a write into the one place that was made free
pub put_is : {X : Type 0} (s s' : List X) (x : X) (n at : ℕ) → at ≤ n → n < length s → length s' ≡ length s
    → ((j : ℕ) (d : X) → j < at → get_or s' j d ≡ get_or s j d)
    → ((j : ℕ) (d : X) → at + 0 + j < n → get_or s' (at + 1 + j) d ≡ get_or s (at + 0 + j) d)
    → take (n + 1) (set s' at x) ≡ spliced (take n s) at 0 (x ∷ [])
put_is s s' x n at a b e p r =
    same_lists _ _ (search (rules, places))
    (λ j d l. grind (arith, places, get_or-set_same, cases_eq j at, p j d, r (j - at - 1) d))

-- The length and the elements of a spliced list.
module _ {X : Type 0} (xs ys : List X) (at k : ℕ) (h : at + k ≤ length xs) where
  pub length_spliced : length (spliced xs at k ys) + k ≡ length xs + length ys
  length_spliced = simp (length-append, length-take, length-drop) (omega arith)

  pub get_or_spliced_below : (j : ℕ) (d : X) → j < at → get_or (spliced xs at k ys) j d ≡ get_or xs j d
  get_or_spliced_below j d l = grind (arith, places)

  pub get_or_spliced_here : (j : ℕ) (d : X) → j < length ys → get_or (spliced xs at k ys) (at + j) d ≡ get_or ys j d
  get_or_spliced_here j d l = grind (arith, places)

  pub get_or_spliced_above : (j : ℕ) (d : X) → get_or (spliced xs at k ys) (at + length ys + j) d ≡ get_or xs (at + k + j) d
  get_or_spliced_above j d = grind (arith, places)
