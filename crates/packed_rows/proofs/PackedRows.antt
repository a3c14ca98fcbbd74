-- The rows of packed places, and what a splice leaves of them.
use Rattle.std.proofs.Common.{◌≡◌, ℕ, ◌+◌, ◌-◌, ◌<◌, ◌≤◌, List, [], length, get_or, take, drop, sym, ◌∙◌, ⊎_elim, arith, length-drop, length-take, get_or-drop, rules}
use Rattle.std.proofs.lemmas.List.{places, same_lists, get_or_past, get_or-take}
use Rattle.std.proofs.lemmas.Bool.{cases_lt}
use Rattle.sequence_tree.specs.Lists.{spliced, Replaced}
use Rattle.packed_rows.specs.Rows.{row, used, Rising, Packed, Moved, RowSpliced}
use Rattle.sequence_tree.proofs.Splices.{spliced_is}

-- a row is as long as its starts say
pub row_length : {X : Type 0} (t : List ℕ) (s : List X) (i : ℕ) → Packed t s → i + 1 < length t → length (row t s i) ≡ get_or t (i + 1) 0 - get_or t i 0
row_length t s i h l =
    let u = h.rising (i + 1) (length t - 1) (omega arith) (omega arith) in
    let v = h.within in
    simp (length-take, length-drop) (omega arith)

-- an element of a row, among the places
pub row_at : {X : Type 0} (t : List ℕ) (s : List X) (i k : ℕ) (d : X) → Packed t s → i + 1 < length t → k < length (row t s i) → get_or (row t s i) k d ≡ get_or s (get_or t i 0 + k) d
row_at t s i k d h l m =
    let n = row_length t s i h l in
    get_or-take (get_or t (i + 1) 0 - get_or t i 0) (drop (get_or t i 0) s) k d (omega arith) ∙ get_or-drop (get_or t i 0) s k d

-- past the last row there is nothing
pub row_past : {X : Type 0} (t : List ℕ) (s : List X) (i : ℕ) → length t ≤ i + 1 → row t s i ≡ []
row_past t s i h = let e = get_or_past t (i + 1) 0 h in let z : get_or t (i + 1) 0 - get_or t i 0 ≡ 0 = omega arith in rw z

-- where a part of row i lies
pub record Bounds (starts : List ℕ) (i at k : ℕ) : Type 0 where
  pub step : get_or starts i 0 ≤ get_or starts (i + 1) 0
  pub here : get_or starts i 0 + at + k ≤ get_or starts (i + 1) 0
  pub end : get_or starts (i + 1) 0 ≤ used starts

pub bounds : {X : Type 0} (t : List ℕ) (s : List X) (i at k : ℕ) → Packed t s → i + 1 < length t → at + k ≤ length (row t s i) → Bounds t i at k
bounds t s i at k h l m =
    let n = row_length t s i h l in
    let st = h.rising i (i + 1) (omega arith) l in
    record { step = st; here = omega arith; end = h.rising (i + 1) (length t - 1) (omega arith) (omega arith) }

-- a part of the used places that lies before the change, after it, and around it
module _ {X : Type 0} (s s' xs : List X) (n at k : ℕ) (a : at + k ≤ n) (b : n ≤ length s) (e : length s' ≡ length s) (f : n + length xs ≤ length s + k)
    (p : Replaced s s' n at k xs) where
  part_before : (i j : ℕ) → i ≤ j → j ≤ at → take (j - i) (drop i s') ≡ take (j - i) (drop i s)
  part_before i j h l = same_lists _ _ (search (rules, places)) (λ h d m. grind (arith, places, p.below (i + h) d))

  part_after : (i j : ℕ) → at + k ≤ i → i ≤ j → j ≤ n → take ((j - k + length xs) - (i - k + length xs)) (drop (i - k + length xs) s') ≡ take (j - i) (drop i s)
  part_after i j g h l = same_lists _ _ (search (rules, places)) (λ h d m. grind (arith, places, p.tail (i + h - at - k) d))

  part_around : (i j at' : ℕ) → i + at' ≡ at → at + k ≤ j → j ≤ n → take ((j - k + length xs) - i) (drop i s') ≡ spliced (take (j - i) (drop i s)) at' k xs
  part_around i j at' g h l =
      let eq : (j - k + length xs) - i ≡ (j - i) - k + length xs = omega arith in
      rw eq
      (spliced_is (drop i s) (drop i s') xs (j - i) at' k (omega arith) (simp length-drop (omega arith)) (simp length-drop (omega arith)) (simp length-drop (omega arith))
      (record {
        below = λ m d u. simp get_or-drop (p.below (i + m) d (omega arith));
        here = λ m d u. let c : i + (at' + m) ≡ at + m = omega arith in simp get_or-drop (rw c (p.here m d u));
        tail = λ m d u.
            let c : i + (at' + length xs + m) ≡ at + length xs + m = omega arith in
            let c' : i + (at' + k + m) ≡ at + k + m = omega arith in
            simp get_or-drop (rw (c, c') (p.tail m d (omega arith)));
      }))

-- what a splice leaves: every row, from the places and the starts after it
module _ {X : Type 0} (s s' xs : List X) (t t' : List ℕ) (i at k : ℕ) (h : Packed t s) (l : i + 1 < length t) (m : at + k ≤ length (row t s i))
    (e : length s' ≡ length s) (g : length t' ≡ length t) (f : used t + length xs ≤ length s + k)
    (p : Replaced s s' (used t) (get_or t i 0 + at) k xs) (q : Moved t t' i k (length xs)) where
  row_here : row t' s' i ≡ spliced (row t s i) at k xs
  row_here =
      let b = bounds t s i at k h l m in
      rw (q.upto i (omega arith), q.past (i + 1) (omega arith) l)
      (part_around s s' xs (used t) (get_or t i 0 + at) k (omega arith) h.within e f p (get_or t i 0) (get_or t (i + 1) 0) at (omega arith) (omega arith) b.end)

  row_within : (j : ℕ) → j + 1 < length t → (j ≡ i → ⊥) → row t' s' j ≡ row t s j
  row_within j u ne =
      let b = bounds t s i at k h l m in
      let st = h.rising j (j + 1) (omega arith) u in
      ⊎_elim
      (λ (below : j < i).
      let z = h.rising (j + 1) i (omega arith) (omega arith) in
      rw (q.upto j (omega arith), q.upto (j + 1) (omega arith))
      (part_before s s' xs (used t) (get_or t i 0 + at) k (omega arith) h.within e f p (get_or t j 0) (get_or t (j + 1) 0) st (omega arith)))
      (λ (above : i ≤ j).
      let z = h.rising (i + 1) j (omega arith) (omega arith) in
      let z' = h.rising (j + 1) (length t - 1) (omega arith) (omega arith) in
      rw (q.past j (omega arith) (omega arith), q.past (j + 1) (omega arith) u)
      (part_after s s' xs (used t) (get_or t i 0 + at) k (omega arith) h.within e f p (get_or t j 0) (get_or t (j + 1) 0) (omega arith) st z'))
      (cases_lt j i)

  row_other : (j : ℕ) → (j ≡ i → ⊥) → row t' s' j ≡ row t s j
  row_other j ne =
      ⊎_elim (λ (u : j + 1 < length t). row_within j u ne)
      (λ (u : length t ≤ j + 1). row_past t' s' j (omega arith) ∙ sym (row_past t s j u)) (cases_lt (j + 1) (length t))

  used_after : used t' + k ≡ used t + length xs
  used_after =
      let b = bounds t s i at k h l m in
      rw g (let v = q.past (length t - 1) (omega arith) (omega arith) in omega arith)

  rises : Rising t'
  rises a c u v =
      let b = bounds t s i at k h l m in
      let r1 = h.rising a c u (omega arith) in
      ⊎_elim
      (λ (x : i < c).
      let ec = q.past c x (omega arith) in
      let z = h.rising (i + 1) c (omega arith) (omega arith) in
      ⊎_elim
      (λ (y : i < a). let ea = q.past a y (omega arith) in let za = h.rising (i + 1) a (omega arith) (omega arith) in omega arith)
      (λ (y : a ≤ i). let ea = q.upto a y in let za = h.rising a i y (omega arith) in omega arith)
      (cases_lt i a))
      (λ (x : c ≤ i). let ea = q.upto a (omega arith) in let ec = q.upto c x in omega arith)
      (cases_lt i c)

  packed_after : Packed t' s'
  packed_after =
      let b = bounds t s i at k h l m in
      record {
        rising = rises;
        within = let w = used_after in let x = h.within in rw (g, e) (omega arith);
      }

  pub row_spliced : RowSpliced t s t' s' i at k xs
  row_spliced = record { lawful = packed_after; count = used_after; here = row_here; others = row_other }
