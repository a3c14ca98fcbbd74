-- Edits of lists: two that follow one another made one.
use Rattle.std.proofs.Common.{◌≡◌, ℕ, ◌+◌, ◌-◌, ◌≤◌, Bool, leb, List, [], ◌++◌, map, length, take, drop, Ok, sym, ap, ◌∙◌, subst, append_assoc, add-zero, arith, length-append, length-drop, take-append-drop, length-take-le, drop-drop, take_at, drop_at}
use Rattle.std.proofs.lemmas.List.{take-map, drop-map, map-append}
use Rattle.types.specs.declared.error.Refusal.TheVariants.{InvalidIndex}
use Rattle.meaning.specs.Results.{provided}
use Rattle.meaning.specs.Lists.{splice, edit}
use Rattle.meaning.proofs.Tests.{le_of, leb_of, provided_inv, okay}

module _ {A : Type 0} where
  pub edit_inv : (i n : ℕ) (ys xs zs : List A) → edit i n ys xs ≡ Ok zs → (i + n ≤ length xs) × (zs ≡ splice i n ys xs)
  edit_inv i n ys xs zs e =
      let g = provided_inv (leb (i + n) (length xs)) InvalidIndex (splice i n ys xs) zs e in
      (le_of (i + n) (length xs) g.0, g.1)

  pub edit_ok : (i n : ℕ) (ys xs : List A) → i + n ≤ length xs → edit i n ys xs ≡ Ok (splice i n ys xs)
  edit_ok i n ys xs h = ap (λ (b : Bool). provided b InvalidIndex (splice i n ys xs)) (leb_of (i + n) (length xs) h)

  -- the list taken apart: a before, m that gives way, b after
  pub splice_at : (a m b ys : List A) (i n : ℕ) → length a ≡ i → length m ≡ n → splice i n ys (a ++ (m ++ b)) ≡ a ++ (ys ++ b)
  splice_at a m b ys i n p q =
      let d : drop (i + n) (a ++ (m ++ b)) ≡ b = rw (← drop-drop n i (a ++ (m ++ b)), drop_at a (m ++ b) i p) (drop_at m b n q) in
      rw (take_at a (m ++ b) i p, d)

  pub split3 : (i n : ℕ) (xs : List A) → xs ≡ take i xs ++ (take n (drop i xs) ++ drop (i + n) xs)
  split3 i n xs = rw (← drop-drop n i xs, take-append-drop n (drop i xs), take-append-drop i xs)

  -- an edit inside what an edit before it put in
  pub splice_inside : (t n i m : ℕ) (vs us xs : List A) → t + n ≤ length xs → t ≤ i → i + m ≤ t + length vs
      → splice i m us (splice t n vs xs) ≡ splice t n (splice (i - t) m us vs) xs
  splice_inside t n i m vs us xs h lo hi =
      let a = take t xs in
      let b = drop (t + n) xs in
      let p = take (i - t) vs in
      let mid = take m (drop (i - t) vs) in
      let q = drop (i - t + m) vs in
      let la : length a ≡ t = length-take-le t xs (omega arith) in
      let lp : length p ≡ i - t = length-take-le (i - t) vs (omega arith) in
      let lap : length (a ++ p) ≡ i = omega (arith, length-append a p) in
      let lm : length mid ≡ m = length-take-le m (drop (i - t) vs) (omega (arith, length-drop (i - t) vs)) in
      let e : a ++ (vs ++ b) ≡ (a ++ p) ++ (mid ++ (q ++ b)) = ap (λ (r : List A). a ++ (r ++ b)) (split3 (i - t) m vs) ∙ simp append_assoc in
      ap (λ (r : List A). splice i m us r) e ∙ splice_at (a ++ p) mid (q ++ b) us i m lap lm ∙ simp append_assoc

  -- a deletion right after a deletion at the same place
  pub splice_more : (i n m : ℕ) (xs : List A) → i + n ≤ length xs → splice i m [] (splice i n [] xs) ≡ splice i (n + m) [] xs
  splice_more i n m xs h =
      let a = take i xs in
      let la : length a ≡ i = length-take-le i xs (omega arith) in
      let e : take i (a ++ drop (i + n) xs) ≡ a = take_at a (drop (i + n) xs) i la in
      let d : drop (i + m) (a ++ drop (i + n) xs) ≡ drop (i + (n + m)) xs =
      rw (← drop-drop m i (a ++ drop (i + n) xs), drop_at a (drop (i + n) xs) i la, drop-drop m (i + n) xs) (ap (λ (k : ℕ). drop k xs) (omega arith)) in
      rw (e, d)

  pub length_splice : (i n : ℕ) (ys xs : List A) → i + n ≤ length xs → length (splice i n ys xs) + n ≡ length ys + length xs
  length_splice i n ys xs h =
      simp (length-append, length-drop) (omega (arith, length-take-le i xs (omega arith)))

  pub edit_inside : (t n i m : ℕ) (vs us xs ys zs : List A) → t ≤ i → i + m ≤ t + length vs
      → edit t n vs xs ≡ Ok ys → edit i m us ys ≡ Ok zs → edit t n (splice (i - t) m us vs) xs ≡ Ok zs
  edit_inside t n i m vs us xs ys zs lo hi e f =
      let p = edit_inv t n vs xs ys e in
      let q = edit_inv i m us ys zs f in
      let z : zs ≡ splice t n (splice (i - t) m us vs) xs =
      q.1 ∙ ap (splice i m us) p.1 ∙ splice_inside t n i m vs us xs p.0 lo hi in
      edit_ok t n (splice (i - t) m us vs) xs p.0 ∙ okay (sym z)

  pub edit_more : (i n m : ℕ) (xs ys zs : List A) → edit i n [] xs ≡ Ok ys → edit i m [] ys ≡ Ok zs → edit i (n + m) [] xs ≡ Ok zs
  edit_more i n m xs ys zs e f =
      let p = edit_inv i n [] xs ys e in
      let q = edit_inv i m [] ys zs f in
      let lo : i + m ≤ length (splice i n [] xs) = subst (λ (r : List A). i + m ≤ length r) p.1 q.0 in
      let z : zs ≡ splice i (n + m) [] xs = q.1 ∙ ap (splice i m []) p.1 ∙ splice_more i n m xs p.0 in
      edit_ok i (n + m) [] xs (omega (arith, length_splice i n [] xs p.0, lo, p.0)) ∙ okay (sym z)

  -- nothing taken out and nothing put in
  pub edit_nothing : (t : ℕ) (xs ys : List A) → edit t 0 [] xs ≡ Ok ys → ys ≡ xs
  edit_nothing t xs ys e = (edit_inv t 0 [] xs ys e).1 ∙ rw (add-zero t) (take-append-drop t xs)

pub map_splice : {A B : Type 0} (f : A → B) (i n : ℕ) (ys xs : List A) → map f (splice i n ys xs) ≡ splice i n (map f ys) (map f xs)
map_splice f i n ys xs = simp (map-append, take-map, drop-map)
