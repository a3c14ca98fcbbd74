-- More units for the last patch.
use Rattle.std.proofs.Common.{◌≡◌, ℕ, ◌+◌, ◌-◌, ◌<◌, ◌≤◌, min, true, false, ◌||◌, ltb, ◌⊎◌, List, ◌∷◌, ◌++◌, length, take, drop, sym, refl, ap, ◌∙◌, inl, inr, append_assoc, arith, length-append, length-drop, length-take}
use Rattle.std.proofs.Math.Seq.{drop-append-add, take-append-add}
use Rattle.std.proofs.Math.Bool.{or-false}
use Rattle.std.proofs.lemmas.List.{length-take-le, take_all, drop_all}
use Rattle.std.proofs.lemmas.Bool.{cases_lt, le-ltb, and_parts, and_from}
use Rattle.sequence_tree.specs.Sequences.{held}
use Rattle.sequence_tree.specs.Lists.{spliced}
use Rattle.patch.specs.declared.rows.ActionRow.{ActionRow}
use Rattle.patch.specs.declared.rows.ActionRow.TheVariants.{SpliceText}
use Rattle.patch.specs.declared.rows.PatchRow.{PatchRow}
use Rattle.patch.specs.declared.memory.PatchMemory.{PatchMemory}
use Rattle.meaning.specs.Lists.{splice}
use Rattle.meaning.specs.Patches.{splice_text}
use Rattle.meaning.specs.Builder.{overfull}
use Rattle.patch.specs.Told.{Parts, last, front, block, rest, patch_told, told, wide_flags, flags_told, fits_row, laid, passes}
use Rattle.patch.specs.Sound.{newest}
use Rattle.patch.specs.Held.{parts_of, held_of}
use Rattle.patch.specs.Edits.{change_tail, add_units}
use Rattle.patch.specs.Tails.{with_action}
use Rattle.patch.proofs.Tails.{front_last, last_append, front_append}
use Rattle.patch.proofs.Tell.{fits_parts, fits_from, overfull_told}
use Rattle.patch.proofs.Bounds.{within}
use Rattle.patch.proofs.Changes.{Changed}

-- a splice at the place j of the last n, or at the end
pub splice_min : {X : Type 0} (zs ys : List X) (j n : ℕ) → length zs ≡ n → splice (min j n) 0 ys zs ≡ splice j 0 ys zs
splice_min zs ys j n l = go (cases_lt j n)
  where
    go : (j < n) ⊎ (n ≤ j) → splice (min j n) 0 ys zs ≡ splice j 0 ys zs
    go (inl h) = let e : min j n ≡ j = omega arith in ap (λ k. splice k 0 ys zs) e
    go (inr h) =
        let e : min j n ≡ n = omega arith in
        let a : take n zs ≡ take j zs = take_all n zs (omega arith) ∙ sym (take_all j zs (omega arith)) in
        let b : drop (n + 0) zs ≡ drop (j + 0) zs = drop_all (n + 0) zs (omega arith) ∙ sym (drop_all (j + 0) zs (omega arith)) in
        ap (λ k. splice k 0 ys zs) e ∙ (λ i. a i ++ (ys ++ b i))

pub length_splice : {X : Type 0} (zs ys : List X) (j : ℕ) → length (splice j 0 ys zs) ≡ length zs + length ys
length_splice zs ys j = simp (length-append, length-take, length-drop) (omega arith)

pub splice_last : {X : Type 0} (xs ys : List X) (n j p : ℕ) → n ≤ length xs → p ≡ length xs - n + min j n → spliced xs p 0 ys ≡ front n xs ++ splice j 0 ys (last n xs)
splice_last xs ys n j p l e =
    let f : List _ = front n xs in
    let z : List _ = last n xs in
    let lf : length (front n xs) ≡ length xs - n = length-take-le (length xs - n) xs (omega arith) in
    let lz : length (last n xs) ≡ n = length-drop (length xs - n) xs ∙ (let q : length xs - (length xs - n) ≡ n = omega arith in q) in
    let pf : p ≡ length (front n xs) + min j n = omega arith in
    let pm : p + 0 ≡ length (front n xs) + (min j n + 0) = omega arith in
    let a : take p xs ≡ front n xs ++ take (min j n) (last n xs) = sym (ap (take p) (front_last n xs)) ∙ (ap (λ i. take i (front n xs ++ last n xs)) pf ∙ take-append-add (front n xs) (last n xs) (min j n)) in
    let b : drop (p + 0) xs ≡ drop (min j n + 0) (last n xs) = sym (ap (drop (p + 0)) (front_last n xs)) ∙ (ap (λ i. drop i (front n xs ++ last n xs)) pm ∙ drop-append-add (front n xs) (last n xs) (min j n + 0)) in
    (λ i. a i ++ (ys ++ b i))
    ∙ (append_assoc (front n xs) (take (min j n) (last n xs)) (ys ++ drop (min j n + 0) (last n xs))
    ∙ ap (λ w. front n xs ++ w) (splice_min (last n xs) ys j n lz))

-- where the other counts keep within their bounds, that of the units decides
pub units_decide : (p v u b : ℕ) → p ≤ 4096 → v ≤ 4096 → b ≤ 32768 → passes p v u b ≡ ltb 32768 u
units_decide p v u b x y z =
    (λ i. le-ltb 4096 p x i || (le-ltb 4096 v y i || (ltb 32768 u || le-ltb 32768 b z i))) ∙ or-false (ltb 32768 u)

pub none_passes : (p v u b : ℕ) → p ≤ 4096 → v ≤ 4096 → u ≤ 32768 → b ≤ 32768 → passes p v u b ≡ false
none_passes p v u b x y w z = units_decide p v u b x y z ∙ le-ltb 32768 u w

abbrev pub more : {U : Type 0} → Parts U → ℕ → List U → Parts U
more c p us = record { steps = c.steps; values = c.values; units = spliced c.units p 0 us; bytes = c.bytes }

module _ {U : Type 0} (j : ℕ) (us : List U) where
  -- a last patch that is no splice stays
  pub units_other : (R : List PatchRow) (c : Parts U) (r : PatchRow) → R ≡ r ∷ drop 1 R → ((i n : ℕ) → r.action ≡ SpliceText i n → ⊥) → change_tail (add_units j us) (told R c) ≡ told R c
  units_other R c r e h = ap (λ rs. change_tail (add_units j us) (told rs c)) e ∙ (go r.action h ∙ sym (ap (λ rs. told rs c) e))
    where
      go : (a : ActionRow) → ((i n : ℕ) → a ≡ SpliceText i n → ⊥) → change_tail (add_units j us) (told (with_action r a ∷ drop 1 R) c) ≡ told (with_action r a ∷ drop 1 R) c
      go (SpliceText i n) q = absurd (q i n refl)
      go a q = refl

  module _ (rs : List PatchRow) (c : Parts U) (r : PatchRow) (i n : ℕ) (own : length (last n c.units) ≡ n) (p : ℕ) (at : p ≡ length c.units - n + min j n) where
    cut : spliced c.units p 0 us ≡ front n c.units ++ splice j 0 us (last n c.units)
    cut = splice_last c.units us n j p (let l = length-drop (length c.units - n) c.units in omega arith) at

    count : length (splice j 0 us (last n c.units)) ≡ n + length us
    count = length_splice (last n c.units) us j ∙ ap (λ k. k + length us) own

    newer : last (n + length us) (spliced c.units p 0 us) ≡ splice j 0 us (last n c.units)
    newer = ap (last (n + length us)) cut ∙ last_append (front n c.units) (splice j 0 us (last n c.units)) (n + length us) count

    before : front (n + length us) (spliced c.units p 0 us) ≡ front n c.units
    before = ap (front (n + length us)) cut ∙ front_append (front n c.units) (splice j 0 us (last n c.units)) (n + length us) count

    pub units_joined : laid (with_action r (SpliceText i n) ∷ rs) c ≡ true
        → Changed (with_action r (SpliceText i n) ∷ rs) (with_action r (SpliceText i (n + length us)) ∷ rs) c (more c p us) (add_units j us)
    units_joined h =
        let q : PatchRow = with_action r (SpliceText i n) in
        let s : PatchRow = with_action r (SpliceText i (n + length us)) in
        let l = and_parts (fits_row q (block q c)) (laid rs (rest q c)) h in
        let f = fits_parts q (block q c) l.0 in
        let b : rest s (more c p us) ≡ rest q c = λ k. record { steps = front r.steps c.steps; values = front 0 c.values; units = before k; bytes = front r.bytes c.bytes } in
        record {
          laid = and_from _ _ (fits_from s (block s (more c p us)) (record { steps = f.steps; values = f.values; units = ap length newer ∙ count; bytes = f.bytes; all = f.all; wide = f.wide; short = f.short })) (ap (laid rs) b ∙ l.1);
          told = λ k. record { obj = r.obj; path = (patch_told q (block q c)).path; action = splice_text i (newer k) } ∷ told rs (b k);
          flags = λ k. wide_flags (block q c).values ∷ flags_told rs (b k);
        }

module _ {U : Type 0} (m : PatchMemory U) (j : ℕ) (us : List U) (r : PatchRow) (e : newest m.rows ≡ r ∷ drop 1 (newest m.rows)) (i n : ℕ) (a : r.action ≡ SpliceText i n) (p : ℕ) (at : p ≡ length (held m.units) - n + min j n) where
  splice_last_row : newest m.rows ≡ with_action r (SpliceText i n) ∷ drop 1 (newest m.rows)
  splice_last_row = e ∙ ap (λ x. with_action r x ∷ drop 1 (newest m.rows)) a

  -- the last patch, a splice, once it has more units
  pub joined : (N : List PatchRow) (d : Parts U) → N ≡ with_action r (SpliceText i (n + length us)) ∷ drop 1 (newest m.rows) → d ≡ more (parts_of m) p us
      → Changed (newest m.rows) N (parts_of m) d (add_units j us)
  joined N d q z =
      let R = newest m.rows in
      let c = parts_of m in
      let h : laid (with_action r (SpliceText i n) ∷ drop 1 R) c ≡ true = sym (ap (λ rs. laid rs c) splice_last_row) ∙ m.shared in
      let f = fits_parts (with_action r (SpliceText i n)) (block (with_action r (SpliceText i n)) c) (and_parts (fits_row (with_action r (SpliceText i n)) (block (with_action r (SpliceText i n)) c)) _ h).0 in
      let w = units_joined j us (drop 1 R) c r i n f.units p at h in
      record {
        laid = (λ k. laid (q k) (z k)) ∙ w.laid;
        told = (λ k. told (q k) (z k)) ∙ (w.told ∙ sym (ap (λ rs. change_tail (add_units j us) (told rs c)) splice_last_row));
        flags = (λ k. flags_told (q k) (z k)) ∙ (w.flags ∙ sym (ap (λ rs. flags_told rs c) splice_last_row));
      }

  -- the count of units decides if they are too many
  pub joined_over : overfull (change_tail (add_units j us) (held_of m)) ≡ ltb 32768 (length (held m.units) + length us)
  joined_over =
      let N : List PatchRow = with_action r (SpliceText i (n + length us)) ∷ drop 1 (newest m.rows) in
      let w = joined N (more (parts_of m) p us) refl refl in
      let k = ap length e in
      let b = within m in
      sym (ap overfull w.told)
      ∙ (overfull_told N (more (parts_of m) p us) w.laid
      ∙ (ap (λ u. passes (length N) (length (held m.values)) u (length (held m.bytes))) (length_splice (held m.units) us p)
      ∙ units_decide (length N) (length (held m.values)) (length (held m.units) + length us) (length (held m.bytes)) (omega (arith, k, b.newest)) b.values b.bytes))
