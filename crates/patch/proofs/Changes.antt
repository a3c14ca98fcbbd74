-- The last row, and what a change of it does to the patches held.
use Rattle.std.proofs.Common.{◌≡◌, ℕ, ◌+◌, ◌-◌, ◌<◌, true, List, [], ◌∷◌, ◌++◌, reverse, length, get_or, take, drop, Some, None, Option, sym, refl, ap, ◌∙◌, arith, length-drop, take-append-drop}
use Rattle.std.specs.List.{slice_get}
use Rattle.std.proofs.lemmas.List.{reverse-append, length-reverse, get_or-reverse, drop_at, drop_all}
use Rattle.std.proofs.lemmas.Option.{slice_get-get_or}
use Rattle.std.proofs.lemmas.Bool.{and_parts}
use Rattle.sequence_tree.specs.Sequences.{held}
use Rattle.sequence_tree.specs.Lists.{spliced}
use Rattle.patch.specs.declared.rows.PatchRow.{PatchRow}
use Rattle.patch.specs.declared.memory.PatchMemory.{PatchMemory}
use Rattle.meaning.specs.Patches.{Action}
use Rattle.patch.specs.Told.{Parts, block, told, flags_told, fits_row, laid}
use Rattle.patch.specs.Sound.{newest}
use Rattle.patch.specs.Held.{parts_of}
use Rattle.patch.specs.Edits.{change_tail}
use Rattle.patch.specs.Tails.{TailHeld}
use Rattle.patch.proofs.Walks.{nth_none, nth_some}

-- the last of a list is the first of it reversed
last_first : {X : Type 0} (xs : List X) → slice_get (reverse xs) 0 ≡ slice_get xs (length xs - 1)
last_first [] = refl
last_first (x ∷ xs) =
    let l = length-reverse (x ∷ xs) in
    let k : length (x ∷ xs) - 1 - 0 ≡ length (x ∷ xs) - 1 = omega arith in
    slice_get-get_or (reverse (x ∷ xs)) 0 x (omega arith)
    ∙ (ap (λ y. Some y) (get_or-reverse (x ∷ xs) 0 x (omega arith) ∙ ap (λ i. get_or (x ∷ xs) i x) k)
    ∙ sym (slice_get-get_or (x ∷ xs) (length (x ∷ xs) - 1) x (omega arith)))

-- all but the last, by the newest first
older : {X : Type 0} (xs : List X) → 0 < length xs → drop 1 (reverse xs) ≡ reverse (take (length xs - 1) xs)
older xs h =
    let n : ℕ = length xs - 1 in
    let a : reverse xs ≡ reverse (drop n xs) ++ reverse (take n xs) =
    sym (ap reverse (take-append-drop n xs)) ∙ reverse-append (take n xs) (drop n xs) in
    let d : length (reverse (drop n xs)) ≡ 1 = length-reverse (drop n xs) ∙ (length-drop n xs ∙ (let z : length xs - (length xs - 1) ≡ 1 = omega arith in z)) in
    ap (drop 1) a ∙ drop_at (reverse (drop n xs)) (reverse (take n xs)) 1 d

pub set_newest : {X : Type 0} (xs zs : List X) (y : X) → 0 < length xs → zs ≡ spliced xs (length xs - 1) 1 (y ∷ []) → reverse zs ≡ y ∷ drop 1 (reverse xs)
set_newest xs zs y h e =
    let n : ℕ = length xs - 1 in
    let d : drop (n + 1) xs ≡ [] = drop_all (n + 1) xs (omega arith) in
    ap reverse (e ∙ ap (λ w. take n xs ++ (y ∷ w)) d)
    ∙ (reverse-append (take n xs) (y ∷ []) ∙ ap (λ w. y ∷ w) (sym (older xs h)))

pub tail_held : {U : Type 0} (m : PatchMemory U) (t : Option PatchRow) → t ≡ slice_get (held m.rows) (length (held m.rows) - 1) → TailHeld m t
tail_held m None h = ap (λ rs. told rs (parts_of m)) (nth_none (newest m.rows) 0 (last_first (held m.rows) ∙ sym h))
tail_held m (Some r) h =
    let e = nth_some (newest m.rows) 0 r (last_first (held m.rows) ∙ sym h) in
    (ap (λ rs. told rs (parts_of m)) e, (and_parts (fits_row r (block r (parts_of m))) _ (sym (ap (λ rs. laid rs (parts_of m)) e) ∙ m.shared)).0)

-- rows R become N, and their content c becomes d: the last patch is changed by f
pub record Changed {U : Type 0} (R N : List PatchRow) (c d : Parts U) (f : Action U → Action U) : Type 0 where
  pub laid : laid N d ≡ true
  pub told : told N d ≡ change_tail f (told R c)
  pub flags : flags_told N d ≡ flags_told R c
