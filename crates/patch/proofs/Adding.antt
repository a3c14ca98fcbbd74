-- A call's own patch added to those held.
use Rattle.std.proofs.Common.{◌≡◌, ℕ, suc, ◌+◌, ◌<◌, ◌≤◌, Bool, true, false, cond, ltb, List, [], ◌∷◌, ◌++◌, length, drop, Ok, Err, sym, refl, ap, ◌∙◌, arith, length-append}
use mathlib.Core.Option.{Option, none, some}
use Rattle.std.proofs.lemmas.List.{length-reverse}
use Rattle.std.proofs.lemmas.Bool.{lt-ltb, le-ltb}
use Rattle.sequence_tree.specs.Sequences.{held}
use Rattle.types.specs.declared.types.ObjId.{ObjId}
use Rattle.types.specs.declared.error.Refusal.{Refusal}
use Rattle.types.specs.declared.error.Refusal.TheVariants.{PathTooDeep, Full}
use Rattle.patch.specs.declared.rows.StepRow.{StepRow}
use Rattle.patch.specs.declared.rows.PatchRow.{PatchRow}
use Rattle.meaning.specs.Results.{first_of}
use Rattle.meaning.specs.Patches.{Step, Patch}
use Rattle.meaning.specs.Calls.{Call}
use Rattle.meaning.specs.Builder.{overfull}
use Rattle.patch_call.specs.Contents.{call_key, call_data}
use Rattle.patch_call.specs.Refused.{answer, early, early_tests}
use Rattle.patch.specs.Rows.{prop_len, steps_len, steps_told}
use Rattle.patch.specs.Told.{Parts, plus, told, wide_flags, flags_told, laid, passes}
use Rattle.patch.specs.Sound.{newest}
use Rattle.patch.specs.Held.{parts_of, held_of, flags_of}
use Rattle.patch.specs.declared.memory.PatchMemory.{PatchMemory}
use Rattle.patch.specs.Made.{call_values, call_units, row_made, parts_made, with_own, appending, late, late_tests}
use Rattle.patch.proofs.Tell.{told_added, flags_added, laid_added, overfull_told}
use Rattle.patch.proofs.Own.{fits_own, patch_own}

pub steps_count : (ss : List StepRow) (bs : List ℕ) → length (steps_told ss bs) ≡ length ss
steps_count [] bs = refl
steps_count (s ∷ ss) bs = ap suc (steps_count ss (drop (prop_len s.prop) bs))

-- rows R and parts P are those of m with a call's own patch
pub record Stored {U : Type 0} (m : PatchMemory U) (o : ObjId) (ss : List StepRow) (ks : List ℕ) (c : Call) (us : List U) (w : Bool) (R : List PatchRow) (P : Parts U) : Type 0 where
  pub laid : laid R P ≡ true
  pub told : told R P ≡ with_own o (steps_told ss ks) c us (held_of m)
  pub flags : flags_told R P ≡ wide_flags (call_values c w) ∷ flags_of m

module _ {U : Type 0} (m : PatchMemory U) (o : ObjId) (ss : List StepRow) (ks : List ℕ) (c : Call) (us : List U) (w : Bool) (whole : steps_len ss ≡ length ks) (few : length ss ≤ 16) where
  pub stored : (R : List PatchRow) (P : Parts U) → R ≡ row_made o ss ks c (length us) w ∷ newest m.rows → P ≡ plus (parts_of m) (parts_made ss ks c us w) → Stored m o ss ks c us w R P
  stored R P r p =
      let f = fits_own o ss ks c us w whole few in
      record {
        laid = (λ i. laid (r i) (p i)) ∙ laid_added (row_made o ss ks c (length us) w) (newest m.rows) (parts_of m) (parts_made ss ks c us w) f m.shared;
        told = (λ i. told (r i) (p i)) ∙ (told_added (row_made o ss ks c (length us) w) (newest m.rows) (parts_of m) (parts_made ss ks c us w) f ∙ ap (λ x. x ∷ held_of m) (patch_own o ss ks c us w whole));
        flags = (λ i. flags_told (r i) (p i)) ∙ flags_added (row_made o ss ks c (length us) w) (newest m.rows) (parts_of m) (parts_made ss ks c us w) f;
      }

  pub over_own : overfull (with_own o (steps_told ss ks) c us (held_of m))
      ≡ passes (length (held m.rows) + 1) (length (held m.values) + length (call_values c w)) (length (held m.units) + length (call_units c us)) (length (held m.bytes) + (length ks + (length (call_key c) + length (call_data c))))
  over_own =
      let R : List PatchRow = row_made o ss ks c (length us) w ∷ newest m.rows in
      let P : Parts U = plus (parts_of m) (parts_made ss ks c us w) in
      let s = stored R P refl refl in
      let n = length-reverse (held m.rows) in
      let a : length R ≡ length (held m.rows) + 1 = omega arith in
      let z : length P.bytes ≡ length (held m.bytes) + (length ks + (length (call_key c) + length (call_data c))) = simp length-append refl in
      sym (ap overfull s.told)
      ∙ (overfull_told R P s.laid
      ∙ (λ i. passes (a i) (length-append (held m.values) (call_values c w) i) (length-append (held m.units) (call_units c us) i) (z i)))

-- the answers, by the tests
module _ {U : Type 0} (o : ObjId) (ss : List StepRow) (ks : List ℕ) (c : Call) (us : List U) (held : List (Patch U)) where
  pub late_deep : 16 < length ss → Err PathTooDeep ≡ answer (late o (steps_told ss ks) c us held)
  late_deep h =
      let t : ltb 16 (length (steps_told ss ks)) ≡ true = lt-ltb 16 _ (omega (arith, steps_count ss ks)) in
      sym (ap (λ x. answer (cond x (some PathTooDeep) (cond (overfull (with_own o (steps_told ss ks) c us held)) (some Full) none))) t)

  pub late_full : length ss ≤ 16 → (t : Bool) → overfull (with_own o (steps_told ss ks) c us held) ≡ t → answer (late o (steps_told ss ks) c us held) ≡ answer (cond t (some Full) none)
  late_full h t e =
      let d : ltb 16 (length (steps_told ss ks)) ≡ false = le-ltb 16 _ (omega (arith, steps_count ss ks)) in
      ap (λ x. answer (cond x (some PathTooDeep) (cond (overfull (with_own o (steps_told ss ks) c us held)) (some Full) none))) d
      ∙ ap (λ x. answer (cond x (some Full) none)) e

-- tests in a row: the first that fits, of the first ones or else of the others
abbrev or_else : Option Refusal → Option Refusal → Option Refusal
or_else none b = b
or_else (some a) b = some a

first_append : (xs ys : List (Bool × Refusal)) → first_of (xs ++ ys) ≡ or_else (first_of xs) (first_of ys)
first_append [] ys = refl
first_append (x ∷ xs) ys = go x.0 (first_append xs ys)
  where
    go : (t : Bool) → first_of (xs ++ ys) ≡ or_else (first_of xs) (first_of ys) → cond t (some x.1) (first_of (xs ++ ys)) ≡ or_else (cond t (some x.1) (first_of xs)) (first_of ys)
    go true e = refl
    go false e = e

module _ {U : Type 0} (o : ObjId) (s : List Step) (c : Call) (us : List U) (held : List (Patch U)) where
  both : appending o s c us held ≡ or_else (early o c) (late o s c us held)
  both = first_append (early_tests o c) (late_tests o s c us held)

  pub refused_early : (e : Refusal) → Err e ≡ answer (early o c) → Err e ≡ answer (appending o s c us held)
  refused_early e h = go (early o c) h ∙ ap answer (sym both)
    where
      go : (x : Option Refusal) → Err e ≡ answer x → Err e ≡ answer (or_else x (late o s c us held))
      go none q = cc
      go (some f) q = q

  pub passed_early : (x : Unit {0}) → Ok x ≡ answer (early o c) → answer (late o s c us held) ≡ answer (appending o s c us held)
  passed_early x h = go (early o c) h ∙ ap answer (sym both)
    where
      go : (y : Option Refusal) → Ok x ≡ answer y → answer (late o s c us held) ≡ answer (or_else y (late o s c us held))
      go none q = refl
      go (some f) q = cc
