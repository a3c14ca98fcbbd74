-- Patches that keep their bounds.
use Rattle.std.proofs.Common.{◌≡◌, ℕ, ◌≤◌, Bool, true, false, cond, not, ◌&&◌, eqb, leb, List, [], ◌∷◌, ◌++◌, reverse, length, take, drop, Ok, refl, ap, ◌∙◌, arith, length-take}
use mathlib.Core.Option.{Option, none, some}
use Rattle.std.proofs.lemmas.List.{reverse-append}
use Rattle.std.proofs.lemmas.Bool.{and_parts, and_from, or_parts, not-false, not_from_false, eqb-true, leb-true, le-leb, le-ltb}
use Rattle.types.specs.declared.types.ObjId.{ObjId}
use Rattle.types.specs.declared.error.Refusal.{Refusal}
use Rattle.types.specs.declared.value.PropOf.{PropOf}
use Rattle.types.specs.declared.value.PropOf.TheVariants.{Map, Seq}
use Rattle.patch.specs.declared.rows.StepRow.{StepRow}
use Rattle.meaning.specs.Results.{first_of}
use Rattle.meaning.specs.Lists.{Every}
use Rattle.meaning.specs.Entries.{Entry}
use Rattle.meaning.specs.Patches.{key, pos, Action, put_map, Patch}
use Rattle.meaning.specs.Documents.{well_spelt}
use Rattle.meaning.specs.Calls.{Call, put_call, insert_call, delete_seq_call, delete_map_call, increment_call, flag_call, splice_call, own_action, long_prop, long_entry, too_long, bad_encoding}
use Rattle.patch_call.specs.Refused.{answer, early_tests, early}
use Rattle.patch.specs.Rows.{prop_len, prop_told, steps_len, steps_told}
use Rattle.patch.specs.Paths.{short_rows, whole_path}
use Rattle.patch.specs.Made.{with_own}
use Rattle.patch.specs.Edits.{change_tail, flag_put, lengthen, add_units}
use Rattle.patch.specs.Fine.{short_steps, fine_entry, fine_action, fine_patch, all_fine}
use Rattle.patch.proofs.Adding.{steps_count}

module _ {U : Type 0} where
  pub fine_parts : (p : Patch U) (ps : List (Patch U)) → all_fine (p ∷ ps) ≡ true → (fine_patch p ≡ true) × (all_fine ps ≡ true)
  fine_parts p ps h = and_parts (fine_patch p) (all_fine ps) h

  pub fine_append : (ps qs : List (Patch U)) → all_fine (ps ++ qs) ≡ (all_fine ps && all_fine qs)
  fine_append [] qs = refl
  fine_append (p ∷ ps) qs = go (fine_patch p) (fine_append ps qs)
    where
      go : (t : Bool) → all_fine (ps ++ qs) ≡ (all_fine ps && all_fine qs) → (t && all_fine (ps ++ qs)) ≡ ((t && all_fine ps) && all_fine qs)
      go true e = e
      go false e = refl

  -- the order does not matter
  pub fine_reverse : (ps : List (Patch U)) → all_fine (reverse ps) ≡ all_fine ps
  fine_reverse [] = refl
  fine_reverse (p ∷ ps) =
      ap all_fine (reverse-append (p ∷ []) ps)
      ∙ (fine_append (reverse ps) (p ∷ [])
      ∙ (ap (λ t. t && all_fine (p ∷ [])) (fine_reverse ps) ∙ swap (all_fine ps) (fine_patch p)))
    where
      swap : (a b : Bool) → (a && (b && true)) ≡ (b && a)
      swap true true = refl
      swap true false = refl
      swap false true = refl
      swap false false = refl

  -- a change of the last patch that keeps the bounds
  pub fine_change : (f : Action U → Action U) → ((a : Action U) → fine_action (f a) ≡ fine_action a) → (ps : List (Patch U)) → all_fine (change_tail f ps) ≡ all_fine ps
  fine_change f h [] = refl
  fine_change f h (p ∷ ps) = ap (λ t. (leb (length p.path) 16 && (short_steps p.path && t)) && all_fine ps) (h p.action)

  pub flag_fine : (a : Action U) → fine_action (flag_put a) ≡ fine_action a
  flag_fine (put_map k e) = refl
  flag_fine a = refl

  pub length_fine : (m : ℕ) (a : Action U) → fine_action (lengthen m a) ≡ fine_action a
  length_fine m (put_map k e) = refl
  length_fine m a = refl

  pub units_fine : (j : ℕ) (us : List U) (a : Action U) → fine_action (add_units j us a) ≡ fine_action a
  units_fine j us (put_map k e) = refl
  units_fine j us a = refl

-- a path's keys
pub whole_parts : (ss : List StepRow) (ks : List ℕ) → whole_path ss ks ≡ true → (short_rows ss ≡ true) × (steps_len ss ≡ length ks)
whole_parts ss ks h = let p = and_parts (short_rows ss) (eqb (steps_len ss) (length ks)) h in (p.0, eqb-true _ _ p.1)

pub short_told : (ss : List StepRow) (bs : List ℕ) → short_rows ss ≡ true → short_steps (steps_told ss bs) ≡ true
short_told [] bs h = refl
short_told (s ∷ ss) bs h =
    let q = and_parts (leb (prop_len s.prop) 64) (short_rows ss) h in
    and_from _ _ (step s.prop (leb-true _ _ q.0)) (short_told ss (drop (prop_len s.prop) bs) q.1)
  where
    step : (p : PropOf ℕ) → prop_len p ≤ 64 → not (long_prop (prop_told p bs)) ≡ true
    step (Map n) l = not_from_false _ (le-ltb 64 (length (take n bs)) (let z = length-take n bs in omega arith))
    step (Seq i) l = refl

-- a call that is not refused by itself
none_fits : (xs : List (Bool × Refusal)) → first_of xs ≡ none → Every (λ (x : Bool × Refusal). x.0 ≡ false) xs
none_fits [] h = tt
none_fits (x ∷ xs) h = go x.0 refl h (none_fits xs)
  where
    go : (t : Bool) → x.0 ≡ t → cond t (some x.1) (first_of xs) ≡ none → (first_of xs ≡ none → Every (λ (y : Bool × Refusal). y.0 ≡ false) xs) → (x.0 ≡ false) × Every (λ (y : Bool × Refusal). y.0 ≡ false) xs
    go true e q f = cc
    go false e q f = (e, f q)

early_parts : (o : ObjId) (c : Call) → early o c ≡ none → (too_long c ≡ false) × (bad_encoding c ≡ false)
early_parts o c h = let q = none_fits (early_tests o c) h in (q.1.1.1.0, q.1.1.1.1.0)

entry_fine : (e : Entry) → long_entry e ≡ false → not (well_spelt e.content) ≡ false → fine_entry e ≡ true
entry_fine e l w = and_from _ _ (not_from_false _ l) (not-false _ w)

call_fine : {U : Type 0} (c : Call) (us : List U) → too_long c ≡ false → bad_encoding c ≡ false → fine_action (own_action (λ _. us) c) ≡ true
call_fine (put_call (key k) e) us l w = let p = or_parts _ _ l in and_from _ _ (not_from_false _ p.0) (entry_fine e p.1 (or_parts _ _ w).1)
call_fine (put_call (pos i) e) us l w = entry_fine e l w
call_fine (insert_call i e) us l w = and_from _ _ (entry_fine e l w) refl
call_fine (delete_seq_call i m) us l w = refl
call_fine (delete_map_call k) us l w = not_from_false _ l
call_fine (increment_call p m d) us l w = not_from_false _ l
call_fine (flag_call p) us l w = not_from_false _ l
call_fine (splice_call i t) us l w = refl

pub fine_own : {U : Type 0} (o : ObjId) (ss : List StepRow) (ks : List ℕ) (c : Call) (us : List U) (held : List (Patch U))
    → whole_path ss ks ≡ true → length ss ≤ 16 → early o c ≡ none → all_fine held ≡ true → all_fine (with_own o (steps_told ss ks) c us held) ≡ true
fine_own o ss ks c us held w n h f =
    let q = early_parts o c h in
    and_from _ _
    (and_from _ _ (le-leb (length (steps_told ss ks)) 16 (let z = steps_count ss ks in omega arith)) (and_from _ _ (short_told ss ks (whole_parts ss ks w).0) (call_fine c us q.0 q.1)))
    f

-- an answer that is no refusal
pub no_refusal : (x : Unit {0}) (r : Option Refusal) → Ok x ≡ answer r → r ≡ none
no_refusal x none h = refl
no_refusal x (some e) h = cc
