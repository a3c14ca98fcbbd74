-- The examples, by computing.
use Rattle.std.proofs.Common.{◌≡◌, ℕ, false, List, [], ◌∷◌, Ok, sym, refl, ap, ◌∙◌, subst, inl, inr, arith}
use mathlib.Core.Option.{some}
use Rattle.types.specs.declared.types.ObjType.TheVariants.{List as Sequence}
use Rattle.text_value.specs.Rfc3629.{utf8, octets}
use Rattle.text_value.specs.Units.{byte_units}
use Rattle.meaning.specs.Lists.{In}
use Rattle.meaning.specs.Entries.{Ref, Item, object}
use Rattle.meaning.specs.Rows.{Row, map_of, refs}
use Rattle.meaning.specs.Documents.{Obj, find, Lawful}
use Rattle.meaning.specs.Log.{log_after}
use Rattle.meaning.specs.Kept.{Tag, old, new, replayed, LeadsRow, Kept, root, stays, LeadsRows}
use Rattle.meaning.specs.Examples.{obj, placing, root_with, put_list, empty_doc, listed, WorkedCases, JoiningSample, LawsAreNeeded}
use Rattle.meaning.proofs.Tests.{some_inj, ok_inj}

pub worked_cases : WorkedCases
unfolding utf8 octets
worked_cases =
    record {
      same_place = refl;
      next_place = refl;
      too_far = refl;
      before = refl;
      emptied = refl;
      past_the_end = refl;
      deletions = refl;
      in_bytes = refl;
      in_points = refl;
      exposed_list = refl;
    }

joining_sample_lem : JoiningSample
unfolding utf8 octets
joining_sample_lem =
    record {
      narrow = ((λ t us r. refl), λ u e. ((λ t us r. refl), λ v f. ((λ t us r. tt), λ w g. tt)));
      own = refl;
      three = refl;
      one = refl;
    }

-- the root's row after the log's events
abbrev end_row : Row (List ℕ) (Item Tag)
end_row = map_of ((107 ∷ [], object (new (record { kind = Sequence; object = obj 4 })) false) ∷ [])

lawful_empty : Lawful empty_doc
unfolding utf8 octets
lawful_empty =
    record {
      rising = (tt, tt);
      rooted = (root_with [], refl, refl);
      children = ((λ h. absurd (omega arith)), tt);
      entries = (tt, tt);
      apart = (tt, tt);
      shapes = (tt, tt);
      keys = (tt, tt);
      good_keys = (tt, tt);
      good_entries = (tt, tt);
      good_texts = (tt, tt);
      objects = omega arith;
      bounded = refl;
    }

lawful_listed : Lawful listed
unfolding utf8 octets
lawful_listed =
    record {
      rising = ((omega arith, tt), (tt, tt));
      rooted = (_, refl, refl);
      children = ((λ h. absurd (omega arith)), ((λ h. (omega arith, _, refl, omega arith)), tt));
      entries = (((omega arith, _, refl, refl, refl), tt), (tt, tt));
      apart = (((λ m. m), tt), (tt, tt));
      shapes = (tt, (tt, tt));
      keys = ((tt, tt), (tt, tt));
      good_keys = (((omega arith, refl), tt), (tt, tt));
      good_entries = (((omega arith, omega arith, refl), tt), (((omega arith, omega arith, refl), tt), tt));
      good_texts = (tt, (tt, tt));
      objects = omega arith;
      bounded = refl;
    }

row_is : (a : Obj) (ρ : Row (List ℕ) (Item Tag)) → find empty_doc 0 ≡ some a → replayed byte_units (log_after put_list) a ≡ Ok ρ → end_row ≡ ρ
unfolding utf8 octets
row_is a ρ e h =
    let k : root_with [] ≡ a = some_inj e in
    let j : replayed byte_units (log_after put_list) (root_with []) ≡ Ok ρ = subst (λ (x : Obj). replayed byte_units (log_after put_list) x ≡ Ok ρ) (sym k) h in
    ok_inj (replayed byte_units (log_after put_list) (root_with [])) end_row ρ refl j

not_old : (r : Ref) → In (old r) (refs end_row) → ⊥
not_old r (inl e) = let z : ◌≡◌ {A = ℕ} 0 1 = cc in omega arith
not_old r (inr m) = m

only_root : (i : ℕ) → Kept byte_units (log_after put_list) empty_doc i → i ≡ 0
only_root i root = refl
only_root i (stays {i = j} k a e ρ h r m) =
    let z : j ≡ 0 = only_root j k in
    let w : end_row ≡ ρ = row_is a ρ (ap (find empty_doc) (sym z) ∙ e) h in
    absurd (not_old r (subst (λ x. In (old r) (refs x)) (sym w) m))

leads : LeadsRows byte_units (log_after put_list) empty_doc listed
unfolding utf8 octets
leads i a b k ea eb =
    let z : i ≡ 0 = only_root i k in
    let ka : root_with [] ≡ a = some_inj (ap (find empty_doc) (sym z) ∙ ea) in
    let kb : root_with ((107 ∷ [], placing Sequence 4) ∷ []) ≡ b = some_inj (ap (find listed) (sym z) ∙ eb) in
    let t : LeadsRow byte_units (log_after put_list) (root_with []) (root_with ((107 ∷ [], placing Sequence 4) ∷ [])) = (end_row, refl, refl, (inl refl, tt)) in
    subst (λ (x : Obj). LeadsRow byte_units (log_after put_list) a x) kb (subst (λ (x : Obj). LeadsRow byte_units (log_after put_list) x (root_with ((107 ∷ [], placing Sequence 4) ∷ []))) ka t)

pub laws_are_needed : LawsAreNeeded
unfolding utf8 octets
laws_are_needed =
    record {
      joining_sample = joining_sample_lem;
      carrying_sample = record { lawful_a = lawful_empty; lawful_b = lawful_listed; leads = leads; made = refl };
      wide_insert = record { own = refl; together = refl };
      refused_own = record { own = refl; together = refl };
      old_exposed = record { rows = refl; ended = refl; wanted = refl };
      new_unexposed = record { rows = refl; ended = refl; wanted = refl };
      two_entries = record { rows = refl; ended = refl; wanted = refl };
    }
