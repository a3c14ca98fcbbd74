-- Entering the objects that rows name into marks.
use Rattle.std.proofs.Common.{◌≡◌, ℕ, zero, suc, ◌+◌, ◌<◌, ◌≤◌, Bool, true, false, not, ◌&&◌, eqb, ltb, ◌≢◌, ◌⊎◌, List, [], ◌∷◌, ◌++◌, length, get_or, drop, set, replicate, Some, sym, refl, ap, ◌∙◌, subst, inl, inr, arith}
use mathlib.Core.Option.{Option, none, some}
use Rattle.std.proofs.lemmas.List.{get_or-set_same, get_or-set_other, drop_all}
use Rattle.std.proofs.lemmas.Bool.{and_parts, and_right, cond-true, cond-false, cases_Bool, cases_order, cases_lt, eqb-true, eq-eqb, ne_eqb}
use Rattle.meaning.specs.Lists.{memb}
use Rattle.meaning.specs.Entries.{Key, Entry, Ref, ref_rank}
use Rattle.meaning.specs.Documents.{Obj, Doc, name, find}
use Rattle.document.specs.Places.{first, nth}
use Rattle.document.specs.Laws.{same_kind, rises, refs_of, belongs, ref_ok, named}
use Rattle.document.specs.Marks.{under, name_at, Marked, Later, ClearAt, LaterAt, Names, Enters, refs_at}
use Rattle.document.specs.Nothing.{no_obj}
use Rattle.document.proofs.Walks.{nth_is, nth_past, drop_next}
use Rattle.document.proofs.Search.{rising}

pub find_name : (d : Doc) (x : ℕ) (o : Obj) → find d x ≡ some o → name o ≡ x
find_name [] x o e = let z : ◌≡◌ {A = ℕ} 0 1 = cc in absurd (omega arith)
find_name (p ∷ ps) x o e = elim (cases_Bool (eqb x (name p))) [
  | inl h ↦ let q : ◌≡◌ {A = Option Obj} (some p) (some o) = sym (cond-true (eqb x (name p)) (some p) (find ps x) h) ∙ e in let s : p ≡ o = cc in let k = eqb-true x (name p) h in ap name (sym s) ∙ sym k
  | inr h ↦ find_name ps x o (sym (cond-false (eqb x (name p)) (some p) (find ps x) h) ∙ e)
]

module _ (d : Doc) (owner : ℕ) (r : Ref) (marks : List Bool) (seen : List ℕ) (so : Marked d owner marks seen) (j : ℕ) (place : Names d owner r (Some j)) where
  there : find d (ref_rank r) ≡ some (get_or d j no_obj)
  there = place.2 ∙ nth_is d j no_obj place.1

  called : name_at d j ≡ ref_rank r
  called = find_name d (ref_rank r) (get_or d j no_obj) there

  owned : under d j ≡ owner
  owned =
      let a = and_parts (ltb 0 (ref_rank r)) (belongs owner r.kind (find d (ref_rank r))) place.0 in
      let b = and_parts (same_kind (get_or d j no_obj).kind r.kind) (eqb (under d j) owner) (sym (ap (belongs owner r.kind) there) ∙ a.1) in
      eqb-true _ _ b.1

  seen_is : get_or marks j false ≡ memb (ref_rank r) seen
  seen_is = (so j place.1).0 owned ∙ ap (λ x. memb x seen) called

  pub twice : get_or marks j false ≡ true → Enters d owner seen (r ∷ []) marks false
  twice h rest =
      and_right (ref_ok d owner r) (not (memb (ref_rank r) seen) && named d owner (ref_rank r ∷ seen) rest)
      (ap (λ b. not b && named d owner (ref_rank r ∷ seen) rest) (sym seen_is ∙ h))

  pub enters : rises d ≡ true → length d ≤ length marks → get_or marks j false ≡ false → Enters d owner seen (r ∷ []) (set marks j true) true
  enters up room h = (ref_rank r ∷ seen, (λ k l. one k l (cases_order k j)), λ rest. after rest)
    where
      after : (rest : List Ref) → (ref_ok d owner r && (not (memb (ref_rank r) seen) && named d owner (ref_rank r ∷ seen) rest)) ≡ named d owner (ref_rank r ∷ seen) rest
      after rest =
          ap (λ b. b && (not (memb (ref_rank r) seen) && named d owner (ref_rank r ∷ seen) rest)) place.0
          ∙ ap (λ b. not b && named d owner (ref_rank r ∷ seen) rest) (sym seen_is ∙ h)

      one : (k : ℕ) → k < length d → (k ≡ j) ⊎ ((k < j) ⊎ (j < k)) → (under d k ≡ owner → get_or (set marks j true) k false ≡ memb (name_at d k) (ref_rank r ∷ seen)) × (owner < under d k → get_or (set marks j true) k false ≡ false)
      one k l (inl e) = (
        λ u. ap (λ n. get_or (set marks j true) n false) e
            ∙ (get_or-set_same marks j true false (let z = place.1 in omega arith)
            ∙ sym (cond-true (eqb (name_at d k) (ref_rank r)) true (memb (name_at d k) seen) (eq-eqb _ _ (ap (name_at d) e ∙ called)))),
        λ u. absurd (let z = owned in let y = ap (under d) e in omega arith),
      )
      one k l (inr s) =
          let m = place.1 in
          let ne : k ≢ j = elim s [ inl m ↦ (λ q. omega arith) | inr m ↦ (λ q. omega arith) ] in
          let other : name_at d k ≡ ref_rank r → ⊥ = λ q. elim s [ inl m ↦ (let z = rising d up k j m place.1 in let y = called in omega arith) | inr m ↦ (let z = rising d up j k m l in let y = called in omega arith) ] in (
            λ u. get_or-set_other marks j k true false ne ∙ ((so k l).0 u ∙ sym (cond-false (eqb (name_at d k) (ref_rank r)) true (memb (name_at d k) seen) (ne_eqb _ _ other))),
            λ u. get_or-set_other marks j k true false ne ∙ (so k l).1 u,
          )

-- along a row
refs_first : (ps : List (Key × Entry)) → refs_of ps ≡ refs_at (first ps) ++ refs_of (drop 1 ps)
refs_first [] = refl
refs_first (p ∷ ps) = refl

refs_step : (ps : List (Key × Entry)) (n : ℕ) → refs_of (drop n ps) ≡ refs_at (nth ps n) ++ refs_of (drop (n + 1) ps)
refs_step ps n = refs_first (drop n ps) ∙ ap (λ qs. refs_at (nth ps n) ++ refs_of qs) (sym (drop_next ps n))

-- what was seen so far in a row, by the marks
pub record Going (d : Doc) (owner : ℕ) (ps : List (Key × Entry)) (n : ℕ) (marks : List Bool) : Type 0 where
  pub seen : List ℕ
  pub marked : Marked d owner marks seen
  pub rest : named d owner [] (refs_of ps) ≡ named d owner seen (refs_of (drop n ps))

module _ (d : Doc) (owner : ℕ) (ps : List (Key × Entry)) (n : ℕ) (marks : List Bool) (so : Going d owner ps n marks) where
  here : named d owner [] (refs_of ps) ≡ named d owner so.seen (refs_at (nth ps n) ++ refs_of (drop (n + 1) ps))
  here = so.rest ∙ ap (named d owner so.seen) (refs_step ps n)

  pub goes_on : (next : List Bool) (t : Bool) → Enters d owner so.seen (refs_at (nth ps n)) next t → t ≡ true → Going d owner ps (n + 1) next
  goes_on next true e h = record { seen = e.0; marked = e.1; rest = here ∙ e.2 (refs_of (drop (n + 1) ps)) }
  goes_on next false e h = let z : ◌≡◌ {A = ℕ} 0 1 = cc in absurd (omega arith)

  pub stops : (next : List Bool) (t : Bool) → Enters d owner so.seen (refs_at (nth ps n)) next t → t ≡ false → false ≡ named d owner [] (refs_of ps)
  stops next true e h = let z : ◌≡◌ {A = ℕ} 0 1 = cc in absurd (omega arith)
  stops next false e h = sym (here ∙ e (refs_of (drop (n + 1) ps)))

  pub all_named : length ps ≤ n → true ≡ named d owner [] (refs_of ps)
  all_named h = sym (so.rest ∙ ap (λ qs. named d owner so.seen (refs_of qs)) (drop_all n ps h))

  pub later : Later d owner marks
  later j l u = (so.marked j l).1 u

-- from row to row
pub next_clear : (d : Doc) (i : ℕ) (marks : List Bool) → rises d ≡ true → LaterAt d (nth d i) marks → ClearAt d (nth d (i + 1)) marks
next_clear d i marks up h = elim (cases_lt (i + 1) (length d)) [
  | inl l ↦
      subst (λ x. ClearAt d x marks) (sym (nth_is d (i + 1) no_obj l))
      (λ j m u. let q : Later d (name_at d i) marks = subst (λ x. LaterAt d x marks) (nth_is d i no_obj (omega arith)) h in
      let z = rising d up i (i + 1) (omega arith) l in q j m (omega arith))
  | inr l ↦ subst (λ x. ClearAt d x marks) (sym (nth_past d (i + 1) l)) tt
]

pub enters_none : (d : Doc) (owner : ℕ) (marks : List Bool) (seen : List ℕ) → Marked d owner marks seen → Enters d owner seen [] marks true
enters_none d owner marks seen so = (seen, so, λ rest. refl)

-- nothing is marked at first
pub none_marked : (d : Doc) (x : Option Obj) (marks : List Bool) → ((j : ℕ) → get_or marks j false ≡ false) → ClearAt d x marks
none_marked d none marks h = tt
none_marked d (some o) marks h = λ j l u. h j

pub unmarked : (n j : ℕ) → get_or (replicate n false) j false ≡ false
unmarked zero j = refl
unmarked (suc n) zero = refl
unmarked (suc n) (suc j) = unmarked n j
