-- The path of an object, link by link.
use Rattle.std.proofs.Common.{◌≡◌, ℕ, zero, suc, ◌+◌, ◌<◌, ◌≤◌, eqb, List, [], ◌∷◌, ◌++◌, length, take, drop, set, Some, sym, refl, ap, ◌∙◌, subst, inl, inr, add-one, arith, length-append, length-set, take-suc-set}
use mathlib.Core.Option.{Option, none, some, map}
use Rattle.std.proofs.lemmas.List.{take_all, take-append-le, drop-set-lt}
use Rattle.std.proofs.lemmas.Bool.{cond-true, cond-false, cases_Bool, eqb-true, eqb-false, eq-eqb, ne_eqb}
use Rattle.types.specs.declared.types.ObjId.{ObjId}
use Rattle.meaning.specs.Results.{on_some}
use Rattle.meaning.specs.Lists.{Every}
use Rattle.meaning.specs.Entries.{rank}
use Rattle.meaning.specs.Patches.{Prop, Step}
use Rattle.meaning.specs.Documents.{Obj, Doc, name, find, items, seek, climb, path_of, Lawful}
use Rattle.document.specs.declared.view.Head.{Head}
use Rattle.document.specs.declared.step.PathStep.{PathStep}
use Rattle.document.specs.Places.{head_of, head_told}
use Rattle.document.specs.Paths.{prop_told, seek_told, step_seen, steps_seen, Linked, Written}
use Rattle.document.proofs.Walks.{drop_next}
use Rattle.document.proofs.Pairs.{head_some, head_none}
use Rattle.document.proofs.Marking.{find_name}

every_find : (P : Obj → Type 0) (d : Doc) (x : ℕ) (o : Obj) → Every P d → find d x ≡ some o → P o
every_find P [] x o h e = let z : ◌≡◌ {A = ℕ} 0 1 = cc in absurd (omega arith)
every_find P (q ∷ d) x o h e = elim (cases_Bool (eqb x (name q))) [
  | inl t ↦ let k : ◌≡◌ {A = Option Obj} (some q) (some o) = sym (cond-true (eqb x (name q)) (some q) (find d x) t) ∙ e in let s : q ≡ o = cc in subst P s h.0
  | inr t ↦ every_find P d x o h.1 (sym (cond-false (eqb x (name q)) (some q) (find d x) t) ∙ e)
]

-- parents come earlier
parent_earlier : (d : Doc) → Lawful d → (x : ℕ) (o : Obj) → find d x ≡ some o → 0 < x → rank o.parent < x
parent_earlier d l x o e h =
    let n = find_name d x o e in
    let c = every_find (λ (o : Obj). 0 < name o → (0 < o.ident.0.counter) × (q : Obj) × (find d (rank o.parent) ≡ some q) × (rank o.parent < name o)) d x o l.children e (omega arith) in
    let k = c.3 in omega arith

abbrev after : ObjId → Prop → List Step → List Step
after o s p = p ++ (record { leaves = o; prop = s } ∷ [])

-- what comes before a step does not hang on how many steps are allowed, if they are enough
abbrev rest : Doc → ℕ → ℕ → Option (List Step)
rest d n i = on_some (find d i) (λ c. on_some (find d (rank c.parent)) (λ q. on_some (seek i (items q)) (λ s. map (after q.ident s) (climb d n (rank c.parent)))))

module _ (d : Doc) (law : Lawful d) where
  rest_by : (n m i : ℕ) → 0 < i → ((p : ℕ) → p < i → climb d n p ≡ climb d m p) → rest d n i ≡ rest d m i
  rest_by n m i h ih = go (find d i) refl
    where
      go : (x : Option Obj) → find d i ≡ x
          → on_some x (λ c. on_some (find d (rank c.parent)) (λ q. on_some (seek i (items q)) (λ s. map (after q.ident s) (climb d n (rank c.parent)))))
          ≡ on_some x (λ c. on_some (find d (rank c.parent)) (λ q. on_some (seek i (items q)) (λ s. map (after q.ident s) (climb d m (rank c.parent)))))
      go none e = refl
      go (some c) e = ap (λ t. on_some (find d (rank c.parent)) (λ q. on_some (seek i (items q)) (λ s. map (after q.ident s) t))) (ih (rank c.parent) (parent_earlier d law i c e h))

  climb_root : (n i : ℕ) → i ≡ 0 → climb d n i ≡ some []
  climb_root zero i e = cond-true (eqb i 0) (some []) none (eq-eqb i 0 e)
  climb_root (suc n) i e = cond-true (eqb i 0) (some []) (rest d n i) (eq-eqb i 0 e)

  climb_on : (n i : ℕ) → (i ≡ 0 → ⊥) → climb d (suc n) i ≡ rest d n i
  climb_on n i h = cond-false (eqb i 0) (some []) (rest d n i) (ne_eqb i 0 h)

  climb_same : (n m i : ℕ) → i ≤ n → i ≤ m → climb d n i ≡ climb d m i
  climb_same zero m i a b = climb_root zero i (omega arith) ∙ sym (climb_root m i (omega arith))
  climb_same (suc n) zero i a b = climb_root (suc n) i (omega arith) ∙ sym (climb_root zero i (omega arith))
  climb_same (suc n) (suc m) i a b = elim (cases_Bool (eqb i 0)) [
    | inl t ↦ climb_root (suc n) i (eqb-true i 0 t) ∙ sym (climb_root (suc m) i (eqb-true i 0 t))
    | inr t ↦ climb_on n i (eqb-false i 0 t) ∙ (rest_by n m i (let q = eqb-false i 0 t in omega arith) (λ p l. climb_same n m p (omega arith) (omega arith)) ∙ sym (climb_on m i (eqb-false i 0 t)))
  ]

  path_rest : (n i : ℕ) → 0 < i → i ≤ n → climb d i i ≡ rest d n i
  path_rest n i h l = climb_same i (suc n) i (omega arith) (omega arith) ∙ climb_on n i (λ e. omega arith)

  -- at most as many steps as are allowed
  rest_length : (n i : ℕ) (x : Option Obj) → ((p : ℕ) (ps : List Step) → climb d n p ≡ some ps → length ps ≤ n) → (ps : List Step)
      → on_some x (λ c. on_some (find d (rank c.parent)) (λ q. on_some (seek i (items q)) (λ s. map (after q.ident s) (climb d n (rank c.parent))))) ≡ some ps → length ps ≤ suc n
  rest_length n i none ih ps e = let z : ◌≡◌ {A = ℕ} 0 1 = cc in absurd (omega arith)
  rest_length n i (some c) ih ps e = go (find d (rank c.parent)) e
    where
      last : (o : ObjId) (s : Prop) (t : Option (List Step)) → climb d n (rank c.parent) ≡ t → map (after o s) t ≡ some ps → length ps ≤ suc n
      last o s none f e = let z : ◌≡◌ {A = ℕ} 0 1 = cc in absurd (omega arith)
      last o s (some p) f e =
          let k : after o s p ≡ ps = cc in
          let l = ih (rank c.parent) p f in
          omega (arith, l, length-append p (record { leaves = o; prop = s } ∷ []), ap length k)

      found : (o : ObjId) (t : Option Prop) → on_some t (λ s. map (after o s) (climb d n (rank c.parent))) ≡ some ps → length ps ≤ suc n
      found o none e = let z : ◌≡◌ {A = ℕ} 0 1 = cc in absurd (omega arith)
      found o (some s) e = last o s (climb d n (rank c.parent)) refl e

      go : (y : Option Obj) → on_some y (λ q. on_some (seek i (items q)) (λ s. map (after q.ident s) (climb d n (rank c.parent)))) ≡ some ps → length ps ≤ suc n
      go none e = let z : ◌≡◌ {A = ℕ} 0 1 = cc in absurd (omega arith)
      go (some q) e = found q.ident (seek i (items q)) e

  climb_length : (n i : ℕ) (ps : List Step) → climb d n i ≡ some ps → length ps ≤ n
  climb_length zero i ps e = elim (cases_Bool (eqb i 0)) [
    | inl t ↦ let q : ◌≡◌ {A = Option (List Step)} (some []) (some ps) = sym (cond-true (eqb i 0) (some []) none t) ∙ e in let s : [] ≡ ps = cc in omega (arith, ap length s)
    | inr t ↦ let q : ◌≡◌ {A = Option (List Step)} none (some ps) = sym (cond-false (eqb i 0) (some []) none t) ∙ e in let z : ◌≡◌ {A = ℕ} 0 1 = cc in absurd (omega arith)
  ]
  climb_length (suc n) i ps e = elim (cases_Bool (eqb i 0)) [
    | inl t ↦ let q : ◌≡◌ {A = Option (List Step)} (some []) (some ps) = sym (cond-true (eqb i 0) (some []) (rest d n i) t) ∙ e in let s : [] ≡ ps = cc in omega (arith, ap length s)
    | inr t ↦ rest_length n i (find d i) (λ p ps e. climb_length n p ps e) ps (sym (cond-false (eqb i 0) (some []) (rest d n i) t) ∙ e)
  ]

  -- one link
  by_child : (i : ℕ) (c : Obj) → 0 < i → find d i ≡ some c
      → climb d i i ≡ on_some (find d (rank c.parent)) (λ q. on_some (seek i (items q)) (λ s. map (after q.ident s) (climb d (rank c.parent) (rank c.parent))))
  by_child i c h e =
      let l = parent_earlier d law i c e h in
      path_rest i i h (omega arith)
      ∙ (ap (λ x. on_some x (λ (c : Obj). on_some (find d (rank c.parent)) (λ q. on_some (seek i (items q)) (λ s. map (after q.ident s) (climb d i (rank c.parent)))))) e
      ∙ ap (λ t. on_some (find d (rank c.parent)) (λ q. on_some (seek i (items q)) (λ s. map (after q.ident s) t))) (climb_same i (rank c.parent) (rank c.parent) (omega arith) (omega arith)))

  told : (x : Option Obj) (h : Head) → Some h ≡ head_told x → (c : Obj) × (x ≡ some c) × (h ≡ head_of c)
  told none h e = absurd (head_none h e)
  told (some c) h e = (c, refl, head_some c h e)

  module _ (o : ObjId) (above : 0 < rank o) (h : Head) (is : Some h ≡ head_told (find d (rank o))) where
    child : (c : Obj) × (find d (rank o) ≡ some c) × (h ≡ head_of c)
    child = told (find d (rank o)) h is

    by_head : path_of d o ≡ on_some (find d (rank h.parent)) (λ q. on_some (seek (rank o) (items q)) (λ s. map (after q.ident s) (climb d (rank h.parent) (rank h.parent))))
    by_head = subst (λ (h : Head). path_of d o ≡ on_some (find d (rank h.parent)) (λ q. on_some (seek (rank o) (items q)) (λ s. map (after q.ident s) (climb d (rank h.parent) (rank h.parent))))) (sym child.2) (by_child (rank o) child.0 above child.1)

    earlier : rank h.parent < rank o
    earlier = subst (λ (h : Head). rank h.parent < rank o) (sym child.2) (parent_earlier d law (rank o) child.0 child.1 above)

    module _ (q : Head) (up : Some q ≡ head_told (find d (rank h.parent))) where
      parent : (p : Obj) × (find d (rank h.parent) ≡ some p) × (q ≡ head_of p)
      parent = told (find d (rank h.parent)) q up

      by_parent : path_of d o ≡ on_some (seek_told (find d (rank h.parent)) (rank o)) (λ s. map (after q.id s) (climb d (rank h.parent) (rank h.parent)))
      by_parent =
          by_head
          ∙ (ap (λ x. on_some x (λ (q : Obj). on_some (seek (rank o) (items q)) (λ s. map (after q.ident s) (climb d (rank h.parent) (rank h.parent))))) parent.1
          ∙ (ap (λ (k : Head). on_some (seek (rank o) (items parent.0)) (λ s. map (after k.id s) (climb d (rank h.parent) (rank h.parent)))) (sym parent.2)
          ∙ ap (λ x. on_some (seek_told x (rank o)) (λ s. map (after q.id s) (climb d (rank h.parent) (rank h.parent)))) (sym parent.1)))

      same_rank : rank q.id ≡ rank h.parent
      same_rank = ap (λ (k : Head). rank k.id) parent.2 ∙ find_name d (rank h.parent) parent.0 parent.1

      pub linked : (n : ℕ) → seek_told (find d (rank h.parent)) (rank o) ≡ some (prop_told (find d (rank h.parent)) n) → Linked d o (Some (record { leaves = q.id; place = n }))
      linked n e = (
        (let s = same_rank in let k = earlier in omega arith),
        by_parent
            ∙ (ap (λ t. on_some t (λ s. map (after q.id s) (climb d (rank h.parent) (rank h.parent)))) e
            ∙ ap (λ k. map (after q.id (prop_told (find d k) n)) (climb d k k)) (sym same_rank)),
      )

  pub path_length : (o : ObjId) (p : List Step) → path_of d o ≡ some p → length p ≤ rank o
  path_length o p e = climb_length (rank o) (rank o) p e

-- writing one more step
seen_length : (d : Doc) (ss : List PathStep) → length (steps_seen d ss) ≡ length ss
seen_length d [] = refl
seen_length d (s ∷ ss) = ap suc (seen_length d ss)

seen_set : (d : Doc) (ss : List PathStep) (k : ℕ) (s : PathStep) → steps_seen d (set ss k s) ≡ set (steps_seen d ss) k (step_seen d s)
seen_set d [] k s = refl
seen_set d (x ∷ ss) zero s = refl
seen_set d (x ∷ ss) (suc k) s = ap (λ t. step_seen d x ∷ t) (seen_set d ss k s)

behind_more : (old new : List PathStep) (k : ℕ) → drop k new ≡ drop k old → drop (k + 1) new ≡ drop (k + 1) old
behind_more old new k e = drop_next new k ∙ (ap (drop 1) e ∙ sym (drop_next old k))

module _ (d : Doc) (p : List Step) (old new : List PathStep) (s : PathStep) (so : Written d p old new) where
  one_more : length (p ++ (step_seen d s ∷ [])) ≡ length p + 1
  one_more = length-append p (step_seen d s ∷ [])

  pub step_written : length p < length new → Written d (p ++ (step_seen d s ∷ [])) old (set new (length p) s)
  step_written l = record {
    here =
        ap (λ k. take k (steps_seen d (set new (length p) s))) (one_more ∙ add-one (length p))
        ∙ (ap (take (suc (length p))) (seen_set d new (length p) s)
        ∙ (take-suc-set (steps_seen d new) (length p) (step_seen d s) (omega (arith, seen_length d new))
        ∙ (ap (λ t. t ++ (step_seen d s ∷ [])) (so.here ∙ take_all (length new) p (omega arith))
        ∙ sym (take_all (length (set new (length p) s)) (p ++ (step_seen d s ∷ [])) (omega (arith, one_more, length-set new (length p) s))))));
    behind =
        ap (λ k. drop k (set new (length p) s)) one_more
        ∙ (drop-set-lt (length p + 1) new (length p) s (omega arith)
        ∙ (behind_more old new (length p) so.behind ∙ sym (ap (λ k. drop k old) one_more)));
  }

  pub step_past : length new ≤ length p → Written d (p ++ (step_seen d s ∷ [])) old new
  step_past l = record {
    here =
        take_all (length (p ++ (step_seen d s ∷ []))) (steps_seen d new) (omega (arith, one_more, seen_length d new))
        ∙ (sym (take_all (length p) (steps_seen d new) (omega (arith, seen_length d new)))
        ∙ (so.here ∙ sym (take-append-le (length new) p (step_seen d s ∷ []) l)));
    behind = ap (λ k. drop k new) one_more ∙ (behind_more old new (length p) so.behind ∙ sym (ap (λ k. drop k old) one_more));
  }
