-- Finding an object in a document whose identities rise.
use Rattle.std.proofs.Common.{◌≡◌, ℕ, zero, suc, ◌+◌, ◌<◌, ◌≤◌, true, eqb, [], ◌∷◌, length, get_or, Some, None, Option as Answer, sym, refl, ap, ◌∙◌, subst, inl, inr, arith}
use mathlib.Core.Option.{none, some}
use Rattle.std.proofs.lemmas.Bool.{cases_lt, cond-true, cond-false, eq-eqb, ne_eqb, ltb-true, lt-ltb}
use Rattle.meaning.specs.Documents.{Obj, Doc, name, find}
use Rattle.document.specs.declared.view.Head.{Head}
use Rattle.document.specs.Places.{nth, head_of, head_told}
use Rattle.document.specs.Laws.{earlier, rises}
use Rattle.document.specs.Steps.{Found}
use Rattle.document.specs.Nothing.{no_obj}
use Rattle.document.proofs.Walks.{nth_is, chain_apart}

abbrev at : Doc → ℕ → Obj
at d k = get_or d k no_obj

pub rising : (d : Doc) → rises d ≡ true → (i j : ℕ) → i < j → j < length d → name (at d i) < name (at d j)
rising d up i j l m =
    ltb-true _ _ (chain_apart earlier (λ x y z h k. lt-ltb _ _ (let a = ltb-true _ _ h in let b = ltb-true _ _ k in omega arith)) no_obj d up i j l m)

pub find_none : (d : Doc) (x : ℕ) → ((k : ℕ) → k < length d → x ≡ name (at d k) → ⊥) → find d x ≡ none
find_none [] x h = refl
find_none (o ∷ os) x h = cond-false (eqb x (name o)) (some o) (find os x) (ne_eqb _ _ (h 0 (omega arith))) ∙ find_none os x (λ k l. h (suc k) (omega arith))

pub find_some : (d : Doc) (x j : ℕ) → j < length d → ((k : ℕ) → k < j → x ≡ name (at d k) → ⊥) → x ≡ name (at d j) → find d x ≡ some (at d j)
find_some [] x j l h e = absurd (omega arith)
find_some (o ∷ os) x zero l h e = cond-true (eqb x (name o)) (some o) (find os x) (eq-eqb _ _ e)
find_some (o ∷ os) x (suc j) l h e = cond-false (eqb x (name o)) (some o) (find os x) (ne_eqb _ _ (h 0 (omega arith))) ∙ find_some os x j (omega arith) (λ k m. h (suc k) (omega arith)) e

-- what a head says of the object at its place
pub head_is : (d : Doc) (i : ℕ) (h : Head) → i < length d → Some h ≡ head_told (nth d i) → h ≡ head_of (at d i)
head_is d i h l e = let q : ◌≡◌ {A = Answer Head} (Some h) (Some (head_of (at d i))) = e ∙ ap head_told (nth_is d i no_obj l) in cc

pub head_there : (d : Doc) (i : ℕ) → i < length d → None ≡ head_told (nth d i) → ⊥
head_there d i l e =
    let q : ◌≡◌ {A = Answer Head} None (Some (head_of (at d i))) = e ∙ ap head_told (nth_is d i no_obj l) in
    let z : ◌≡◌ {A = ℕ} 0 1 = cc in omega arith

module _ (d : Doc) (x mid : ℕ) (up : rises d ≡ true) (lt : mid < length d) where
  pub lower : name (at d mid) < x → (k : ℕ) → k < mid + 1 → name (at d k) < x
  lower h k l = elim (cases_lt k mid) [ inl m ↦ let r = rising d up k mid m lt in omega arith | inr m ↦ subst (λ i. name (at d i) < x) {x = mid} {y = k} (omega arith) h ]

  pub upper : x < name (at d mid) → (k : ℕ) → mid ≤ k → k < length d → x < name (at d k)
  upper h k l n = elim (cases_lt mid k) [ inl m ↦ let r = rising d up mid k m n in omega arith | inr m ↦ subst (λ i. x < name (at d i)) {x = mid} {y = k} (omega arith) h ]

  pub hit : x ≡ name (at d mid) → Found d x (Some mid)
  hit e = (lt, find_some d x mid lt (λ k m q. let r = rising d up k mid m lt in omega arith) e ∙ sym (nth_is d mid no_obj lt))

pub missed : (d : Doc) (x lo hi : ℕ) → hi ≤ lo → ((k : ℕ) → k < lo → name (at d k) < x) → ((k : ℕ) → hi ≤ k → k < length d → x < name (at d k)) → find d x ≡ none
missed d x lo hi e f g = find_none d x (λ k l q. elim (cases_lt k lo) [ inl m ↦ let r = f k m in omega arith | inr m ↦ let r = g k (omega arith) l in omega arith ])
