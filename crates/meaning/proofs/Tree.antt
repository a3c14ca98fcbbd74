-- The values of a document's objects.
use Rattle.std.proofs.Common.{◌≡◌, ℕ, zero, suc, ◌+◌, ◌<◌, ◌≤◌, Bool, true, false, cond, eqb, ◌⊎◌, List, [], ◌∷◌, sym, refl, ap, ◌∙◌, subst, inl, inr, arith}
use mathlib.Core.Option.{Option, none, some}
use Rattle.meaning.specs.Lists.{Every}
use Rattle.meaning.specs.Entries.{Ref, ref_rank, Item}
use Rattle.meaning.specs.Rows.{Row, map_of, list_of, text_of, map_row, refs}
use Rattle.meaning.specs.Values.{Value, built}
use Rattle.meaning.specs.Documents.{Obj, name, Doc, find, items, in_units, row_in, Rising, values}
use Rattle.meaning.proofs.Tests.{eqb_no, eqb_not}
use Rattle.meaning.proofs.Members.{every_map, every_map₂, map_row_cong}
use Rattle.meaning.proofs.Found.{find_split, find_name, find_every, top, below_top}

-- An object's entries come later than it.
abbrev pub Later : Doc → Type 0
Later d = Every (λ (o : Obj). Every (λ (r : Ref). name o < ref_rank r) (refs (items o))) d

-- a text's units name nothing
pub refs_units : {U X : Type 0} (units : List ℕ → List U) (ρ : Row (List ℕ) (Item X)) → refs (in_units units ρ) ≡ refs ρ
refs_units units (map_of m) = refl
refs_units units (list_of l) = refl
refs_units units (text_of t) = refl

module _ {U : Type 0} (units : List ℕ → List U) where
  pub row_cong : {Y : Type 0} (f g : Ref → Y) (q : Obj) → Every (λ r. f r ≡ g r) (refs (items q)) → map_row f (row_in units q) ≡ map_row g (row_in units q)
  row_cong f g q h = map_row_cong f g (row_in units q) (subst (Every (λ r. f r ≡ g r)) (sym (refs_units units (items q))) h)

  pub values_skip : (base : ℕ → Value U) (o : Obj) (os : Doc) (i : ℕ) → (i ≡ name o → ⊥) → values units base (o ∷ os) i ≡ values units base os i
  values_skip base o os i n = ap (λ t. cond t (built (map_row (λ (r : Ref). values units base os (ref_rank r)) (row_in units o))) (values units base os i)) (eqb_no i (name o) n)

  pub values_head : (base : ℕ → Value U) (o : Obj) (os : Doc) (i : ℕ) → eqb i (name o) ≡ true → values units base (o ∷ os) i ≡ built (map_row (λ (r : Ref). values units base os (ref_rank r)) (row_in units o))
  values_head base o os i e = ap (λ t. cond t (built (map_row (λ (r : Ref). values units base os (ref_rank r)) (row_in units o))) (values units base os i)) e

  -- outside the list stands the base
  pub values_out : (base : ℕ → Value U) (d : Doc) (i : ℕ) → find d i ≡ none → values units base d i ≡ base i
  values_out base [] i e = refl
  values_out base (o ∷ os) i e = go (values_out base os i) (eqb i (name o)) refl
    where
      go : (find os i ≡ none → values units base os i ≡ base i) → (t : Bool) → eqb i (name o) ≡ t → values units base (o ∷ os) i ≡ base i
      go ih true h = let k : ◌≡◌ {A = Option (Obj)} (some o) none = subst (λ t. cond t (some o) (find os i) ≡ none) h e in cc
      go ih false h = values_skip base o os i (eqb_not i (name o) h) ∙ ih (subst (λ t. cond t (some o) (find os i) ≡ none) h e)

  row_skip : (base : ℕ → Value U) (o : Obj) (os : Doc) (q : Obj) → Every (λ (r : Ref). name o < ref_rank r) (refs (items q))
      → map_row (λ (r : Ref). values units base os (ref_rank r)) (row_in units q) ≡ map_row (λ (r : Ref). values units base (o ∷ os) (ref_rank r)) (row_in units q)
  row_skip base o os q h =
      row_cong (λ (r : Ref). values units base os (ref_rank r)) (λ (r : Ref). values units base (o ∷ os) (ref_rank r)) q
      (every_map (λ (r : Ref). name o < ref_rank r) (λ (r : Ref). values units base os (ref_rank r) ≡ values units base (o ∷ os) (ref_rank r)) (refs (items q)) (λ r _ k. sym (values_skip base o os (ref_rank r) (λ e. omega arith))) h)

  -- inside, an object's value is its row with its objects' values
  pub values_in_lem : (base : ℕ → Value U) (d : Doc) (i : ℕ) (q : Obj) → Rising d → Later d → find d i ≡ some q
      → values units base d i ≡ built (map_row (λ (r : Ref). values units base d (ref_rank r)) (row_in units q))
  values_in_lem base [] i q up late e = let z : ◌≡◌ {A = ℕ} 0 1 = cc in absurd (omega arith)
  values_in_lem base (o ∷ os) i q up late e = go (values_in_lem base os i q up.1 late.1) (find_split o os i q e)
    where
      go : (find os i ≡ some q → values units base os i ≡ built (map_row (λ (r : Ref). values units base os (ref_rank r)) (row_in units q)))
          → ((eqb i (name o) ≡ true) × (o ≡ q)) ⊎ ((eqb i (name o) ≡ false) × (find os i ≡ some q))
          → values units base (o ∷ os) i ≡ built (map_row (λ (r : Ref). values units base (o ∷ os) (ref_rank r)) (row_in units q))
      go ih (inl h) =
          values_head base o os i h.0 ∙ ap built (row_skip base o os o late.0)
          ∙ ap (λ (x : Obj). built (map_row (λ (r : Ref). values units base (o ∷ os) (ref_rank r)) (row_in units x))) h.1
      go ih (inr h) =
          let u : name o < name q = find_every (λ x. name o < name x) os i q up.0 h.1 in
          let l : Every (λ (r : Ref). name q < ref_rank r) (refs (items q)) = find_every (λ x. Every (λ (r : Ref). name x < ref_rank r) (refs (items x))) os i q late.1 h.1 in
          values_skip base o os i (eqb_not i (name o) h.0) ∙ ih h.1
          ∙ ap built (row_skip base o os q (every_map (λ (r : Ref). name q < ref_rank r) (λ (r : Ref). name o < ref_rank r) (refs (items q)) (λ r _ k. omega arith) l))

  -- bases that agree off P give values that agree off P, where P climbs from an entry to its row's object
  module _ (P : ℕ → Type 0) (base base' : ℕ → Value U) (d : Doc) (up : Rising d) (late : Later d)
      (climbs : (i : ℕ) (q : Obj) → find d i ≡ some q → Every (λ (r : Ref). P (ref_rank r) → P i) (refs (items q)))
      (agree : (i : ℕ) → find d i ≡ none → (P i → ⊥) → base i ≡ base' i) where
    one : (i : ℕ) → ((q : Obj) → find d i ≡ some q → (j : ℕ) → i < j → (P j → ⊥) → values units base d j ≡ values units base' d j) → (P i → ⊥) → values units base d i ≡ values units base' d i
    one i ih off = go (find d i) refl
      where
        go : (o : Option (Obj)) → find d i ≡ o → values units base d i ≡ values units base' d i
        go none e = values_out base d i e ∙ agree i e off ∙ sym (values_out base' d i e)
        go (some q) e =
            let named : name q ≡ i = find_name d i q e in
            let l : Every (λ (r : Ref). name q < ref_rank r) (refs (items q)) = find_every (λ x. Every (λ (r : Ref). name x < ref_rank r) (refs (items x))) d i q late e in
            let c : Every (λ (r : Ref). values units base d (ref_rank r) ≡ values units base' d (ref_rank r)) (refs (items q)) =
            every_map₂ (λ (r : Ref). name q < ref_rank r) (λ (r : Ref). P (ref_rank r) → P i) (λ (r : Ref). values units base d (ref_rank r) ≡ values units base' d (ref_rank r)) (refs (items q))
            (λ r k h. ih q e (ref_rank r) (omega arith) (λ p. off (h p))) l (climbs i q e) in
            values_in_lem base d i q up late e
            ∙ ap built (row_cong (λ (r : Ref). values units base d (ref_rank r)) (λ (r : Ref). values units base' d (ref_rank r)) q c)
            ∙ sym (values_in_lem base' d i q up late e)

    untouched_by : (n i : ℕ) → top d ≤ n + i → (P i → ⊥) → values units base d i ≡ values units base' d i
    untouched_by zero i fits off = one i (λ q e. let k = below_top d i q e in absurd (omega arith)) off
    untouched_by (suc n) i fits off = one i (λ q e j l. untouched_by n j (omega arith)) off

    pub untouched : (i : ℕ) → (P i → ⊥) → values units base d i ≡ values units base' d i
    untouched i off = untouched_by (top d) i (omega arith) off
