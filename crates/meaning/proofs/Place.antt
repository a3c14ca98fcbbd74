-- Paths lead to objects; what a change at the end of one does to the whole value.
use Rattle.std.proofs.Common.{◌≡◌, ℕ, zero, suc, ◌<◌, ◌≤◌, Bool, List, [], ◌∷◌, ◌++◌, Ok, Ordering, Less, Equal, Greater, sym, refl, ap, ◌∙◌, subst, inl, inr, arith}
use mathlib.Core.Option.{Option, none, some}
use Rattle.types.specs.declared.error.Refusal.TheVariants.{ApplyInvalidProp}
use Rattle.meaning.specs.Results.{Answer, on_ok, and_then}
use Rattle.meaning.specs.Lists.{In, Every, Apart}
use Rattle.meaning.specs.Entries.{Key, compare_keys, by3, Ref, ref_rank, Item, scalar, object}
use Rattle.meaning.specs.Patches.{Prop, key, pos}
use Rattle.meaning.specs.Rows.{Row, map_of, list_of, text_of, map_item, map_pairs, map_items, map_row, refs_e, refs_p, refs_l, refs, ids, mod_in, mod_at}
use Rattle.meaning.specs.Values.{Value, built, row_of}
use Rattle.meaning.specs.Application.{on_object, through, at, a_value, entry_at, item_at, step_to, read_item, read}
use Rattle.meaning.specs.Documents.{Obj, name, Doc, find, items, in_units, row_in, Rising, values}
use Rattle.meaning.proofs.Tests.{okay, none_some, some_inj}
use Rattle.meaning.proofs.Members.{every_right, every_map, every_map₂, every_at, in_ids, map_pairs_cong, map_items_cong}
use Rattle.meaning.proofs.Found.{find_name, find_every, up_from, up_more, one_child}
use Rattle.meaning.proofs.Lens.{row_built}
use Rattle.meaning.proofs.Tree.{Later, refs_units, values_out, values_in_lem, untouched}

-- What a step leads to in a row, where it is an object.
abbrev pub target_e : {X : Type 0} → Item X → Option X
target_e (scalar s b) = none
target_e (object x b) = some x

abbrev pub target_at : {X : Type 0} → ℕ → List (Item X) → Option X
target_at i [] = none
target_at zero (x ∷ xs) = target_e x
target_at (suc i) (x ∷ xs) = target_at i xs

abbrev pub target_in : {X : Type 0} → Key → List (Key × Item X) → Option X
target_in k [] = none
target_in k (x ∷ xs) = by3 (compare_keys k x.0) (target_in k xs) (target_e x.1) (target_in k xs)

abbrev pub target : {W X : Type 0} → Prop → Row W (Item X) → Option X
target (key k) (map_of m) = target_in k m
target (key k) (list_of l) = none
target (key k) (text_of u) = none
target (pos i) (map_of m) = none
target (pos i) (list_of l) = target_at i l
target (pos i) (text_of u) = none

-- A path leads from one object to another, by keys and positions.
abbrev pub Leads : Doc → ℕ → List Prop → ℕ → Type 0
Leads d i [] o = i ≡ o
Leads d i (s ∷ p) o = (q : Obj) × (find d i ≡ some q) × (r : Ref) × (target s (items q) ≡ some r) × Leads d (ref_rank r) p o

pub target_units : {U X : Type 0} (units : List ℕ → List U) (s : Prop) (ρ : Row (List ℕ) (Item X)) → target s (in_units units ρ) ≡ target s ρ
target_units units (key k) (map_of m) = refl
target_units units (key k) (list_of l) = refl
target_units units (key k) (text_of t) = refl
target_units units (pos i) (map_of m) = refl
target_units units (pos i) (list_of l) = refl
target_units units (pos i) (text_of t) = refl

-- what a step leads to is read there
step_at : {X Y : Type 0} (v : X → Y) (y : X) (i : ℕ) (l : List (Item X)) → target_at i l ≡ some y → (b : Bool) × (item_at i (map_items v l) ≡ Ok (object (v y) b))
step_at v y i [] e = absurd (none_some y e)
step_at v y zero (scalar s b ∷ xs) e = absurd (none_some y e)
step_at v y zero (object x b ∷ xs) e = (b, ap (λ z. Ok (object (v z) b)) (some_inj e))
step_at v y (suc i) (x ∷ xs) e = step_at v y i xs e

step_in : {X Y : Type 0} (v : X → Y) (y : X) (k : Key) (m : List (Key × Item X)) → target_in k m ≡ some y → (b : Bool) × (entry_at k (map_pairs v m) ≡ Ok (object (v y) b))
step_in v y k [] e = absurd (none_some y e)
step_in {X} v y k (x ∷ xs) e = go (compare_keys k x.0) (step_in v y k xs) e
  where
    hit : (i : Item X) → target_e i ≡ some y → (b : Bool) × (◌≡◌ {A = Answer (Item _)} (Ok (map_item v i)) (Ok (object (v y) b)))
    hit (scalar s b) h = absurd (none_some y h)
    hit (object z b) h = (b, ap (λ z. Ok (object (v z) b)) (some_inj h))

    go : (c : Ordering) → (target_in k xs ≡ some y → (b : Bool) × (entry_at k (map_pairs v xs) ≡ Ok (object (v y) b))) → by3 c (target_in k xs) (target_e x.1) (target_in k xs) ≡ some y
        → (b : Bool) × (by3 c (entry_at k (map_pairs v xs)) (Ok (map_item v x.1)) (entry_at k (map_pairs v xs)) ≡ Ok (object (v y) b))
    go Less ih h = ih h
    go Equal ih h = hit x.1 h
    go Greater ih h = ih h

step_to_lem : {W X Y : Type 0} (v : X → Y) (y : X) (s : Prop) (ρ : Row W (Item X)) → target s ρ ≡ some y → (b : Bool) × (step_to s (map_row v ρ) ≡ Ok (object (v y) b))
step_to_lem v y (key k) (map_of m) e = step_in v y k m e
step_to_lem v y (key k) (list_of l) e = absurd (none_some y e)
step_to_lem v y (key k) (text_of t) e = absurd (none_some y e)
step_to_lem v y (pos i) (map_of m) e = absurd (none_some y e)
step_to_lem v y (pos i) (list_of l) e = step_at v y i l e
step_to_lem v y (pos i) (text_of t) e = absurd (none_some y e)

-- of a row's objects only the one at a step may have changed
target_at_in : (y : Ref) (i : ℕ) (l : List (Item Ref)) → target_at i l ≡ some y → In y (refs_l l)
target_at_in y i [] e = let z : ◌≡◌ {A = ℕ} 0 1 = cc in absurd (omega arith)
target_at_in y zero (scalar s b ∷ xs) e = let z : ◌≡◌ {A = ℕ} 0 1 = cc in absurd (omega arith)
target_at_in y zero (object r b ∷ xs) e = let z : y ≡ r = cc in inl z
target_at_in y (suc i) (scalar s b ∷ xs) e = target_at_in y i xs e
target_at_in y (suc i) (object r b ∷ xs) e = inr (target_at_in y i xs e)

module _ {Y : Type 0} (v w : Ref → Y) (g : Y → Answer Y) (y : Ref) (moves : g (v y) ≡ Ok (w y)) where
  abbrev Else : Ref → Type 0
  Else z = (ref_rank z ≡ ref_rank y → ⊥) → v z ≡ w z

  rest_same : (l : List Ref) → (In (ref_rank y) (ids l) → ⊥) → Every Else l → Every (λ z. v z ≡ w z) l
  rest_same l n h = every_map Else (λ z. v z ≡ w z) l (λ z m k. k (λ e. n (subst (λ t. In t (ids l)) e (in_ids z l m)))) h

  -- the changed entry itself
  here_moves : (r : Ref) (b : Bool) → r ≡ y → on_object g (map_item v (object r b)) ≡ Ok (map_item w (object r b))
  here_moves r b e =
      let put : Y → Item Y = λ u. object u b in
      subst (λ (t : Ref). on_ok put (g (v t)) ≡ Ok (put (w t))) (sym e) (ap (on_ok put) moves)

  -- an entry beside it
  beside : (e : Item Ref) (l : List Ref) → In y l → Apart (ids (refs_e e ++ l)) → Every Else (refs_e e ++ l) → map_item v e ≡ map_item w e
  beside (scalar s b) l m once h = refl
  beside (object r b) l m once h = ap (λ u. object u b) (h.0 (λ e. once.0 (subst (λ t. In t (ids l)) (sym e) (in_ids y l m))))

  apart_rest : (e : Item Ref) (l : List Ref) → Apart (ids (refs_e e ++ l)) → Apart (ids l)
  apart_rest (scalar s b) l h = h
  apart_rest (object r b) l h = h.1

  mod_at_moves : (i : ℕ) (l : List (Item Ref)) → target_at i l ≡ some y → Apart (ids (refs_l l)) → Every Else (refs_l l) → mod_at ApplyInvalidProp i (on_object g) (map_items v l) ≡ Ok (map_items w l)
  mod_at_moves i [] e once h = let z : ◌≡◌ {A = ℕ} 0 1 = cc in absurd (omega arith)
  mod_at_moves zero (scalar s b ∷ xs) e once h = let z : ◌≡◌ {A = ℕ} 0 1 = cc in absurd (omega arith)
  mod_at_moves zero (object r b ∷ xs) e once h =
      let z : r ≡ y = cc in
      let n : In (ref_rank y) (ids (refs_l xs)) → ⊥ = subst (λ (t : Ref). In (ref_rank t) (ids (refs_l xs)) → ⊥) z once.0 in
      ap (on_ok (λ u. u ∷ map_items v xs)) (here_moves r b z)
      ∙ ap (λ t. Ok (object (w r) b ∷ t)) (map_items_cong v w xs (rest_same (refs_l xs) n h.1))
  mod_at_moves (suc i) (x ∷ xs) e once h =
      ap (on_ok (λ t. map_item v x ∷ t)) (mod_at_moves i xs e (apart_rest x (refs_l xs) once) (every_right Else (refs_e x) (refs_l xs) h))
      ∙ ap (λ t. Ok (t ∷ map_items w xs)) (beside x (refs_l xs) (target_at_in y i xs e) once h)

target_in_in : (y : Ref) (k : Key) (l : List (Key × Item Ref)) → target_in k l ≡ some y → In y (refs_p l)
target_in_in y k [] e = let z : ◌≡◌ {A = ℕ} 0 1 = cc in absurd (omega arith)
target_in_in y k (x ∷ xs) e = go (target_in_in y k xs) (compare_keys k x.0) e
  where
    in_right : (e : Item Ref) → In y (refs_p xs) → In y (refs_e e ++ refs_p xs)
    in_right (scalar s b) m = m
    in_right (object r b) m = inr m

    in_here : (e : Item Ref) → target_e e ≡ some y → In y (refs_e e ++ refs_p xs)
    in_here (scalar s b) h = let z : ◌≡◌ {A = ℕ} 0 1 = cc in absurd (omega arith)
    in_here (object r b) h = let z : y ≡ r = cc in inl z

    go : (target_in k xs ≡ some y → In y (refs_p xs)) → (c : Ordering) → by3 c (target_in k xs) (target_e x.1) (target_in k xs) ≡ some y → In y (refs_e x.1 ++ refs_p xs)
    go ih Less h = in_right x.1 (ih h)
    go ih Equal h = in_here x.1 h
    go ih Greater h = in_right x.1 (ih h)

module _ {Y : Type 0} (v w : Ref → Y) (g : Y → Answer Y) (y : Ref) (moves : g (v y) ≡ Ok (w y)) where
  mod_in_moves : (k : Key) (l : List (Key × Item Ref)) → target_in k l ≡ some y → Apart (ids (refs_p l)) → Every (Else v w g y moves) (refs_p l)
      → mod_in ApplyInvalidProp k (on_object g) (map_pairs v l) ≡ Ok (map_pairs w l)
  mod_in_moves k [] e once h = let z : ◌≡◌ {A = ℕ} 0 1 = cc in absurd (omega arith)
  mod_in_moves k (x ∷ xs) e once h = go (mod_in_moves k xs) (compare_keys k x.0) e
    where
      goal : Ordering → Type 0
      goal c = by3 c (on_ok (λ t. (x.0, map_item v x.1) ∷ t) (mod_in ApplyInvalidProp k (on_object g) (map_pairs v xs))) (on_ok (λ u. (x.0, u) ∷ map_pairs v xs) (on_object g (map_item v x.1))) (on_ok (λ t. (x.0, map_item v x.1) ∷ t) (mod_in ApplyInvalidProp k (on_object g) (map_pairs v xs))) ≡ Ok ((x.0, map_item w x.1) ∷ map_pairs w xs)

      away : (target_in k xs ≡ some y → Apart (ids (refs_p xs)) → Every (Else v w g y moves) (refs_p xs) → mod_in ApplyInvalidProp k (on_object g) (map_pairs v xs) ≡ Ok (map_pairs w xs))
          → target_in k xs ≡ some y → on_ok (λ t. (x.0, map_item v x.1) ∷ t) (mod_in ApplyInvalidProp k (on_object g) (map_pairs v xs)) ≡ Ok ((x.0, map_item w x.1) ∷ map_pairs w xs)
      away ih t =
          ap (on_ok (λ t. (x.0, map_item v x.1) ∷ t)) (ih t (apart_rest v w g y moves x.1 (refs_p xs) once) (every_right (Else v w g y moves) (refs_e x.1) (refs_p xs) h))
          ∙ ap (λ t. Ok ((x.0, t) ∷ map_pairs w xs)) (beside v w g y moves x.1 (refs_p xs) (target_in_in y k xs t) once h)

      hit : (e : Item Ref) → target_e e ≡ some y → Apart (ids (refs_e e ++ refs_p xs)) → Every (Else v w g y moves) (refs_e e ++ refs_p xs)
          → on_ok (λ u. (x.0, u) ∷ map_pairs v xs) (on_object g (map_item v e)) ≡ Ok ((x.0, map_item w e) ∷ map_pairs w xs)
      hit (scalar s b) f once h = let z : ◌≡◌ {A = ℕ} 0 1 = cc in absurd (omega arith)
      hit (object r b) f once h =
          let z : r ≡ y = cc in
          let n : In (ref_rank y) (ids (refs_p xs)) → ⊥ = subst (λ (t : Ref). In (ref_rank t) (ids (refs_p xs)) → ⊥) z once.0 in
          ap (on_ok (λ u. (x.0, u) ∷ map_pairs v xs)) (here_moves v w g y moves r b z)
          ∙ ap (λ t. Ok ((x.0, object (w r) b) ∷ t)) (map_pairs_cong v w xs (rest_same v w g y moves (refs_p xs) n h.1))

      go : (target_in k xs ≡ some y → Apart (ids (refs_p xs)) → Every (Else v w g y moves) (refs_p xs) → mod_in ApplyInvalidProp k (on_object g) (map_pairs v xs) ≡ Ok (map_pairs w xs))
          → (c : Ordering) → by3 c (target_in k xs) (target_e x.1) (target_in k xs) ≡ some y → goal c
      go ih Less t = away ih t
      go ih Equal t = hit x.1 t once h
      go ih Greater t = away ih t

  through_moves : {U : Type 0} (s : Prop) (ρ : Row (List U) (Item Ref)) → target s ρ ≡ some y → Apart (ids (refs ρ)) → Every (Else v w g y moves) (refs ρ)
      → through s g (map_row v ρ) ≡ Ok (map_row w ρ)
  through_moves (key k) (map_of m) e once h = ap (on_ok map_of) (mod_in_moves k m e once h)
  through_moves (key k) (list_of l) e once h = let z : ◌≡◌ {A = ℕ} 0 1 = cc in absurd (omega arith)
  through_moves (key k) (text_of t) e once h = let z : ◌≡◌ {A = ℕ} 0 1 = cc in absurd (omega arith)
  through_moves (pos i) (map_of m) e once h = let z : ◌≡◌ {A = ℕ} 0 1 = cc in absurd (omega arith)
  through_moves (pos i) (list_of l) e once h = ap (on_ok list_of) (mod_at_moves v w g y moves i l e once h)
  through_moves (pos i) (text_of t) e once h = let z : ◌≡◌ {A = ℕ} 0 1 = cc in absurd (omega arith)

pub target_in_lem : {W : Type 0} (y : Ref) (s : Prop) (ρ : Row W (Item Ref)) → target s ρ ≡ some y → In y (refs ρ)
target_in_lem y (key k) (map_of m) e = target_in_in y k m e
target_in_lem y (key k) (list_of l) e = let z : ◌≡◌ {A = ℕ} 0 1 = cc in absurd (omega arith)
target_in_lem y (key k) (text_of t) e = let z : ◌≡◌ {A = ℕ} 0 1 = cc in absurd (omega arith)
target_in_lem y (pos i) (map_of m) e = let z : ◌≡◌ {A = ℕ} 0 1 = cc in absurd (omega arith)
target_in_lem y (pos i) (list_of l) e = target_at_in y i l e
target_in_lem y (pos i) (text_of t) e = let z : ◌≡◌ {A = ℕ} 0 1 = cc in absurd (omega arith)

module _ {U : Type 0} (units : List ℕ → List U) where
  -- the screen: done objects with their rows, the others by the base
  module _ (par : ℕ → ℕ) (par≤ : (x : ℕ) → par x ≤ x) (d : Doc) (up : Rising d) (late : Later d)
      (kids : (i : ℕ) (q : Obj) → find d i ≡ some q → Every (λ (r : Ref). par (ref_rank r) ≡ i) (refs (items q)))
      (once : (i : ℕ) (q : Obj) → find d i ≡ some q → Apart (ids (refs (items q)))) where
    abbrev Above : ℕ → ℕ → Type 0
    Above o i = (n : ℕ) × (up_from par par≤ n o ≡ i)

    leads_up : (p : List (Prop)) (i o : ℕ) → Leads d i p o → Above o i
    leads_up [] i o h = (0, sym h)
    leads_up (s ∷ p) i o (q, e, r, t, h) =
        let a = leads_up p (ref_rank r) o h in
        (suc a.0, up_more par par≤ a.0 o ∙ ap par a.1 ∙ every_at (λ (r : Ref). par (ref_rank r) ≡ i) (refs (items q)) r (kids i q e) (target_in_lem r s (items q) t))

    module _ (o : ℕ) (base base' : ℕ → Value U) (f : Value U → Answer (Value U)) (free : find d o ≡ none)
        (agree : (i : ℕ) → (i ≡ o → ⊥) → base i ≡ base' i) (turns : f (base o) ≡ Ok (base' o)) where
      off_chain : (i : ℕ) → (Above o i → ⊥) → values units base d i ≡ values units base' d i
      off_chain =
          untouched units (Above o) base base' d up late
          (λ i q e. every_map (λ (r : Ref). par (ref_rank r) ≡ i) (λ (r : Ref). Above o (ref_rank r) → Above o i) (refs (items q))
          (λ r _ k a. (suc a.0, up_more par par≤ a.0 o ∙ ap par a.1 ∙ k)) (kids i q e))
          (λ i e n. agree i (λ h. n (0, sym h)))

      pub placed_at : (p : List (Prop)) (i : ℕ) → Leads d i p o → at p f (values units base d i) ≡ Ok (values units base' d i)
      placed_at [] i h =
          let done : f (values units base d o) ≡ Ok (values units base' d o) = ap f (values_out units base d o free) ∙ turns ∙ okay (sym (values_out units base' d o free)) in
          subst (λ t. f (values units base d t) ≡ Ok (values units base' d t)) (sym h) done
      placed_at (s ∷ p) i (q, e, r, t, h) = go (placed_at p (ref_rank r) h)
        where
          v : Ref → Value U
          v z = values units base d (ref_rank z)

          w : Ref → Value U
          w z = values units base' d (ref_rank z)

          later : Every (λ (z : Ref). i < ref_rank z) (refs (items q))
          later = subst (λ t. Every (λ (z : Ref). t < ref_rank z) (refs (items q))) (find_name d i q e) (find_every (λ x. Every (λ (z : Ref). name x < ref_rank z) (refs (items x))) d i q late e)

          go : at p f (values units base d (ref_rank r)) ≡ Ok (values units base' d (ref_rank r)) → at (s ∷ p) f (values units base d i) ≡ Ok (values units base' d i)
          go ih =
              let m = target_in_lem r s (items q) t in
              let a = leads_up p (ref_rank r) o h in
              let pr = every_at (λ (z : Ref). par (ref_rank z) ≡ i) (refs (items q)) r (kids i q e) m in
              let lr = every_at (λ (z : Ref). i < ref_rank z) (refs (items q)) r later m in
              let others : Every (λ (z : Ref). (ref_rank z ≡ ref_rank r → ⊥) → v z ≡ w z) (refs (items q)) =
              every_map₂ (λ (z : Ref). par (ref_rank z) ≡ i) (λ (z : Ref). i < ref_rank z) (λ (z : Ref). (ref_rank z ≡ ref_rank r → ⊥) → v z ≡ w z) (refs (items q))
              (λ z pz lz n. off_chain (ref_rank z) (λ b. n (one_child par par≤ b.0 a.0 o i (ref_rank z) (ref_rank r) b.1 a.1 pz pr lz lr))) (kids i q e) later in
              ap (λ x. on_ok built (through s (at p f) (row_of x))) (values_in_lem units base d i q up late e)
              ∙ ap (λ x. on_ok built (through s (at p f) x)) (row_built (map_row v (row_in units q)))
              ∙ ap (on_ok built) (through_moves v w (at p f) r ih s (row_in units q) (target_units units s (items q) ∙ t) (subst (λ l. Apart (ids l)) (sym (refs_units units (items q))) (once i q e)) (subst (Every (λ (z : Ref). (ref_rank z ≡ ref_rank r → ⊥) → v z ≡ w z)) (sym (refs_units units (items q))) others))
              ∙ okay (sym (values_in_lem units base' d i q up late e))

    -- at the end of a path stands the base
    pub reads_at : (o : ℕ) (base : ℕ → Value U) → find d o ≡ none → (p : List Prop) (i : ℕ) → Leads d i p o → read p (values units base d i) ≡ Ok (a_value (base o))
    reads_at o base free [] i h = okay (ap a_value (ap (values units base d) h ∙ values_out units base d o free))
    reads_at o base free (s ∷ p) i (q, e, r, t, h) =
        let v : Ref → Value U = λ z. values units base d (ref_rank z) in
        let (b, k) = step_to_lem v r s (row_in units q) (target_units units s (items q) ∙ t) in
        ap (λ x. and_then (step_to s (row_of x)) (read_item p (read p))) (values_in_lem units base d i q up late e)
        ∙ ap (λ x. and_then (step_to s x) (read_item p (read p))) (row_built (map_row v (row_in units q)))
        ∙ ap (λ x. and_then x (read_item p (read p))) k
        ∙ reads_at o base free p (ref_rank r) h
