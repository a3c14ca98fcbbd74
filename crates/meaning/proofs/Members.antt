-- What holds of every member of a list, of a row.
use Rattle.std.proofs.Common.{◌≡◌, ℕ, Bool, true, false, cond, eqb, ◌⊎◌, List, [], ◌∷◌, ◌++◌, sym, refl, ap, ◌∙◌, subst, ap₂, inl, inr, arith}
use Rattle.meaning.specs.Lists.{In, Every, memb}
use Rattle.meaning.specs.Entries.{Key, Ref, ref_rank, Item, scalar, object}
use Rattle.meaning.specs.Rows.{Row, map_of, list_of, text_of, map_item, map_pairs, map_items, map_row, refs_e, refs_p, refs_l, refs, ids}
use Rattle.meaning.proofs.Tests.{eqb_yes, eqb_same}

module _ {X : Type 0} where
  pub every_left : (P : X → Type 0) (xs ys : List X) → Every P (xs ++ ys) → Every P xs
  every_left P [] ys h = tt
  every_left P (x ∷ xs) ys h = (h.0, every_left P xs ys h.1)

  pub every_right : (P : X → Type 0) (xs ys : List X) → Every P (xs ++ ys) → Every P ys
  every_right P [] ys h = h
  every_right P (x ∷ xs) ys h = every_right P xs ys h.1

  pub every_map : (P Q : X → Type 0) (xs : List X) → ((x : X) → In x xs → P x → Q x) → Every P xs → Every Q xs
  every_map P Q [] f h = tt
  every_map P Q (x ∷ xs) f h = (f x (inl refl) h.0, every_map P Q xs (λ y m. f y (inr m)) h.1)

  pub every_map₂ : (P Q R : X → Type 0) (xs : List X) → ((x : X) → P x → Q x → R x) → Every P xs → Every Q xs → Every R xs
  every_map₂ P Q R [] f h k = tt
  every_map₂ P Q R (x ∷ xs) f h k = (f x h.0 k.0, every_map₂ P Q R xs f h.1 k.1)

module _ {X Y : Type 0} (f g : X → Y) where
  map_item_cong : (e : Item X) → Every (λ x. f x ≡ g x) (refs_e e) → map_item f e ≡ map_item g e
  map_item_cong (scalar s b) h = refl
  map_item_cong (object x b) h = ap (λ y. object y b) h.0

  pub map_pairs_cong : (m : List (Key × Item X)) → Every (λ x. f x ≡ g x) (refs_p m) → map_pairs f m ≡ map_pairs g m
  map_pairs_cong [] h = refl
  map_pairs_cong (x ∷ xs) h =
      ap₂ (λ e l. (x.0, e) ∷ l) (map_item_cong x.1 (every_left _ (refs_e x.1) (refs_p xs) h)) (map_pairs_cong xs (every_right _ (refs_e x.1) (refs_p xs) h))

  pub map_items_cong : (m : List (Item X)) → Every (λ x. f x ≡ g x) (refs_l m) → map_items f m ≡ map_items g m
  map_items_cong [] h = refl
  map_items_cong (x ∷ xs) h =
      ap₂ (λ e l. e ∷ l) (map_item_cong x (every_left _ (refs_e x) (refs_l xs) h)) (map_items_cong xs (every_right _ (refs_e x) (refs_l xs) h))

  pub map_row_cong : {W : Type 0} (r : Row W (Item X)) → Every (λ x. f x ≡ g x) (refs r) → map_row f r ≡ map_row g r
  map_row_cong (map_of m) h = ap map_of (map_pairs_cong m h)
  map_row_cong (list_of l) h = ap list_of (map_items_cong l h)
  map_row_cong (text_of w) h = refl

-- membership
pub in_append : {X : Type 0} (x : X) (xs ys : List X) → In x (xs ++ ys) → In x xs ⊎ In x ys
in_append x [] ys m = inr m
in_append x (y ∷ xs) ys (inl e) = inl (inl e)
in_append x (y ∷ xs) ys (inr m) = elim (in_append x xs ys m) [ inl h ↦ inl (inr h) | inr h ↦ inr h ]

pub append_inl : {X : Type 0} (x : X) (xs ys : List X) → In x xs → In x (xs ++ ys)
append_inl x [] ys m = absurd m
append_inl x (y ∷ xs) ys (inl e) = inl e
append_inl x (y ∷ xs) ys (inr m) = inr (append_inl x xs ys m)

pub append_inr : {X : Type 0} (x : X) (xs ys : List X) → In x ys → In x (xs ++ ys)
append_inr x [] ys m = m
append_inr x (y ∷ xs) ys m = inr (append_inr x xs ys m)

pub every_in : {X : Type 0} (P : X → Type 0) (xs : List X) → ((x : X) → In x xs → P x) → Every P xs
every_in P [] f = tt
every_in P (x ∷ xs) f = (f x (inl refl), every_in P xs (λ y m. f y (inr m)))

pub every_at : {X : Type 0} (P : X → Type 0) (xs : List X) (x : X) → Every P xs → In x xs → P x
every_at P [] x h m = absurd m
every_at P (y ∷ xs) x h (inl e) = subst P (sym e) h.0
every_at P (y ∷ xs) x h (inr m) = every_at P xs x h.1 m

pub every_append : {X : Type 0} (P : X → Type 0) (xs ys : List X) → Every P xs → Every P ys → Every P (xs ++ ys)
every_append P [] ys h k = k
every_append P (x ∷ xs) ys h k = (h.0, every_append P xs ys h.1 k)

pub in_ids : (r : Ref) (rs : List Ref) → In r rs → In (ref_rank r) (ids rs)
in_ids r [] m = m
in_ids r (x ∷ rs) (inl e) = inl (ap ref_rank e)
in_ids r (x ∷ rs) (inr m) = inr (in_ids r rs m)

pub in_ids_ref : (x : ℕ) (rs : List Ref) → In x (ids rs) → (r : Ref) × In r rs × (x ≡ ref_rank r)
in_ids_ref x [] m = absurd m
in_ids_ref x (r ∷ rs) (inl e) = (r, inl refl, e)
in_ids_ref x (r ∷ rs) (inr m) = let (r', i, e) = in_ids_ref x rs m in (r', inr i, e)

pub memb_in : (x : ℕ) (xs : List ℕ) → In x xs → memb x xs ≡ true
memb_in x [] m = absurd m
memb_in x (y ∷ ys) (inl e) = ap (λ t. cond t true (memb x ys)) (ap (eqb x) (sym e) ∙ eqb_same x)
memb_in x (y ∷ ys) (inr m) = go (memb_in x ys m) (eqb x y)
  where
    go : memb x ys ≡ true → (t : Bool) → cond t true (memb x ys) ≡ true
    go ih true = refl
    go ih false = ih

pub in_memb : (x : ℕ) (xs : List ℕ) → memb x xs ≡ true → In x xs
in_memb x [] e = let z : ◌≡◌ {A = ℕ} 0 1 = cc in absurd (omega arith)
in_memb x (y ∷ ys) e = go (in_memb x ys) (eqb x y) refl
  where
    go : (memb x ys ≡ true → In x ys) → (t : Bool) → eqb x y ≡ t → (x ≡ y) ⊎ In x ys
    go ih true h = inl (eqb_yes x y h)
    go ih false h = inr (ih (subst (λ t. cond t true (memb x ys) ≡ true) h e))

pub memb_out : (x : ℕ) (xs : List ℕ) → (In x xs → ⊥) → memb x xs ≡ false
memb_out x xs n = go (memb x xs) refl
  where
    go : (t : Bool) → memb x xs ≡ t → memb x xs ≡ false
    go true e = absurd (n (in_memb x xs e))
    go false e = e
