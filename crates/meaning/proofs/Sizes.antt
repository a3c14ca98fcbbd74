-- A lawful document's value counts for no more than its rows.
use Rattle.std.proofs.Common.{◌≡◌, ℕ, ◌<◌, ◌≤◌, Bool, true, false, cond, eqb, ◌⊎◌, List, [], ◌∷◌, ◌++◌, length, sym, refl, ap, ◌∙◌, subst, inl, inr, arith}
use Rattle.types.specs.declared.types.OpId.{OpId}
use Rattle.types.specs.declared.types.ObjType.TheVariants.{Map}
use Rattle.meaning.specs.Lists.{In, Every, Apart, memb}
use Rattle.meaning.specs.Entries.{Key, Content, scalar_of, object_of, Entry, Ref, ref_rank, placed_as}
use Rattle.meaning.specs.Rows.{map_of, list_of, text_of, map_pairs, map_items, map_row, refs_p, refs_l, refs, ids}
use Rattle.meaning.specs.Values.{Value, entries, cells, built, bare, Counts, no_counts, plus, counts, entries_counts, cells_counts}
use Rattle.meaning.specs.Documents.{DocRow, Obj, name, Doc, placed_pairs, placed_items, row_placed, items, in_units, row_in, Rising, pairs_counts, list_counts, row_counts, doc_counts, values}
use Rattle.meaning.proofs.Tests.{eqb_yes, eqb_same, eqb_not}
use Rattle.meaning.proofs.Members.{every_at, in_append, memb_in, in_memb, in_ids_ref}
use Rattle.meaning.proofs.Tree.{values_skip, values_head}

-- no more in any of the three counts
pub record Le (a b : Counts) : Type 0 where
  pub le_entries : a.entry_count ≤ b.entry_count
  pub le_units : a.unit_count ≤ b.unit_count
  pub le_bytes : a.byte_count ≤ b.byte_count

module _ {U : Type 0} where
  -- what the objects of a row, or of some ranks, count for together
  abbrev sum_of : (Ref → Value U) → List Ref → Counts
  sum_of v [] = no_counts
  sum_of v (r ∷ rs) = plus (counts (v r)) (sum_of v rs)

  abbrev sum_at : (ℕ → Value U) → List ℕ → Counts
  sum_at v [] = no_counts
  sum_at v (i ∷ is) = plus (counts (v i)) (sum_at v is)

  sum_ids : (v : ℕ → Value U) (rs : List Ref) → sum_of (λ r. v (ref_rank r)) rs ≡ sum_at v (ids rs)
  sum_ids v [] = refl
  sum_ids v (r ∷ rs) = ap (plus (counts (v (ref_rank r)))) (sum_ids v rs)

  pairs_le : (v : Ref → Value U) (m : List (Key × Entry)) → Le (entries_counts (entries (map_pairs v (placed_pairs (λ r. r) m)))) (plus (pairs_counts m) (sum_of v (refs_p (placed_pairs (λ r. r) m))))
  pairs_le v [] = record { le_entries = omega arith; le_units = omega arith; le_bytes = omega arith }
  pairs_le v (x ∷ xs) = go x.1.content x.1.ident x.1.flag (pairs_le v xs)
    where
      go : (c : Content) (d : OpId) (f : Bool) → Le (entries_counts (entries (map_pairs v (placed_pairs (λ r. r) xs)))) (plus (pairs_counts xs) (sum_of v (refs_p (placed_pairs (λ r. r) xs))))
          → Le (entries_counts (entries (map_pairs v ((x.0, placed_as (λ r. r) c d f) ∷ placed_pairs (λ r. r) xs)))) (plus (pairs_counts ((x.0, record { content = c; ident = d; flag = f }) ∷ xs)) (sum_of v (refs_p ((x.0, placed_as (λ r. r) c d f) ∷ placed_pairs (λ r. r) xs))))
      go (scalar_of s) d f h = record { le_entries = omega (arith, h.le_entries); le_units = omega (arith, h.le_units); le_bytes = omega (arith, h.le_bytes) }
      go (object_of k) d f h = record { le_entries = omega (arith, h.le_entries); le_units = omega (arith, h.le_units); le_bytes = omega (arith, h.le_bytes) }

  items_le : (v : Ref → Value U) (l : List Entry) → Le (cells_counts (cells (map_items v (placed_items (λ r. r) l)))) (plus (list_counts l) (sum_of v (refs_l (placed_items (λ r. r) l))))
  items_le v [] = record { le_entries = omega arith; le_units = omega arith; le_bytes = omega arith }
  items_le v (x ∷ xs) = go x.content x.ident x.flag (items_le v xs)
    where
      go : (c : Content) (d : OpId) (f : Bool) → Le (cells_counts (cells (map_items v (placed_items (λ r. r) xs)))) (plus (list_counts xs) (sum_of v (refs_l (placed_items (λ r. r) xs))))
          → Le (cells_counts (cells (map_items v (placed_as (λ r. r) c d f ∷ placed_items (λ r. r) xs)))) (plus (list_counts (record { content = c; ident = d; flag = f } ∷ xs)) (sum_of v (refs_l (placed_as (λ r. r) c d f ∷ placed_items (λ r. r) xs))))
      go (scalar_of s) d f h = record { le_entries = omega (arith, h.le_entries); le_units = omega (arith, h.le_units); le_bytes = omega (arith, h.le_bytes) }
      go (object_of k) d f h = record { le_entries = omega (arith, h.le_entries); le_units = omega (arith, h.le_units); le_bytes = omega (arith, h.le_bytes) }

  module _ (units : List ℕ → List U) (fewer : (s : List ℕ) → length (units s) ≤ length s) where
    row_le : (v : Ref → Value U) (w : DocRow) → Le (counts (built (map_row v (in_units units (row_placed (λ r. r) w))))) (plus (row_counts w) (sum_of v (refs (row_placed (λ r. r) w))))
    row_le v (map_of m) = pairs_le v m
    row_le v (list_of l) = items_le v l
    row_le v (text_of t) = record { le_entries = omega arith; le_units = omega (arith, fewer t); le_bytes = omega arith }

    abbrev none_yet : ℕ → Value U
    none_yet i = bare Map

    sum_none : (is : List ℕ) → Le (sum_at none_yet is) no_counts
    sum_none [] = record { le_entries = omega arith; le_units = omega arith; le_bytes = omega arith }
    sum_none (i ∷ is) = let h = sum_none is in record { le_entries = omega (arith, h.le_entries); le_units = omega (arith, h.le_units); le_bytes = omega (arith, h.le_bytes) }

    sum_append : (v : ℕ → Value U) (is js : List ℕ) → Le (plus (sum_at v is) (sum_at v js)) (sum_at v (is ++ js))
    sum_append v [] js = record { le_entries = omega arith; le_units = omega arith; le_bytes = omega arith }
    sum_append v (i ∷ is) js = let h = sum_append v is js in record { le_entries = omega (arith, h.le_entries); le_units = omega (arith, h.le_units); le_bytes = omega (arith, h.le_bytes) }

    -- a rank taken out
    abbrev without : ℕ → List ℕ → List ℕ
    without x [] = []
    without x (i ∷ is) = cond (eqb x i) is (i ∷ without x is)

    without_in : (x y : ℕ) (is : List ℕ) → In y (without x is) → In y is
    without_in x y [] m = m
    without_in x y (i ∷ is) m = go (eqb x i) (without_in x y is) m
      where
        go : (t : Bool) → (In y (without x is) → In y is) → In y (cond t is (i ∷ without x is)) → In y (i ∷ is)
        go true ih m = inr m
        go false ih (inl e) = inl e
        go false ih (inr m) = inr (ih m)

    without_apart : (x : ℕ) (is : List ℕ) → Apart is → Apart (without x is)
    without_apart x [] h = tt
    without_apart x (i ∷ is) h = go (eqb x i) (without_apart x is h.1)
      where
        go : (t : Bool) → Apart (without x is) → Apart (cond t is (i ∷ without x is))
        go true ih = h.1
        go false ih = ((λ m. h.0 (without_in x i is m)), ih)

    without_out : (x : ℕ) (is : List ℕ) → Apart is → In x (without x is) → ⊥
    without_out x [] h m = m
    without_out x (i ∷ is) h m = go (eqb x i) refl (without_out x is h.1) m
      where
        go : (t : Bool) → eqb x i ≡ t → (In x (without x is) → ⊥) → In x (cond t is (i ∷ without x is)) → ⊥
        go true e ih m = h.0 (subst (λ y. In y is) (eqb_yes x i e) m)
        go false e ih (inl k) = eqb_not x i e k
        go false e ih (inr m) = ih m

    sum_without : (v : ℕ → Value U) (x : ℕ) (is : List ℕ) → In x is → Le (sum_at v is) (plus (counts (v x)) (sum_at v (without x is)))
    sum_without v x [] m = absurd m
    sum_without v x (i ∷ is) m = go (eqb x i) refl m (sum_without v x is)
      where
        go : (t : Bool) → eqb x i ≡ t → (x ≡ i) ⊎ In x is → (In x is → Le (sum_at v is) (plus (counts (v x)) (sum_at v (without x is)))) → Le (sum_at v (i ∷ is)) (plus (counts (v x)) (sum_at v (cond t is (i ∷ without x is))))
        go true e k ih = subst (λ j. Le (sum_at v (j ∷ is)) (plus (counts (v x)) (sum_at v is))) (eqb_yes x i e) (record { le_entries = omega arith; le_units = omega arith; le_bytes = omega arith })
        go false e (inl k) ih = absurd (eqb_not x i e k)
        go false e (inr k) ih = let h = ih k in record { le_entries = omega (arith, h.le_entries); le_units = omega (arith, h.le_units); le_bytes = omega (arith, h.le_bytes) }

    apart_append : (is js : List ℕ) → Apart is → Apart js → ((x : ℕ) → In x is → In x js → ⊥) → Apart (is ++ js)
    apart_append [] js h k n = k
    apart_append (i ∷ is) js h k n =
        ((λ m. elim (in_append i is js m) [ inl a ↦ h.0 a | inr b ↦ n i (inl refl) b ]), apart_append is js h.1 k (λ x a b. n x (inr a) b))

    sum_skip : (o : Obj) (os : Doc) (is : List ℕ) → (In (name o) is → ⊥) → sum_at (values units none_yet (o ∷ os)) is ≡ sum_at (values units none_yet os) is
    sum_skip o os [] n = refl
    sum_skip o os (i ∷ is) n =
        λ t. plus (counts (values_skip units none_yet o os i (λ e. n (inl (sym e))) t)) (sum_skip o os is (λ m. n (inr m)) t)

    -- ranks that no row names, each once, count for no more than the rows
    module _ (par : ℕ → ℕ) where
      abbrev pub Kids : Obj → Type 0
      Kids o = Every (λ (r : Ref). par (ref_rank r) ≡ name o) (refs (items o))

      abbrev Unnamed : List ℕ → Doc → Type 0
      Unnamed is d = (x : ℕ) → In x is → (p : Obj) → In p d → In x (ids (refs (items p))) → ⊥

      pub tree_le : (d : Doc) (is : List ℕ) → Rising d → Every Kids d → Every (λ (o : Obj). Apart (ids (refs (items o)))) d → Apart is → Unnamed is d
          → Le (sum_at (values units none_yet d) is) (doc_counts d)
      tree_le [] is up kids once apart free = sum_none is
      tree_le (o ∷ os) is up kids once apart free = go (memb (name o) is) refl (tree_le os)
        where
          here : List ℕ
          here = ids (refs (items o))

          rest : List ℕ
          rest = without (name o) is

          skipped : (In (name o) is → ⊥) → Le (sum_at (values units none_yet os) is) (doc_counts os) → Le (sum_at (values units none_yet (o ∷ os)) is) (doc_counts (o ∷ os))
          skipped n h = subst (λ c. Le c (doc_counts (o ∷ os))) (sym (sum_skip o os is n)) (record { le_entries = omega (arith, h.le_entries); le_units = omega (arith, h.le_units); le_bytes = omega (arith, h.le_bytes) })

          taken : In (name o) is → Le (sum_at (values units none_yet os) (here ++ rest)) (doc_counts os) → Le (sum_at (values units none_yet (o ∷ os)) is) (doc_counts (o ∷ os))
          taken m h =
              let v = values units none_yet (o ∷ os) in
              let a = sum_without v (name o) is m in
              let b = row_le (λ r. values units none_yet os (ref_rank r)) o.row in
              let own : counts (v (name o)) ≡ counts (built (map_row (λ r. values units none_yet os (ref_rank r)) (row_in units o))) = ap counts (values_head units none_yet o os (name o) (eqb_same (name o))) in
              let kin : sum_of (λ r. values units none_yet os (ref_rank r)) (refs (items o)) ≡ sum_at (values units none_yet os) here = sum_ids (values units none_yet os) (refs (items o)) in
              let tail : sum_at v rest ≡ sum_at (values units none_yet os) rest = sum_skip o os rest (without_out (name o) is apart) in
              let c = sum_append (values units none_yet os) here rest in
              record {
                le_entries = omega (arith, a.le_entries, b.le_entries, c.le_entries, h.le_entries, ap (λ (x : Counts). x.entry_count) own, ap (λ (x : Counts). x.entry_count) kin, ap (λ (x : Counts). x.entry_count) tail);
                le_units = omega (arith, a.le_units, b.le_units, c.le_units, h.le_units, ap (λ (x : Counts). x.unit_count) own, ap (λ (x : Counts). x.unit_count) kin, ap (λ (x : Counts). x.unit_count) tail);
                le_bytes = omega (arith, a.le_bytes, b.le_bytes, c.le_bytes, h.le_bytes, ap (λ (x : Counts). x.byte_count) own, ap (λ (x : Counts). x.byte_count) kin, ap (λ (x : Counts). x.byte_count) tail);
              }

          unnamed : Unnamed (here ++ rest) os
          unnamed x m p i k =
              elim (in_append x here rest m) [
                | inl a ↦
                    (let (r, j, e) = in_ids_ref x (refs (items o)) a in
                    let (s, l, f) = in_ids_ref x (refs (items p)) k in
                    let u = every_at (λ (r : Ref). par (ref_rank r) ≡ name o) (refs (items o)) r kids.0 j in
                    let w = every_at (λ (r : Ref). par (ref_rank r) ≡ name p) (refs (items p)) s (every_at Kids os p kids.1 i) l in
                    let q : name o ≡ name p = sym u ∙ ap par (sym e ∙ f) ∙ w in
                    let g = every_at (λ (q : Obj). name o < name q) os p up.0 i in
                    omega arith)
                | inr b ↦ free x (without_in (name o) x is b) p (inr i) k
              ]

          apart_all : Apart (here ++ rest)
          apart_all = apart_append here rest once.0 (without_apart (name o) is apart) (λ x a b. free x (without_in (name o) x is b) o (inl refl) a)

          go : (t : Bool) → memb (name o) is ≡ t
              → ((is : List ℕ) → Rising os → Every Kids os → Every (λ (o : Obj). Apart (ids (refs (items o)))) os → Apart is → Unnamed is os → Le (sum_at (values units none_yet os) is) (doc_counts os))
              → Le (sum_at (values units none_yet (o ∷ os)) is) (doc_counts (o ∷ os))
          go true e ih = taken (in_memb (name o) is e) (ih (here ++ rest) up.1 kids.1 once.1 apart_all unnamed)
          go false e ih = skipped (λ m. let y = memb_in (name o) is m in let z : true ≡ false = sym y ∙ e in let w : ◌≡◌ {A = ℕ} 0 1 = cc in omega arith) (ih is up.1 kids.1 once.1 apart (λ x m p i k. free x m p (inr i) k))
