-- Ranks, the values of documents, and batches.
use Rattle.std.proofs.Common.{◌≡◌, ℕ, zero, suc, ◌+◌, ◌<◌, ◌≤◌, Bool, true, false, cond, ◌&&◌, eqb, ltb, ◌⊎◌, List, [], ◌∷◌, length, take, Ok, Err, Less, Equal, Greater, sym, refl, ap, ◌∙◌, inl, inr, arith}
use mathlib.Core.Option.{some}
use Rattle.std.specs.Ordering.{ordering_then}
use Rattle.types.specs.Identities.{compare_numbers, compare_ids}
use Rattle.types.specs.Limits.{limits}
use Rattle.types.specs.declared.types.ObjId.{ObjId}
use Rattle.types.specs.declared.types.ObjType.TheVariants.{Map}
use Rattle.types.specs.declared.error.Refusal.{Refusal}
use Rattle.meaning.specs.Results.{Answer, and_then}
use Rattle.meaning.specs.Lists.{In, Every}
use Rattle.meaning.specs.Entries.{rank, Ref, ref_rank}
use Rattle.meaning.specs.Patches.{Patch}
use Rattle.meaning.specs.Rows.{refs, ids}
use Rattle.meaning.specs.Values.{Value, built, bare, counts, fits}
use Rattle.meaning.specs.Application.{apply_all, applied_with, applied}
use Rattle.meaning.specs.Documents.{Obj, name, Doc, find, items, Lawful, doc_counts, values, value}
use Rattle.meaning.specs.ValueLaws.{Sized, RankLaw, TellsValues, ValueLaw, BatchLaw}
use Rattle.meaning.proofs.Tests.{leb_of, eqb_yes, eqb_same, eqb_no, eqb_not, ltb_yes, ltb_no, ltb_was, ltb_wasnt, err_ok, ok_inj}
use Rattle.meaning.proofs.Members.{every_map, every_in, every_at, in_ids_ref}
use Rattle.meaning.proofs.Found.{in_find, top, below_top}
use Rattle.meaning.proofs.Tree.{row_cong, values_in_lem}
use Rattle.meaning.proofs.Paths.{child, later_of, par, kids}
use Rattle.meaning.proofs.Made.{within_inv}
use Rattle.meaning.proofs.Sizes.{Kids, tree_le}

-- ranks
less : (x y : ℕ) → x < y → compare_numbers x y ≡ Less
less x y h = ap (λ t. cond t Less (cond (eqb x y) Equal Greater)) (ltb_yes x y h)

equal : (x y : ℕ) → x ≡ y → compare_numbers x y ≡ Equal
equal x y h =
    ap (λ t. cond t Less (cond (eqb x y) Equal Greater)) (ltb_no x y (omega arith))
    ∙ ap (λ t. cond t Equal Greater) (ap (eqb x) (sym h) ∙ eqb_same x)

greater : (x y : ℕ) → y < x → compare_numbers x y ≡ Greater
greater x y h =
    ap (λ t. cond t Less (cond (eqb x y) Equal Greater)) (ltb_no x y (omega arith))
    ∙ ap (λ t. cond t Equal Greater) (eqb_no x y (λ e. omega arith))

one_of : (x y : ℕ) → (x < y) ⊎ ((x ≡ y) ⊎ (y < x))
one_of x y = go (ltb x y) (eqb x y) refl refl
  where
    go : (s t : Bool) → ltb x y ≡ s → eqb x y ≡ t → (x < y) ⊎ ((x ≡ y) ⊎ (y < x))
    go true t p q = inl (ltb_was x y p)
    go false true p q = inr (inl (eqb_yes x y q))
    go false false p q = let a = ltb_wasnt x y p in let b = eqb_not x y q in let c : y < x = omega arith in inr (inr c)

ordered : (a b : ObjId) → Sized a → Sized b → compare_ids a.0 b.0 ≡ compare_numbers (rank a) (rank b)
ordered a b s t = go (one_of a.0.counter b.0.counter)
  where
    tied : a.0.counter ≡ b.0.counter → (a.0.actor < b.0.actor) ⊎ ((a.0.actor ≡ b.0.actor) ⊎ (b.0.actor < a.0.actor)) → compare_numbers a.0.actor b.0.actor ≡ compare_numbers (rank a) (rank b)
    tied e (inl h) = less a.0.actor b.0.actor h ∙ sym (less (rank a) (rank b) (omega arith))
    tied e (inr (inl h)) = equal a.0.actor b.0.actor h ∙ sym (equal (rank a) (rank b) (omega arith))
    tied e (inr (inr h)) = greater a.0.actor b.0.actor h ∙ sym (greater (rank a) (rank b) (omega arith))

    go : (a.0.counter < b.0.counter) ⊎ ((a.0.counter ≡ b.0.counter) ⊎ (b.0.counter < a.0.counter)) → compare_ids a.0 b.0 ≡ compare_numbers (rank a) (rank b)
    go (inl h) = ap (λ o. ordering_then o (compare_numbers a.0.actor b.0.actor)) (less a.0.counter b.0.counter h) ∙ sym (less (rank a) (rank b) (let x = s.1 in let y = t.1 in omega arith))
    go (inr (inl h)) = ap (λ o. ordering_then o (compare_numbers a.0.actor b.0.actor)) (equal a.0.counter b.0.counter h) ∙ tied h (one_of a.0.actor b.0.actor)
    go (inr (inr h)) = ap (λ o. ordering_then o (compare_numbers a.0.actor b.0.actor)) (greater a.0.counter b.0.counter h) ∙ sym (greater (rank a) (rank b) (let x = s.1 in let y = t.1 in omega arith))

pub rank_law : RankLaw
rank_law =
    record {
      ordered = ordered;
      distinct = λ a b s t e.
          let x = s.1 in
          let y = t.1 in
          let c : a.0.counter ≡ b.0.counter = omega arith in
          let d : a.0.actor ≡ b.0.actor = omega arith in
          λ i. record { 0 = record { counter = c i; actor = d i } };
    }

-- the values of a document
module _ {U : Type 0} (units : List ℕ → List U) (d : Doc) (L : Lawful d) where
  exists : TellsValues units d (values units (λ _. bare Map) d)
  exists i o e = values_in_lem units (λ _. bare Map) d i o L.rising (later_of d L) e

  same_by : (f : ℕ → Value U) → TellsValues units d f → (n i : ℕ) → top d ≤ n + i → (o : Obj) → find d i ≡ some o → f i ≡ values units (λ _. bare Map) d i
  same_by f h zero i fuel o e = let k = below_top d i o e in absurd (omega arith)
  same_by f h (suc n) i fuel o e = go (same_by f h n)
    where
      go : ((i : ℕ) → top d ≤ n + i → (o : Obj) → find d i ≡ some o → f i ≡ values units (λ _. bare Map) d i) → f i ≡ values units (λ _. bare Map) d i
      go ih =
          h i o e
          ∙ ap built (row_cong units (λ (r : Ref). f (ref_rank r)) (λ (r : Ref). values units (λ _. bare Map) d (ref_rank r)) o
          (every_map _ (λ (r : Ref). f (ref_rank r) ≡ values units (λ _. bare Map) d (ref_rank r)) (refs (items o)) (λ r _ (b, c, g, _, _). ih (ref_rank r) (omega arith) c g) (child d L i o e)))
          ∙ sym (exists i o e)

  unique : (f : ℕ → Value U) → TellsValues units d f → f 0 ≡ value units d
  unique f h = same_by f h (top d) 0 (omega arith) L.rooted.0 L.rooted.1

  bounded : ((s : List ℕ) → length (units s) ≤ length s) → fits (value units d) ≡ true
  bounded fewer =
      let t = tree_le units fewer (par d L) d (0 ∷ []) L.rising own_kids L.apart ((λ m. m), tt) unnamed in
      let (a, b, c) = within_inv (doc_counts d) L.bounded in
      let v = counts (value units d) in
      let p : v.entry_count ≤ limits.value_entries = omega (arith, t.le_entries) in
      let q : v.unit_count ≤ limits.value_units = omega (arith, t.le_units) in
      let r : v.byte_count ≤ limits.value_bytes = omega (arith, t.le_bytes) in
      λ i. leb_of v.entry_count limits.value_entries p i && (leb_of v.unit_count limits.value_units q i && leb_of v.byte_count limits.value_bytes r i)
    where
      own_kids : Every (Kids units fewer (par d L)) d
      own_kids = every_in (Kids units fewer (par d L)) d (λ o m. kids d L (name o) o (in_find d o L.rising m))

      unnamed : (x : ℕ) → In x (0 ∷ []) → (p : Obj) → In p d → In x (ids (refs (items p))) → ⊥
      unnamed x (inr m) p i k = m
      unnamed x (inl e) p i k =
          let (r, j, f) = in_ids_ref x (refs (items p)) k in
          let (b, _, _, _, _) = every_at _ (refs (items p)) r (child d L (name p) p (in_find d p L.rising i)) j in
          omega arith

pub value_law : {U : Type 0} (units : List ℕ → List U) → ((s : List ℕ) → length (units s) ≤ length s) → ValueLaw units
value_law units fewer = record { exists = exists units; unique = unique units; bounded = λ d L. bounded units d L fewer }

-- batches
module _ {U : Type 0} (f : Patch U → Value U → Answer (Value U)) where
  answer : (ps : List (Patch U)) (v : Value U) → (applied f ps v).answer ≡ apply_all f ps v
  answer [] v = refl
  answer (p ∷ ps) v = go (f p v) (answer ps)
    where
      go : (t : Answer (Value U)) → ((v : Value U) → (applied f ps v).answer ≡ apply_all f ps v) → (applied_with v t (applied f ps)).answer ≡ and_then t (apply_all f ps)
      go (Ok w) ih = ih w
      go (Err r) ih = refl

  before : (ps : List (Patch U)) (v : Value U) → apply_all f (take (applied f ps v).count ps) v ≡ Ok (applied f ps v).value
  before [] v = refl
  before (p ∷ ps) v = go (f p v) refl (before ps)
    where
      go : (t : Answer (Value U)) → f p v ≡ t → ((v : Value U) → apply_all f (take (applied f ps v).count ps) v ≡ Ok (applied f ps v).value)
          → apply_all f (take (applied_with v t (applied f ps)).count (p ∷ ps)) v ≡ Ok (applied_with v t (applied f ps)).value
      go (Ok w) e ih = ap (λ t. and_then t (apply_all f (take (applied f ps w).count ps))) e ∙ ih w
      go (Err r) e ih = refl

  whole : (ps : List (Patch U)) (v w : Value U) → apply_all f ps v ≡ Ok w → ((applied f ps v).count ≡ length ps) × ((applied f ps v).value ≡ w)
  whole [] v w h = (refl, ok_inj (Ok v) v w refl h)
  whole (p ∷ ps) v w h = go (f p v) h (whole ps)
    where
      go : (t : Answer (Value U)) → and_then t (apply_all f ps) ≡ Ok w → ((v w : Value U) → apply_all f ps v ≡ Ok w → ((applied f ps v).count ≡ length ps) × ((applied f ps v).value ≡ w))
          → ((applied_with v t (applied f ps)).count ≡ suc (length ps)) × ((applied_with v t (applied f ps)).value ≡ w)
      go (Ok u) h ih = let (a, b) = ih u w h in (ap suc a, b)
      go (Err r) h ih = absurd (err_ok r w h)

  stopped : (ps : List (Patch U)) (v : Value U) (r : Refusal) → apply_all f ps v ≡ Err r → (applied f ps v).count < length ps
  stopped [] v r h = absurd (err_ok r v (sym h))
  stopped (p ∷ ps) v r h = go (f p v) h (stopped ps)
    where
      go : (t : Answer (Value U)) → and_then t (apply_all f ps) ≡ Err r → ((v : Value U) (r : Refusal) → apply_all f ps v ≡ Err r → (applied f ps v).count < length ps) → (applied_with v t (applied f ps)).count < suc (length ps)
      go (Ok u) h ih = let a = ih u r h in omega arith
      go (Err x) h ih = omega arith

pub batch_law : {U : Type 0} (f : Patch U → Value U → Answer (Value U)) → BatchLaw f
batch_law f = record { answer = answer f; before = before f; whole = whole f; stopped = stopped f }
