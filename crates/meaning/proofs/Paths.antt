-- The path of an object leads to it, and what stands in rows all the way up has a path.
use Rattle.std.proofs.Common.{◌≡◌, ℕ, zero, suc, ◌+◌, ◌<◌, ◌≤◌, Bool, true, false, cond, eqb, ltb, ◌⊎◌, List, [], ◌∷◌, ◌++◌, Greater, sym, refl, ap, ◌∙◌, subst, inl, inr, arith}
use mathlib.Core.Option.{Option, none, some, map}
use Rattle.meaning.specs.Results.{on_some}
use Rattle.meaning.specs.Lists.{In, Every, Apart}
use Rattle.meaning.specs.Entries.{rank, Key, compare_keys, by3, Entry, Ref, ref_rank, Item, scalar, object}
use Rattle.meaning.specs.Patches.{Prop, key, pos, Step, props}
use Rattle.meaning.specs.Rows.{Row, map_of, list_of, text_of, refs_e, refs_p, refs_l, refs, ids}
use Rattle.meaning.specs.Documents.{DocRow, Obj, name, Doc, find, placed_pairs, row_placed, items, After, KeysRise, RowRises, HasParent, NamesChild, Lawful, seek_l, seek_e, seek_p, seek, climb}
use Rattle.meaning.proofs.Tests.{eqb_yes, eqb_no, eqb_not, ltb_yes, ltb_was, on_some_some, map_some}
use Rattle.meaning.proofs.Keys.{keys_same}
use Rattle.meaning.proofs.Members.{every_map, every_at, in_ids}
use Rattle.meaning.proofs.Found.{find_name, find_every}
use Rattle.meaning.proofs.Tree.{Later}
use Rattle.meaning.proofs.Place.{target_e, target_at, target_in, target, Leads}

-- keys rise whatever their entries are made into
items_after : {X : Type 0} (g : Ref → X) (k : Key) (m : List (Key × Entry)) → After k m → After k (placed_pairs g m)
items_after g k [] h = tt
items_after g k (x ∷ xs) h = (h.0, items_after g k xs h.1)

keys_placed : {X : Type 0} (g : Ref → X) (m : List (Key × Entry)) → KeysRise m → KeysRise (placed_pairs g m)
keys_placed g [] h = tt
keys_placed g (x ∷ xs) h = (items_after g x.0 xs h.0, keys_placed g xs h.1)

items_rise : (r : DocRow) → RowRises r → RowRises (row_placed (λ r. r) r)
items_rise (map_of m) h = keys_placed (λ r. r) m h
items_rise (list_of l) h = tt
items_rise (text_of t) h = tt

props_end : (p : List Step) (s : Step) → props (p ++ (s ∷ [])) ≡ props p ++ (s.prop ∷ [])
props_end [] s = refl
props_end (x ∷ p) s = ap (λ t. x.prop ∷ t) (props_end p s)

-- seeking an object in a row

seek_l_sound : (o i : ℕ) (l : List (Item Ref)) (s : Prop) → seek_l o i l ≡ some s → (j : ℕ) × (s ≡ pos (i + j)) × (r : Ref) × (target_at j l ≡ some r) × (ref_rank r ≡ o)
seek_l_sound o i [] s e = let z : ◌≡◌ {A = ℕ} 0 1 = cc in absurd (omega arith)
seek_l_sound o i (scalar t b ∷ xs) s e =
    let (j, h, r, t, k) = seek_l_sound o (suc i) xs s e in
    let m : suc i + j ≡ i + suc j = omega arith in
    (suc j, h ∙ ap pos m, r, t, k)
seek_l_sound o i (object x b ∷ xs) s e = go (seek_l_sound o (suc i) xs s) (eqb o (ref_rank x)) refl
  where
    go : (seek_l o (suc i) xs ≡ some s → (j : ℕ) × (s ≡ pos (suc i + j)) × (r : Ref) × (target_at j xs ≡ some r) × (ref_rank r ≡ o)) → (t : Bool) → eqb o (ref_rank x) ≡ t
        → (j : ℕ) × (s ≡ pos (i + j)) × (r : Ref) × (target_at j (object x b ∷ xs) ≡ some r) × (ref_rank r ≡ o)
    go ih true h =
        let k : ◌≡◌ {A = Option Prop} (some (pos i)) (some s) = subst (λ t. cond t (some (pos i)) (seek_l o (suc i) xs) ≡ some s) h e in
        let m : s ≡ pos i = cc in
        let n : i ≡ i + 0 = omega arith in
        (0, m ∙ ap pos n, x, refl, sym (eqb_yes o (ref_rank x) h))
    go ih false h =
        let (j, h, r, t, k) = ih (subst (λ t. cond t (some (pos i)) (seek_l o (suc i) xs) ≡ some s) h e) in
        let m : suc i + j ≡ i + suc j = omega arith in
        (suc j, h ∙ ap pos m, r, t, k)

abbrev FoundP : ℕ → Prop → List (Key × Item Ref) → Type 0
FoundP o s m = (k : Key) × (s ≡ key k) × (r : Ref) × (target_in k m ≡ some r) × (ref_rank r ≡ o) × ((c : Key) → After c m → compare_keys k c ≡ Greater)

past : (o : ℕ) (s : Prop) (x : Key × Item Ref) (xs : List (Key × Item Ref)) → After x.0 xs → FoundP o s xs → FoundP o s (x ∷ xs)
past o s x xs a (k, h, r, t, i, f) =
    (k, h, r, ap (λ c. by3 c (target_in k xs) (target_e x.1) (target_in k xs)) (f x.0 a) ∙ t, i, λ c b. f c b.1)

seek_p_head : (o : ℕ) (s : Prop) (k : Key) (e : Item Ref) (xs : List (Key × Item Ref)) → After k xs → (seek_p o xs ≡ some s → FoundP o s xs)
    → seek_e o e (some (key k)) (seek_p o xs) ≡ some s → FoundP o s ((k, e) ∷ xs)
seek_p_head o s k (scalar t b) xs a ih h = past o s (k, scalar t b) xs a (ih h)
seek_p_head o s k (object x b) xs a ih h = go (eqb o (ref_rank x)) refl
  where
    go : (t : Bool) → eqb o (ref_rank x) ≡ t → FoundP o s ((k, object x b) ∷ xs)
    go true e =
        let d : ◌≡◌ {A = Option Prop} (some (key k)) (some s) = subst (λ t. cond t (some (key k)) (seek_p o xs) ≡ some s) e h in
        let m : s ≡ key k = cc in
        (k, m, x, ap (λ c. by3 c (target_in k xs) (some x) (target_in k xs)) (keys_same k), sym (eqb_yes o (ref_rank x) e), λ c b. b.0)
    go false e = past o s (k, object x b) xs a (ih (subst (λ t. cond t (some (key k)) (seek_p o xs) ≡ some s) e h))

seek_p_sound : (o : ℕ) (m : List (Key × Item Ref)) (s : Prop) → KeysRise m → seek_p o m ≡ some s → FoundP o s m
seek_p_sound o [] s r e = let z : ◌≡◌ {A = ℕ} 0 1 = cc in absurd (omega arith)
seek_p_sound o (x ∷ xs) s r e = seek_p_head o s x.0 x.1 xs r.0 (seek_p_sound o xs s r.1) e

pub seek_sound : {W : Type 0} (o : ℕ) (ρ : Row W (Item Ref)) (s : Prop) → RowRises ρ → seek o ρ ≡ some s → (r : Ref) × (target s ρ ≡ some r) × (ref_rank r ≡ o)
seek_sound {W} o (map_of m) s h e = let (k, j, r, t, i, f) = seek_p_sound o m s h e in (r, ap (λ x. target {W = W} x (map_of m)) j ∙ t, i)
seek_sound {W} o (list_of l) s h e =
    let (k, j, r, t, i) = seek_l_sound o 0 l s e in
    let z : 0 + k ≡ k = omega arith in
    (r, ap (λ x. target {W = W} x (list_of l)) (j ∙ ap pos z) ∙ t, i)
seek_sound o (text_of m) s h e = let z : ◌≡◌ {A = ℕ} 0 1 = cc in absurd (omega arith)

-- what stands in the row is found
seek_l_all : (o i : ℕ) (l : List (Item Ref)) → In o (ids (refs_l l)) → (s : Prop) × (seek_l o i l ≡ some s)
seek_l_all o i [] m = absurd m
seek_l_all o i (scalar t b ∷ xs) m = seek_l_all o (suc i) xs m
seek_l_all o i (object x b ∷ xs) m = go (seek_l_all o (suc i) xs) m (eqb o (ref_rank x)) refl
  where
    go : (In o (ids (refs_l xs)) → (s : Prop) × (seek_l o (suc i) xs ≡ some s)) → (o ≡ ref_rank x) ⊎ In o (ids (refs_l xs)) → (t : Bool) → eqb o (ref_rank x) ≡ t → (s : Prop) × (seek_l o i (object x b ∷ xs) ≡ some s)
    go ih m true e = (pos i, ap (λ t. cond t (some (pos i)) (seek_l o (suc i) xs)) e)
    go ih (inl h) false e = absurd (eqb_not o (ref_rank x) e h)
    go ih (inr m) false e = ((ih m).0, ap (λ t. cond t (some (pos i)) (seek_l o (suc i) xs)) e ∙ (ih m).1)

seek_p_all_head : (o : ℕ) (k : Key) (e : Item Ref) (xs : List (Key × Item Ref)) → (In o (ids (refs_p xs)) → (s : Prop) × (seek_p o xs ≡ some s)) → In o (ids (refs_e e ++ refs_p xs))
    → (s : Prop) × (seek_e o e (some (key k)) (seek_p o xs) ≡ some s)
seek_p_all_head o k (scalar t b) xs ih m = ih m
seek_p_all_head o k (object x b) xs ih m = go m (eqb o (ref_rank x)) refl
  where
    go : (o ≡ ref_rank x) ⊎ In o (ids (refs_p xs)) → (t : Bool) → eqb o (ref_rank x) ≡ t → (s : Prop) × (cond (eqb o (ref_rank x)) (some (key k)) (seek_p o xs) ≡ some s)
    go m true e = (key k, ap (λ t. cond t (some (key k)) (seek_p o xs)) e)
    go (inl h) false e = absurd (eqb_not o (ref_rank x) e h)
    go (inr m) false e = ((ih m).0, ap (λ t. cond t (some (key k)) (seek_p o xs)) e ∙ (ih m).1)

seek_p_all : (o : ℕ) (m : List (Key × Item Ref)) → In o (ids (refs_p m)) → (s : Prop) × (seek_p o m ≡ some s)
seek_p_all o [] m = absurd m
seek_p_all o (x ∷ xs) m = seek_p_all_head o x.0 x.1 xs (seek_p_all o xs) m

pub seek_all : (o : ℕ) {W : Type 0} (ρ : Row W (Item Ref)) → In o (ids (refs ρ)) → (s : Prop) × (seek o ρ ≡ some s)
seek_all o (map_of m) h = seek_p_all o m h
seek_all o (list_of l) h = seek_l_all o 0 l h
seek_all o (text_of t) h = absurd h

-- what the laws give
module _ (d : Doc) (L : Lawful d) where
  abbrev Child : ℕ → Ref → Type 0
  Child i r = (i < ref_rank r) × (c : Obj) × (find d (ref_rank r) ≡ some c) × (c.kind ≡ r.kind) × (rank c.parent ≡ i)

  pub child : (i : ℕ) (q : Obj) → find d i ≡ some q → Every (Child i) (refs (items q))
  child i q e =
      every_map (NamesChild d q) (Child i) (refs (items q))
      (λ r _ (z, c, f, k, p).
      let n : name c ≡ ref_rank r = find_name d (ref_rank r) c f in
      let m : name q ≡ i = find_name d i q e in
      let (_, q', g, b) = find_every (HasParent d) d (ref_rank r) c L.children f (omega arith) in
      (omega arith, c, f, k, p ∙ m))
      (find_every (λ (o : Obj). Every (NamesChild d o) (refs (items o))) d i q L.entries e)

  each : (xs : Doc) → Every (λ (o : Obj). Every (NamesChild d o) (refs (items o))) xs → Later xs
  each [] h = tt
  each (o ∷ os) h = (
    every_map (NamesChild d o) (λ (r : Ref). name o < ref_rank r) (refs (items o))
        (λ r _ (z, c, f, k, p).
        let n : name c ≡ ref_rank r = find_name d (ref_rank r) c f in
        let (_, q', g, b) = find_every (HasParent d) d (ref_rank r) c L.children f (omega arith) in
        omega arith)
        h.0,
    each os h.1,
  )

  pub later_of : Later d
  later_of = each d L.entries

  abbrev par_of : ℕ → Option (Obj) → ℕ
  par_of x none = 0
  par_of x (some c) = cond (ltb (rank c.parent) x) (rank c.parent) 0

  abbrev pub par : ℕ → ℕ
  par x = par_of x (find d x)

  pub par≤ : (x : ℕ) → par x ≤ x
  par≤ x = go (find d x)
    where
      less : (c : Obj) (t : Bool) → ltb (rank c.parent) x ≡ t → cond t (rank c.parent) 0 ≤ x
      less c true h = let k = ltb_was (rank c.parent) x h in omega arith
      less c false h = omega arith

      go : (o : Option (Obj)) → par_of x o ≤ x
      go none = omega arith
      go (some c) = less c (ltb (rank c.parent) x) refl

  pub par_child : (i : ℕ) (r : Ref) → Child i r → par (ref_rank r) ≡ i
  par_child i r (b, c, f, k, p) =
      ap (par_of (ref_rank r)) f
      ∙ ap (λ t. cond t (rank c.parent) 0) (ltb_yes (rank c.parent) (ref_rank r) (omega arith))
      ∙ p

  pub kids : (i : ℕ) (q : Obj) → find d i ≡ some q → Every (λ (r : Ref). par (ref_rank r) ≡ i) (refs (items q))
  kids i q e = every_map (Child i) (λ (r : Ref). par (ref_rank r) ≡ i) (refs (items q)) (λ r _ h. par_child i r h) (child i q e)

  pub once : (i : ℕ) (q : Obj) → find d i ≡ some q → Apart (ids (refs (items q)))
  once i q e = find_every (λ (o : Obj). Apart (ids (refs (items o)))) d i q L.apart e

  pub rises : (i : ℕ) (q : Obj) → find d i ≡ some q → RowRises q.row
  rises i q e = find_every (λ (o : Obj). RowRises o.row) d i q L.keys e

  -- a path and one more step
  leads_more : (p : List Prop) (i j : ℕ) (q : Obj) (s : Prop) (r : Ref) → Leads d i p j → find d j ≡ some q → target s (items q) ≡ some r → Leads d i (p ++ (s ∷ [])) (ref_rank r)
  leads_more [] i j q s r h e t = (q, ap (find d) h ∙ e, r, t, refl)
  leads_more (x ∷ p) i j q s r (q', e', r', t', h) e t = (q', e', r', t', leads_more p (ref_rank r') j q s r h e t)

  abbrev onward : ℕ → ℕ → Option (List Step)
  onward n o = on_some (find d o) (λ c. on_some (find d (rank c.parent)) (λ q. on_some (seek o (items q)) (λ s. map (λ p. p ++ (record { leaves = q.ident; prop = s } ∷ [])) (climb d n (rank c.parent)))))

  at_root : (o : ℕ) (p : List Step) → eqb o 0 ≡ true → some [] ≡ some p → Leads d 0 (props p) o
  at_root o p h k = let m : [] ≡ p = cc in subst (λ t. Leads d 0 (props t) o) m (sym (eqb_yes o 0 h))

  pub climb_sound : (n o : ℕ) (p : List Step) → climb d n o ≡ some p → Leads d 0 (props p) o
  climb_sound zero o p e = go (eqb o 0) refl
    where
      go : (t : Bool) → eqb o 0 ≡ t → Leads d 0 (props p) o
      go true h = at_root o p h (subst (λ t. cond t (some []) none ≡ some p) h e)
      go false h = let k : ◌≡◌ {A = Option (List Step)} none (some p) = subst (λ t. cond t (some []) none ≡ some p) h e in let z : ◌≡◌ {A = ℕ} 0 1 = cc in absurd (omega arith)
  climb_sound (suc n) o p e = go (climb_sound n) (eqb o 0) refl
    where
      go : ((o : ℕ) (p : List Step) → climb d n o ≡ some p → Leads d 0 (props p) o) → (t : Bool) → eqb o 0 ≡ t → Leads d 0 (props p) o
      go ih true h = at_root o p h (subst (λ t. cond t (some []) (onward n o) ≡ some p) h e)
      go ih false h =
          let (c, fc, h₁) = on_some_some (find d o) _ p (subst (λ t. cond t (some []) (onward n o) ≡ some p) h e) in
          let (q, fq, h₂) = on_some_some (find d (rank c.parent)) _ p h₁ in
          let (s, fs, h₃) = on_some_some (seek o (items q)) _ p h₂ in
          let (p', fp, h₄) = map_some (climb d n (rank c.parent)) _ p h₃ in
          let (r, t, i) = seek_sound o (items q) s (items_rise q.row (rises (rank c.parent) q fq)) fs in
          let st : Step = record { leaves = q.ident; prop = s } in
          let way : Leads d 0 (props p' ++ (s ∷ [])) o = subst (λ x. Leads d 0 (props p' ++ (s ∷ [])) x) i (leads_more (props p') 0 (rank c.parent) q s r (ih (rank c.parent) p' fp) fq t) in
          subst (λ x. Leads d 0 (props x) o) h₄ (subst (λ x. Leads d 0 x o) (sym (props_end p' st)) way)

  abbrev pub Climbs : ℕ → Type 0
  Climbs x = (n : ℕ) → x ≤ n → (p : List Step) × (climb d n x ≡ some p)

  pub climbs_root : Climbs 0
  climbs_root zero h = ([], refl)
  climbs_root (suc n) h = ([], refl)

  pub climbs_more : (i : ℕ) (q : Obj) (r : Ref) → find d i ≡ some q → In r (refs (items q)) → Climbs i → Climbs (ref_rank r)
  climbs_more i q r e m up n h = go n h
    where
      go : (n : ℕ) → ref_rank r ≤ n → (p : List Step) × (climb d n (ref_rank r) ≡ some p)
      go zero h = let (b, c, f, k, p) = every_at (Child i) (refs (items q)) r (child i q e) m in absurd (omega arith)
      go (suc n) h =
          let (b, c, f, k, p) = every_at (Child i) (refs (items q)) r (child i q e) m in
          let (s, fs) = seek_all (ref_rank r) (items q) (in_ids r (refs (items q)) m) in
          let (w, fw) = up n (omega arith) in
          let nz : eqb (ref_rank r) 0 ≡ false = eqb_no (ref_rank r) 0 (λ z. omega arith) in (
            w ++ (record { leaves = q.ident; prop = s } ∷ []),
            ap (λ t. cond t (some []) (onward n (ref_rank r))) nz
                ∙ ap (λ t. on_some t (λ c. on_some (find d (rank c.parent)) (λ q. on_some (seek (ref_rank r) (items q)) (λ s. map (λ p. p ++ (record { leaves = q.ident; prop = s } ∷ [])) (climb d n (rank c.parent)))))) f
                ∙ ap (λ j. on_some (find d j) (λ q. on_some (seek (ref_rank r) (items q)) (λ s. map (λ p. p ++ (record { leaves = q.ident; prop = s } ∷ [])) (climb d n j)))) p
                ∙ ap (λ t. on_some t (λ q. on_some (seek (ref_rank r) (items q)) (λ s. map (λ p. p ++ (record { leaves = q.ident; prop = s } ∷ [])) (climb d n i)))) e
                ∙ ap (λ t. on_some t (λ s. map (λ p. p ++ (record { leaves = q.ident; prop = s } ∷ [])) (climb d n i))) fs
                ∙ ap (map (λ p. p ++ (record { leaves = q.ident; prop = s } ∷ []))) fw,
          )
