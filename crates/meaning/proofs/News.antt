-- Which identities are new: the exposed, and what a new object's row names.
use Rattle.std.proofs.Common.{◌≡◌, ℕ, ◌<◌, Bool, true, false, cond, ◌||◌, ◌⊎◌, List, [], ◌∷◌, ◌++◌, sym, refl, ap, ◌∙◌, subst, inl, inr, arith}
use mathlib.Core.Option.{some}
use Rattle.meaning.specs.Lists.{In, Every, memb}
use Rattle.meaning.specs.Entries.{rank, Ref, ref_rank}
use Rattle.meaning.specs.Rows.{refs, ids}
use Rattle.meaning.specs.Documents.{Obj, name, Doc, find, items, Rising, Lawful}
use Rattle.meaning.specs.Making.{new_by, news}
use Rattle.meaning.proofs.Tests.{or_cases, or_right}
use Rattle.meaning.proofs.Members.{in_append, append_inl, append_inr, every_in, every_at, in_ids, in_ids_ref, memb_in, in_memb, memb_out}
use Rattle.meaning.proofs.Found.{find_name, find_in, in_find}
use Rattle.meaning.proofs.Tree.{Later}
use Rattle.meaning.proofs.Paths.{child, later_of}

abbrev pub kin : Obj → List ℕ
kin o = ids (refs (items o))

new_by_keeps : (o : Obj) (acc : List ℕ) (x : ℕ) → In x acc → In x (new_by o acc)
new_by_keeps o acc x m = go (memb (name o) acc)
  where
    go : (t : Bool) → In x (cond t (kin o ++ acc) acc)
    go true = append_inr x (kin o) acc m
    go false = m

pub news_keeps : (d : Doc) (acc : List ℕ) (x : ℕ) → In x acc → In x (news acc d)
news_keeps [] acc x m = m
news_keeps (o ∷ os) acc x m = news_keeps os (new_by o acc) x (new_by_keeps o acc x m)

new_by_from : (o : Obj) (acc : List ℕ) (x : ℕ) → In x (new_by o acc) → In x acc ⊎ (In (name o) acc × In x (kin o))
new_by_from o acc x m = go (memb (name o) acc) refl m
  where
    go : (t : Bool) → memb (name o) acc ≡ t → In x (cond t (kin o ++ acc) acc) → In x acc ⊎ (In (name o) acc × In x (kin o))
    go true e m = elim (in_append x (kin o) acc m) [ inl h ↦ inr (in_memb (name o) acc e, h) | inr h ↦ inl h ]
    go false e m = inl m

-- an object of d that is new and names x
abbrev pub Named : Doc → List ℕ → ℕ → Type 0
Named d w x = (o : Obj) × In o d × In (name o) w × In x (kin o)

pub news_from : (d : Doc) (acc : List ℕ) (x : ℕ) → In x (news acc d) → In x acc ⊎ Named d (news acc d) x
news_from [] acc x m = inl m
news_from (o ∷ os) acc x m = go (news_from os (new_by o acc) x m)
  where
    go : In x (new_by o acc) ⊎ Named os (news (new_by o acc) os) x → In x acc ⊎ Named (o ∷ os) (news acc (o ∷ os)) x
    go (inl h) = elim (new_by_from o acc x h) [ inl k ↦ inl k | inr k ↦ inr (o, inl refl, news_keeps os (new_by o acc) (name o) (new_by_keeps o acc (name o) k.0), k.1) ]
    go (inr (p, i, n, k)) = inr (p, inr i, n, k)

kin_later : (o : Obj) (x : ℕ) → Every (λ (r : Ref). name o < ref_rank r) (refs (items o)) → In x (kin o) → name o < x
kin_later o x h m = let (r, i, e) = in_ids_ref x (refs (items o)) m in let k = every_at (λ (r : Ref). name o < ref_rank r) (refs (items o)) r h i in omega arith

pub news_takes : (d : Doc) (acc : List ℕ) → Rising d → Later d → (o : Obj) (x : ℕ) → In o d → In (name o) (news acc d) → In x (kin o) → In x (news acc d)
news_takes [] acc up late o x i n k = absurd i
news_takes (p ∷ os) acc up late o x (inr i) n k = news_takes os (new_by p acc) up.1 late.1 o x i n k
news_takes (p ∷ os) acc up late o x (inl e) n k = news_keeps os (new_by p acc) x there
  where
    n' : In (name p) (news (new_by p acc) os)
    n' = subst (λ (q : Obj). In (name q) (news (new_by p acc) os)) e n

    before : In (name p) acc
    before =
        elim (news_from os (new_by p acc) (name p) n') [
          | inl h ↦ elim (new_by_from p acc (name p) h) [ inl g ↦ g | inr g ↦ absurd (let a = kin_later p (name p) late.0 g.1 in omega arith) ]
          | inr (q, i, m, h) ↦ absurd (let a = every_at (λ (q : Obj). name p < name q) os q up.0 i in let b = kin_later q (name p) (every_at _ os q late.1 i) h in omega arith)
        ]

    there : In x (new_by p acc)
    there = subst (λ t. In x (cond t (kin p ++ acc) acc)) (sym (memb_in (name p) acc before)) (append_inl x (kin p) acc (subst (λ (q : Obj). In x (kin q)) e k))

pub bool_iff : (a b : Bool) → (a ≡ true → b ≡ true) → (b ≡ true → a ≡ true) → a ≡ b
bool_iff true b f g = sym (f refl)
bool_iff false true f g = g refl
bool_iff false false f g = refl

module _ (db : Doc) (LB : Lawful db) (exposed : List ℕ) (above : Every (λ x. 0 < x) exposed) where
  abbrev pub nw : ℕ → Bool
  nw x = memb x (news exposed db)

  -- one parent
  pub one_parent : (i : ℕ) (q : Obj) (r : Ref) (o : Obj) → find db i ≡ some q → In r (refs (items q)) → In o db → In (ref_rank r) (kin o) → name o ≡ i
  one_parent i q r o e m io k =
      let (r', i', e') = in_ids_ref (ref_rank r) (refs (items o)) k in
      let (_, c, f, _, p) = every_at _ (refs (items q)) r (child db LB i q e) m in
      let (_, c', f', _, p') = every_at _ (refs (items o)) r' (child db LB (name o) o (in_find db o LB.rising io)) i' in
      let g : find db (ref_rank r) ≡ some c' = ap (find db) e' ∙ f' in
      let same : c ≡ c' = cc in
      sym p' ∙ ap (λ (x : Obj). rank x.parent) (sym same) ∙ p

  pub nw_root : nw 0 ≡ false
  nw_root = memb_out 0 (news exposed db) (λ m. go (news_from db exposed 0 m))
    where
      go : In 0 exposed ⊎ Named db (news exposed db) 0 → ⊥
      go (inl h) = let a = every_at (λ x. 0 < x) exposed 0 above h in omega arith
      go (inr (o, i, n, k)) = let (r, m, e) = in_ids_ref 0 (refs (items o)) k in let a = every_at (λ (r : Ref). name o < ref_rank r) (refs (items o)) r (every_at _ db o (later_of db LB) i) m in omega arith

  pub nw_kid : (i : ℕ) (q : Obj) → find db i ≡ some q → Every (λ (r : Ref). nw (ref_rank r) ≡ (memb (ref_rank r) exposed || nw i)) (refs (items q))
  nw_kid i q e = every_in (λ (r : Ref). nw (ref_rank r) ≡ (memb (ref_rank r) exposed || nw i)) (refs (items q)) (λ r m. bool_iff (nw (ref_rank r)) (memb (ref_rank r) exposed || nw i) (to r m) (fro r m))
    where
      to : (r : Ref) → In r (refs (items q)) → nw (ref_rank r) ≡ true → (memb (ref_rank r) exposed || nw i) ≡ true
      to r m h =
          elim (news_from db exposed (ref_rank r) (in_memb (ref_rank r) (news exposed db) h)) [
            | inl g ↦ ap (λ t. t || nw i) (memb_in (ref_rank r) exposed g)
            | inr (o, io, n, k) ↦ ap (λ t. memb (ref_rank r) exposed || t) (ap nw (sym (one_parent i q r o e m io k)) ∙ memb_in (name o) (news exposed db) n) ∙ or_right (memb (ref_rank r) exposed)
          ]

      fro : (r : Ref) → In r (refs (items q)) → (memb (ref_rank r) exposed || nw i) ≡ true → nw (ref_rank r) ≡ true
      fro r m h =
          elim (or_cases (memb (ref_rank r) exposed) (nw i) h) [
            | inl g ↦ memb_in (ref_rank r) (news exposed db) (news_keeps db exposed (ref_rank r) (in_memb (ref_rank r) exposed g))
            | inr g ↦ memb_in (ref_rank r) (news exposed db) (news_takes db exposed LB.rising (later_of db LB) q (ref_rank r) (find_in db i q e) (subst (λ t. In t (news exposed db)) (sym (find_name db i q e)) (in_memb i (news exposed db) g)) (in_ids r (refs (items q)) m))
          ]
