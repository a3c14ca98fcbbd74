-- That the test of the laws decides them.
use Rattle.std.specs.Prelude.{◌≡◌, ℕ, ◌<◌, ◌≤◌, Bool, true, false, cond, not, ◌&&◌, ◌||◌, ◌⊎◌, List, [], ◌∷◌, length, Decides, ◌==◌, nat_le, nat_lt, refl}
use Rattle.std.specs.declared.cmp.Ordering.TheVariants.{Less, Equal, Greater}
use Rattle.std.specs.declared.cmp.Ordering.{Ordering}
use Rattle.std.proofs.Common.{sym, ◌∙◌, ap, subst, inl, inr, arith}
use Rattle.std.proofs.Math.Option.{Option, none, some}
use Rattle.std.specs.Ordering.{is_gt, ordering_then}
use Rattle.std.proofs.lemmas.Bool.{false≢true, and_parts, and_from, leb-true, le-leb, ltb-true, lt-ltb, eqb-true, eq-eqb, not-true, not_from_false, cond-true, cond-false, le-ltb, ne_eqb, cases_order, cases_lt, eqb-false, or_left, or_right, cases_Bool, both_ways}
use Rattle.std.proofs.lemmas.Bool.Decides.{Decides-and, Decides-like, Decides-ltb}
use Rattle.types.specs.Limits.{limits}
use Rattle.types.specs.Identities.{compare_numbers}
use Rattle.types.specs.declared.types.ObjType.{ObjType}
use Rattle.types.specs.declared.types.ObjType.TheVariants.{Map, Table, List as Sequence, Text}
use Rattle.text_value.specs.Rfc3629.{utf8}
use Rattle.meaning.specs.Lists.{In, Every, Apart, memb}
use Rattle.meaning.specs.Entries.{rank, Key, compare_keys, Content, scalar_of, object_of, content_bytes, Entry, Ref, ref_rank, placed_as, placed}
use Rattle.meaning.specs.Rows.{map_of, list_of, text_of, refs, refs_e, refs_p, refs_l, ids}
use Rattle.meaning.specs.Values.{within_value}
use Rattle.meaning.specs.Documents.{DocRow, Obj, Doc, name, find, placed_pairs, placed_items, row_placed, items, Rising, FitsKind, After, KeysRise, RowRises, of_pairs, keys_of, row_entries, row_keys, well_spelt, GoodKey, GoodEntry, GoodText, doc_counts, Lawful}
use Rattle.document.specs.Places.{unkeyed, pairs, text_of?}
use Rattle.document.specs.Laws.{every, chain_from, chained, same_kind, earlier, rises, topped, map_in, rooted, present, child_ok, shape_ok, key_before, keys_ok, good_key, good_entry, good_pair, good_text, row_ok, ref_of, refs_of, belongs, ref_ok, named, refs_ok, lawful, TestIsLaws}

decides_leb : (a b : ℕ) → Decides (nat_le a b) (a ≤ b)
decides_leb a b = (leb-true a b, le-leb a b)

itself : (b : Bool) → Decides b (b ≡ true)
itself b = (λ h. h, λ h. h)

-- every
every_decides : {X : Type 0} (p : X → Bool) (P : X → Type 0) → ((x : X) → Decides (p x) (P x)) → (xs : List X) → Decides (every p xs) (Every P xs)
every_decides p P each [] = (λ h. tt, λ h. refl)
every_decides p P each (x ∷ xs) = Decides-and (p x) (every p xs) (each x) (every_decides p P each xs)

every_map : {X : Type 0} (P Q : X → Type 0) → ((x : X) → P x → Q x) → (xs : List X) → Every P xs → Every Q xs
every_map P Q f [] h = tt
every_map P Q f (x ∷ xs) h = (f x h.0, every_map P Q f xs h.1)

every_both : {X : Type 0} (P Q : X → Type 0) (xs : List X) → Every P xs → Every Q xs → Every (λ x. P x × Q x) xs
every_both P Q [] h k = tt
every_both P Q (x ∷ xs) h k = ((h.0, k.0), every_both P Q xs h.1 k.1)

-- kinds
kind_self : (a : ObjType) → same_kind a a ≡ true
kind_self Map = refl
kind_self Table = refl
kind_self Sequence = refl
kind_self Text = refl

kind_is : (a b : ObjType) → same_kind a b ≡ true → a ≡ b
kind_is Map Map h = refl
kind_is Map Table h = absurd (false≢true h)
kind_is Map Sequence h = absurd (false≢true h)
kind_is Map Text h = absurd (false≢true h)
kind_is Table Map h = absurd (false≢true h)
kind_is Table Table h = refl
kind_is Table Sequence h = absurd (false≢true h)
kind_is Table Text h = absurd (false≢true h)
kind_is Sequence Map h = absurd (false≢true h)
kind_is Sequence Table h = absurd (false≢true h)
kind_is Sequence Sequence h = refl
kind_is Sequence Text h = absurd (false≢true h)
kind_is Text Map h = absurd (false≢true h)
kind_is Text Table h = absurd (false≢true h)
kind_is Text Sequence h = absurd (false≢true h)
kind_is Text Text h = refl

kind_decides : (a b : ObjType) → Decides (same_kind a b) (a ≡ b)
kind_decides a b = (kind_is a b, λ e. subst (λ k. same_kind a k ≡ true) e (kind_self a))

yes_decides : Decides true (Unit {0})
yes_decides = (λ h. tt, λ h. refl)

no_decides : Decides false ⊥
no_decides = (λ h. absurd (false≢true h), λ h. absurd h)

pub shape_decides : (k : ObjType) (w : DocRow) → Decides (shape_ok k w) (FitsKind k w)
shape_decides Map (map_of m) = yes_decides
shape_decides Map (list_of l) = no_decides
shape_decides Map (text_of t) = no_decides
shape_decides Table (map_of m) = yes_decides
shape_decides Table (list_of l) = no_decides
shape_decides Table (text_of t) = no_decides
shape_decides Sequence (map_of m) = no_decides
shape_decides Sequence (list_of l) = yes_decides
shape_decides Sequence (text_of t) = no_decides
shape_decides Text (map_of m) = no_decides
shape_decides Text (list_of l) = no_decides
shape_decides Text (text_of t) = yes_decides

-- chains
module _ {X : Type 0} (lt : X → X → Bool) (across : (x y z : X) → lt x y ≡ true → lt y z ≡ true → lt x z ≡ true) where
  chain_every : (x : X) (xs : List X) → chain_from lt x xs ≡ true → Every (λ y. lt x y ≡ true) xs
  chain_every x [] h = tt
  chain_every x (y ∷ ys) h =
      let p = and_parts (lt x y) (chain_from lt y ys) h in
      (p.0, every_map (λ z. lt y z ≡ true) (λ z. lt x z ≡ true) (λ z k. across x y z p.0 k) ys (chain_every y ys p.1))

  chain_tail : (x : X) (xs : List X) → chain_from lt x xs ≡ true → chained lt xs ≡ true
  chain_tail x [] h = refl
  chain_tail x (y ∷ ys) h = (and_parts (lt x y) (chain_from lt y ys) h).1

earlier_across : (x y z : Obj) → earlier x y ≡ true → earlier y z ≡ true → earlier x z ≡ true
earlier_across x y z h k = lt-ltb _ _ (let a = ltb-true _ _ h in let b = ltb-true _ _ k in omega arith)

rises_holds : (d : Doc) → rises d ≡ true → Rising d
rises_holds [] h = tt
rises_holds (o ∷ os) h =
    (every_map (λ q. earlier o q ≡ true) (λ (q : Obj). name o < name q) (λ q k. ltb-true _ _ k) os (chain_every earlier earlier_across o os h), rises_holds os (chain_tail earlier earlier_across o os h))

rises_back : (d : Doc) → Rising d → rises d ≡ true
rises_back [] h = refl
rises_back (o ∷ []) h = refl
rises_back (o ∷ (q ∷ os)) h = and_from (earlier o q) (chain_from earlier q os) (lt-ltb _ _ h.0.0) (rises_back (q ∷ os) h.1)

-- keys
gt_is : (o : Ordering) → is_gt o ≡ true → o ≡ Greater
gt_is Less h = absurd (false≢true h)
gt_is Equal h = absurd (false≢true h)
gt_is Greater h = refl

data Compared (x y : ℕ) : Type 0 where
  below : compare_numbers x y ≡ Less → Compared x y
  level : compare_numbers x y ≡ Equal → x ≡ y → Compared x y
  above : compare_numbers x y ≡ Greater → y < x → Compared x y

ahead : (x y : ℕ) → y < x → compare_numbers x y ≡ Greater
ahead x y h = cond-false (nat_lt x y) Less (cond (x == y) Equal Greater) (le-ltb x y (omega arith)) ∙ cond-false (x == y) Equal Greater (ne_eqb x y (λ e. omega arith))

compared : (x y : ℕ) → Compared x y
compared x y = elim (cases_order x y) [
  | inl e ↦ level (cond-false (nat_lt x y) Less (cond (x == y) Equal Greater) (le-ltb x y (omega arith)) ∙ cond-true (x == y) Equal Greater (eq-eqb x y e)) e
  | inr s ↦ elim s [ inl m ↦ below (cond-true (nat_lt x y) Less (cond (x == y) Equal Greater) (lt-ltb x y m)) | inr m ↦ above (ahead x y m) m ]
]

-- of two keys that differ in their first byte or not
first_above : (x z : ℕ) (o : Ordering) → z < x → is_gt (ordering_then (compare_numbers x z) o) ≡ true
first_above x z o m = ap (λ c. is_gt (ordering_then c o)) (ahead x z m)

keys_across : (a b c : Key) → is_gt (compare_keys a b) ≡ true → is_gt (compare_keys b c) ≡ true → is_gt (compare_keys a c) ≡ true
keys_across [] [] c h k = absurd (false≢true h)
keys_across [] (y ∷ b) c h k = absurd (false≢true h)
keys_across (x ∷ a) [] [] h k = absurd (false≢true k)
keys_across (x ∷ a) [] (z ∷ c) h k = absurd (false≢true k)
keys_across (x ∷ a) (y ∷ b) [] h k = refl
keys_across (x ∷ a) (y ∷ b) (z ∷ c) h k = go (compared x y) (compared y z) (keys_across a b c)
  where
    go : Compared x y → Compared y z → (is_gt (compare_keys a b) ≡ true → is_gt (compare_keys b c) ≡ true → is_gt (compare_keys a c) ≡ true) → is_gt (ordering_then (compare_numbers x z) (compare_keys a c)) ≡ true
    go (below e) q ih = absurd (false≢true (sym (ap (λ o. is_gt (ordering_then o (compare_keys a b))) e) ∙ h))
    go (level e s) (below f) ih = absurd (false≢true (sym (ap (λ o. is_gt (ordering_then o (compare_keys b c))) f) ∙ k))
    go (above e m) (below f) ih = absurd (false≢true (sym (ap (λ o. is_gt (ordering_then o (compare_keys b c))) f) ∙ k))
    go (level e s) (level f r) ih =
        let i = ih (sym (ap (λ o. is_gt (ordering_then o (compare_keys a b))) e) ∙ h) (sym (ap (λ o. is_gt (ordering_then o (compare_keys b c))) f) ∙ k) in
        subst (λ n. is_gt (ordering_then (compare_numbers n z) (compare_keys a c)) ≡ true) (sym s) (ap (λ o. is_gt (ordering_then o (compare_keys a c))) f ∙ i)
    go (level e s) (above f m) ih = first_above x z (compare_keys a c) (omega arith)
    go (above e m) (level f r) ih = first_above x z (compare_keys a c) (omega arith)
    go (above e m) (above f n) ih = first_above x z (compare_keys a c) (omega arith)

key_across : (p q r : Key × Entry) → key_before p q ≡ true → key_before q r ≡ true → key_before p r ≡ true
key_across p q r h k = keys_across r.0 q.0 p.0 k h

after_holds : (k : Key) (e : Entry) (m : List (Key × Entry)) → Every (λ q. key_before (k, e) q ≡ true) m → After k m
after_holds k e [] h = tt
after_holds k e (q ∷ m) h = (gt_is _ h.0, after_holds k e m h.1)

keys_hold : (m : List (Key × Entry)) → chained key_before m ≡ true → KeysRise m
keys_hold [] h = tt
keys_hold (p ∷ m) h = (after_holds p.0 p.1 m (chain_every key_before key_across p m h), keys_hold m (chain_tail key_before key_across p m h))

keys_back : (m : List (Key × Entry)) → KeysRise m → chained key_before m ≡ true
keys_back [] h = refl
keys_back (p ∷ []) h = refl
keys_back (p ∷ (q ∷ m)) h = and_from (key_before p q) (chain_from key_before q m) (ap is_gt h.0.0) (keys_back (q ∷ m) h.1)

keys_decides : (w : DocRow) → Decides (keys_ok w) (RowRises w)
keys_decides (map_of m) = (keys_hold m, keys_back m)
keys_decides (list_of l) = yes_decides
keys_decides (text_of t) = yes_decides

-- single keys, entries and texts
key_decides : (k : Key) → Decides (good_key k) (GoodKey k)
key_decides k = Decides-and (nat_le (length k) limits.key_bytes) (utf8 k) (decides_leb _ _) (itself (utf8 k))

entry_decides : (e : Entry) → Decides (good_entry e) (GoodEntry e)
entry_decides e =
    Decides-like (good_entry e) (λ h. (h.0, h.1.0, h.1.1)) (λ h. (h.0, (h.1, h.2)))
    (Decides-and (nat_lt 0 e.ident.counter) _ (Decides-ltb _ _) (Decides-and (nat_le (content_bytes e.content) limits.scalar_bytes) (well_spelt e.content) (decides_leb _ _) (itself _)))

none_good : good_key [] ≡ true
unfolding utf8
none_good = refl

pair_decides : (p : Key × Entry) → Decides (good_pair p) (GoodKey p.0 × GoodEntry p.1)
pair_decides p = Decides-and (good_key p.0) (good_entry p.1) (key_decides p.0) (entry_decides p.1)

abbrev Good : DocRow → Type 0
Good w = Every GoodKey (row_keys w) × Every GoodEntry (row_entries w)

map_good : (m : List (Key × Entry)) → Decides (every good_pair m) (Every GoodKey (keys_of m) × Every GoodEntry (of_pairs m))
map_good [] = (λ h. (tt, tt), λ h. refl)
map_good (p ∷ m) =
    Decides-like (every good_pair (p ∷ m)) (λ h. ((h.0.0, h.1.0), (h.0.1, h.1.1))) (λ h. ((h.0.0, h.1.0), (h.0.1, h.1.1)))
    (Decides-and (good_pair p) (every good_pair m) (pair_decides p) (map_good m))

list_good : (l : List Entry) → Decides (every good_pair (unkeyed l)) (Every GoodEntry l)
list_good [] = yes_decides
list_good (e ∷ l) =
    Decides-and (good_pair ([], e)) (every good_pair (unkeyed l)) (λ h. (entry_decides e).0 (and_parts (good_key []) (good_entry e) h).1, λ h. and_from (good_key []) (good_entry e) none_good ((entry_decides e).1 h)) (list_good l)

good_decides : (w : DocRow) → Decides (every good_pair (pairs w)) (Good w)
good_decides (map_of m) = map_good m
good_decides (list_of l) = Decides-like (every good_pair (unkeyed l)) (λ h. (tt, h)) (λ h. h.1) (list_good l)
good_decides (text_of t) = (λ h. (tt, tt), λ h. refl)

text_decides : (w : DocRow) → Decides (good_text (text_of? w)) (GoodText w)
text_decides (map_of m) = yes_decides
text_decides (list_of l) = yes_decides
text_decides (text_of t) = itself (utf8 t)

abbrev RowLaws : Obj → Type 0
RowLaws o = FitsKind o.kind o.row × (RowRises o.row × (Good o.row × GoodText o.row))

row_decides : (o : Obj) → Decides (row_ok o) (RowLaws o)
row_decides o =
    Decides-and (shape_ok o.kind o.row) _ (shape_decides o.kind o.row)
    (Decides-and (keys_ok o.row) _ (keys_decides o.row) (Decides-and (every good_pair (pairs o.row)) (good_text (text_of? o.row)) (good_decides o.row) (text_decides o.row)))

-- the root
abbrev Rooted : Option Obj → Type 0
Rooted f = (o : Obj) × (f ≡ some o) × (o.kind ≡ Map)

map_decides : (f : Option Obj) → Decides (map_in f) (Rooted f)
map_decides none = (λ h. absurd (false≢true h), λ h. let e = h.1 in let z : ◌≡◌ {A = ℕ} 0 1 = cc in absurd (omega arith))
map_decides (some o) = (
  λ h. (o, refl, kind_is o.kind Map h),
  λ h. let e = h.1 in let f = h.2 in let g : o.kind ≡ Map = cc in subst (λ k. same_kind k Map ≡ true) (sym g) refl,
)

-- the parents
present_decides : (f : Option Obj) → Decides (present f) ((q : Obj) × (f ≡ some q))
present_decides none = (λ h. absurd (false≢true h), λ h. let e = h.1 in let z : ◌≡◌ {A = ℕ} 0 1 = cc in absurd (omega arith))
present_decides (some o) = (λ h. (o, refl), λ h. refl)

abbrev Child : Doc → Obj → Type 0
Child d o = 0 < name o → (0 < o.ident.0.counter) × (q : Obj) × (find d (rank o.parent) ≡ some q) × (rank o.parent < name o)

child_decides : (d : Doc) (o : Obj) → Decides (child_ok d o) (Child d o)
child_decides d o = (forth (cases_Bool (name o == 0)), back (cases_Bool (name o == 0)))
  where
    forth : ((name o == 0) ≡ true) ⊎ ((name o == 0) ≡ false) → child_ok d o ≡ true → Child d o
    forth (inl e) h m = absurd (let z = eqb-true _ _ e in omega arith)
    forth (inr e) h m =
        let a = and_parts (nat_lt 0 o.ident.0.counter) (nat_lt (rank o.parent) (name o) && present (find d (rank o.parent))) (sym (ap (λ t. t || (nat_lt 0 o.ident.0.counter && (nat_lt (rank o.parent) (name o) && present (find d (rank o.parent))))) e) ∙ h) in
        let b = and_parts (nat_lt (rank o.parent) (name o)) (present (find d (rank o.parent))) a.1 in
        let q = (present_decides (find d (rank o.parent))).0 b.1 in
        (ltb-true _ _ a.0, q.0, q.1, ltb-true _ _ b.0)

    back : ((name o == 0) ≡ true) ⊎ ((name o == 0) ≡ false) → Child d o → child_ok d o ≡ true
    back (inl e) h = or_left (name o == 0) _ e
    back (inr e) h =
        let m : 0 < name o = elim (cases_lt 0 (name o)) [ inl m ↦ m | inr m ↦ absurd (eqb-false _ _ e (omega arith)) ] in
        let c = h m in
        or_right (name o == 0) _
        (and_from (nat_lt 0 o.ident.0.counter) (nat_lt (rank o.parent) (name o) && present (find d (rank o.parent))) (lt-ltb _ _ c.0)
        (and_from (nat_lt (rank o.parent) (name o)) (present (find d (rank o.parent))) (lt-ltb _ _ c.3) ((present_decides (find d (rank o.parent))).1 (c.1, c.2))))

-- what entries name
one_ref : (e : Entry) → refs_e (placed (λ r. r) e) ≡ ref_of e.content e.ident
one_ref e = go e.content
  where
    go : (k : Content) → refs_e (placed_as (λ r. r) k e.ident e.flag) ≡ ref_of k e.ident
    go (scalar_of s) = refl
    go (object_of k) = refl

pairs_refs : (m : List (Key × Entry)) → refs_p (placed_pairs (λ r. r) m) ≡ refs_of m
pairs_refs [] = refl
pairs_refs (p ∷ m) = let a = one_ref p.1 in let b = pairs_refs m in cc

list_refs : (l : List Entry) → refs_l (placed_items (λ r. r) l) ≡ refs_of (unkeyed l)
list_refs [] = refl
list_refs (e ∷ l) = let a = one_ref e in let b = list_refs l in cc

pub row_refs : (w : DocRow) → refs (row_placed (λ r. r) w) ≡ refs_of (pairs w)
row_refs (map_of m) = pairs_refs m
row_refs (list_of l) = list_refs l
row_refs (text_of t) = refl

abbrev Names : Doc → ℕ → Ref → Type 0
Names d owner r = (0 < ref_rank r) × (c : Obj) × (find d (ref_rank r) ≡ some c) × (c.kind ≡ r.kind) × (rank c.parent ≡ owner)

belongs_decides : (owner : ℕ) (k : ObjType) (f : Option Obj) → Decides (belongs owner k f) ((c : Obj) × (f ≡ some c) × (c.kind ≡ k) × (rank c.parent ≡ owner))
belongs_decides owner k none = (λ h. absurd (false≢true h), λ h. let e = h.1 in let z : ◌≡◌ {A = ℕ} 0 1 = cc in absurd (omega arith))
belongs_decides owner k (some o) = (
  λ h. let p = and_parts (same_kind o.kind k) (rank o.parent == owner) h in (o, refl, kind_is o.kind k p.0, eqb-true _ _ p.1),
  λ h. let s : o ≡ h.0 = let e = h.1 in cc in
      and_from (same_kind o.kind k) (rank o.parent == owner) ((kind_decides o.kind k).1 (ap (λ (c : Obj). c.kind) s ∙ h.2)) (eq-eqb _ _ (ap (λ (c : Obj). rank c.parent) s ∙ h.3)),
)

ref_decides : (d : Doc) (owner : ℕ) (r : Ref) → Decides (ref_ok d owner r) (Names d owner r)
ref_decides d owner r =
    Decides-like (ref_ok d owner r) (λ h. (h.0, h.1.0, h.1.1, h.1.2, h.1.3)) (λ h. (h.0, (h.1, h.2, h.3, h.4)))
    (Decides-and (nat_lt 0 (ref_rank r)) (belongs owner r.kind (find d (ref_rank r))) (Decides-ltb _ _) (belongs_decides owner r.kind (find d (ref_rank r))))

memb_in : (x : ℕ) (xs : List ℕ) → In x xs → memb x xs ≡ true
memb_in x [] i = absurd i
memb_in x (y ∷ ys) (inl e) = cond-true (x == y) true (memb x ys) (eq-eqb x y e)
memb_in x (y ∷ ys) (inr i) = elim (cases_Bool (x == y)) [ inl e ↦ cond-true (x == y) true (memb x ys) e | inr e ↦ cond-false (x == y) true (memb x ys) e ∙ memb_in x ys i ]

in_memb : (x : ℕ) (xs : List ℕ) → memb x xs ≡ true → In x xs
in_memb x [] h = absurd (false≢true h)
in_memb x (y ∷ ys) h = elim (cases_Bool (x == y)) [ inl e ↦ inl (eqb-true x y e) | inr e ↦ inr (in_memb x ys (sym (cond-false (x == y) true (memb x ys) e) ∙ h)) ]

abbrev Outside : List ℕ → List Ref → Type 0
Outside seen rs = Every (λ (r : Ref). In (ref_rank r) seen → ⊥) rs

outside_all : (x : ℕ) (seen : List ℕ) (rs : List Ref) → Outside (x ∷ seen) rs → Outside seen rs × (In x (ids rs) → ⊥)
outside_all x seen [] h = (tt, λ i. i)
outside_all x seen (r ∷ rs) h =
    let t = outside_all x seen rs h.1 in
    ((λ i. h.0 (inr i), t.0), λ i. elim i [ inl e ↦ h.0 (inl (sym e)) | inr j ↦ t.1 j ])

outside_more : (x : ℕ) (seen : List ℕ) (rs : List Ref) → Outside seen rs → (In x (ids rs) → ⊥) → Outside (x ∷ seen) rs
outside_more x seen [] h n = tt
outside_more x seen (r ∷ rs) h n = (λ i. elim i [ inl e ↦ n (inl (sym e)) | inr j ↦ h.0 j ], outside_more x seen rs h.1 (λ i. n (inr i)))

-- each names an object, none that was seen, and none twice
abbrev Named : Doc → ℕ → List ℕ → List Ref → Type 0
Named d owner seen rs = Every (Names d owner) rs × (Outside seen rs × Apart (ids rs))

named_holds : (d : Doc) (owner : ℕ) (seen : List ℕ) (rs : List Ref) → named d owner seen rs ≡ true → Named d owner seen rs
named_holds d owner seen [] h = (tt, (tt, tt))
named_holds d owner seen (r ∷ rs) h =
    let a = and_parts (ref_ok d owner r) (not (memb (ref_rank r) seen) && named d owner (ref_rank r ∷ seen) rs) h in
    let b = and_parts (not (memb (ref_rank r) seen)) (named d owner (ref_rank r ∷ seen) rs) a.1 in
    let t = named_holds d owner (ref_rank r ∷ seen) rs b.1 in
    let o = outside_all (ref_rank r) seen rs t.1.0 in
    (((ref_decides d owner r).0 a.0, t.0), ((λ i. both_ways _ (not-true _ b.0) (memb_in (ref_rank r) seen i), o.0), (o.1, t.1.1)))

named_back : (d : Doc) (owner : ℕ) (seen : List ℕ) (rs : List Ref) → Named d owner seen rs → named d owner seen rs ≡ true
named_back d owner seen [] h = refl
named_back d owner seen (r ∷ rs) h =
    let fresh : memb (ref_rank r) seen ≡ false = elim (cases_Bool (memb (ref_rank r) seen)) [ inl e ↦ absurd (h.1.0.0 (in_memb (ref_rank r) seen e)) | inr e ↦ e ] in
    and_from (ref_ok d owner r) (not (memb (ref_rank r) seen) && named d owner (ref_rank r ∷ seen) rs) ((ref_decides d owner r).1 h.0.0)
    (and_from (not (memb (ref_rank r) seen)) (named d owner (ref_rank r ∷ seen) rs) (not_from_false _ fresh)
    (named_back d owner (ref_rank r ∷ seen) rs (h.0.1, (outside_more (ref_rank r) seen rs h.1.0.1 h.1.1.0, h.1.1.1))))

outside_none : (rs : List Ref) → Outside [] rs
outside_none [] = tt
outside_none (r ∷ rs) = (λ i. i, outside_none rs)

abbrev RefLaws : Doc → Obj → Type 0
RefLaws d o = Every (Names d (name o)) (refs (items o)) × Apart (ids (refs (items o)))

refs_decides : (d : Doc) (o : Obj) → Decides (refs_ok d o) (RefLaws d o)
refs_decides d o = (
  λ h. let n = named_holds d (name o) [] (refs_of (pairs o.row)) h in
      subst (λ rs. Every (Names d (name o)) rs × Apart (ids rs)) (sym (row_refs o.row)) (n.0, n.1.1),
  λ h. let n : Every (Names d (name o)) (refs_of (pairs o.row)) × Apart (ids (refs_of (pairs o.row))) = subst (λ rs. Every (Names d (name o)) rs × Apart (ids rs)) (row_refs o.row) h in
      named_back d (name o) [] (refs_of (pairs o.row)) (n.0, (outside_none _, n.1)),
)

-- all of them
abbrev AllLaws : Doc → Type 0
AllLaws d = (length d ≤ limits.document_objects) × (Rising d × ((Rooted (find d 0) × (topped d ≡ true)) × (Every (Child d) d × ((within_value (doc_counts d) ≡ true) × (Every RowLaws d × Every (RefLaws d) d)))))

all_decides : (d : Doc) → Decides (lawful d) (AllLaws d)
all_decides d =
    Decides-and (nat_le (length d) limits.document_objects) _ (decides_leb _ _)
    (Decides-and (rises d) _ (rises_holds d, rises_back d)
    (Decides-and (rooted d) _ (Decides-and (map_in (find d 0)) (topped d) (map_decides (find d 0)) (itself (topped d)))
    (Decides-and (every (child_ok d) d) _ (every_decides (child_ok d) (Child d) (child_decides d) d)
    (Decides-and (within_value (doc_counts d)) _ (itself _)
    (Decides-and (every row_ok d) (every (refs_ok d) d) (every_decides row_ok RowLaws row_decides d) (every_decides (refs_ok d) (RefLaws d) (refs_decides d) d))))))

laws_from : (d : Doc) → AllLaws d → Lawful d
laws_from d h =
    let w = h.1.1.1.1.1.0 in
    let r = h.1.1.1.1.1.1 in
    record {
      rising = h.1.0;
      rooted = h.1.1.0.0;
      children = h.1.1.1.0;
      entries = every_map (RefLaws d) _ (λ o k. k.0) d r;
      apart = every_map (RefLaws d) _ (λ o k. k.1) d r;
      shapes = every_map RowLaws _ (λ o k. k.0) d w;
      keys = every_map RowLaws _ (λ o k. k.1.0) d w;
      good_keys = every_map RowLaws _ (λ o k. k.1.1.0.0) d w;
      good_entries = every_map RowLaws _ (λ o k. k.1.1.0.1) d w;
      good_texts = every_map RowLaws _ (λ o k. k.1.1.1) d w;
      objects = h.0;
      bounded = h.1.1.1.1.0;
    }

laws_to : (d : Doc) → Lawful d → topped d ≡ true → AllLaws d
laws_to d l t = (
  l.objects,
  (
    l.rising,
    (
      (l.rooted, t),
      (
        l.children,
        (
          l.bounded,
          (
            every_both (λ (o : Obj). FitsKind o.kind o.row) _ d l.shapes (every_both (λ (o : Obj). RowRises o.row) _ d l.keys (every_both (λ (o : Obj). Good o.row) _ d (every_both (λ (o : Obj). Every GoodKey (row_keys o.row)) _ d l.good_keys l.good_entries) l.good_texts)),
            every_both (λ (o : Obj). Every (Names d (name o)) (refs (items o))) _ d l.entries l.apart,
          ),
        ),
      ),
    ),
  ),
)

pub test_is_laws : TestIsLaws
test_is_laws d = (
  λ h. let a = (all_decides d).0 h in (laws_from d a, a.1.1.0.1),
  λ h. (all_decides d).1 (laws_to d h.0 h.1),
)

-- What finding by halves asks of a document that passed the test.
pub test_rises : (d : Doc) → lawful d ≡ true → rises d ≡ true
test_rises d h = rises_back d ((all_decides d).0 h).1.0
