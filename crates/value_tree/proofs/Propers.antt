-- Proper trees, and what keeps them so.
use Rattle.std.proofs.Common.{◌≡◌, ℕ, ◌+◌, ◌-◌, ◌<◌, ◌≤◌, Bool, true, false, ◌⊎◌, List, [], ◌∷◌, map, length, get_or, take, ℤ, ◌+ℤ◌, All, Ordering, Less, Equal, Greater, sym, refl, ap, ◌∙◌, inl, inr, ⊎_elim, arith}
use mathlib.Core.Path.{path_j'}
use mathlib.Core.HLevel.{×_prop}
use base.Stored.{Coded, coded_ℕ, coded_list}
use denote.Struct.Props.{≡_prop}
use Rattle.std.proofs.lemmas.List.Elements.{All-nil, All-cons, All-head, All-tail, All-get_or, All-from_get_or, All-append, All-take, All-drop, All-map}
use Rattle.std.proofs.lemmas.List.{get_or_default}
use Rattle.std.proofs.lemmas.Bool.{false≢true, cases_lt, cases_eq, cases_order}
use Rattle.sequence_tree.specs.Lists.{spliced}
use Rattle.sequence_tree.proofs.Splices.{length_spliced, get_or_spliced_below, get_or_spliced_above}
use Rattle.meaning.specs.Entries.{Key, compare_keys, Scalar, null, boolean, int, uint, timestamp, counter, str, bytes, Content, scalar_of, object_of, Entry}
use Rattle.node_chains.specs.Contents.{is_map}
use Rattle.node_chains.specs.Tree.{Tree, Forest, node, none, more, forest, trees, change, update, splice_kids, relabel}
use Rattle.node_chains.specs.declared.node.Content.{Content as NodeContent}
use Rattle.node_chains.specs.declared.node.Content.TheVariants.{Map, List as Sequence, Text, Null, Boolean, Int, Uint, Timestamp, Counter, Str, Bytes}
use Rattle.node_chains.proofs.Frames.{trees_forest}
use Rattle.node_chains.proofs.Memories.{length_put, put_low, put_at, put_high}
use Rattle.node_chains.proofs.Weights.{part, Leads}
use Rattle.node_table.specs.Kinds.{branches, is_text, is_list, has_string, raised_content}
use Rattle.node_table.specs.Held.{Datum, flagged, raised, respelled, refilled}
use Rattle.node_table.specs.Values.{top}
use Rattle.node_table.specs.Counts.{Fine, Keyless, TidyAs, AllTidy, Tidy}
use Rattle.value_tree.specs.Entries.{scalar_in, content_in, scalar_string, string_in, placed_datum, placed_tree, put_over, KeyGone}
use Rattle.value_tree.specs.Proper.{KeysUpAs, ProperAs, AllProper, KeysUp, Proper}
use Rattle.value_tree.proofs.Updates.{length_change, get_or_change, get_or_change_other}

-- a proper tree is tidy
mutual
  tidy_as : {D U : Type 0} (t : Tree D) (g : D → Datum U) → ProperAs t g → TidyAs t g
  tidy_as (node x ts) g h = (h.0, h.1, h.2, all_tidy ts g h.4)

  all_tidy : {D U : Type 0} (ts : Forest D) (g : D → Datum U) → AllProper ts g → AllTidy ts g
  all_tidy none g h = tt
  all_tidy (more t ts) g h = (tidy_as t g h.0, all_tidy ts g h.1)

pub proper_tidy : {U : Type 0} (t : Tree (Datum U)) → Proper t → Tidy t
proper_tidy t h = tidy_as t (λ x. x) h

-- what holds of each element
module _ {X : Type 0} (P : X → Type 0) where
  all_any : ((x : X) → P x) → (xs : List X) → All P xs
  all_any h xs k d l = h (get_or xs k d)

  all_spliced : (xs : List X) (i n : ℕ) (new : List X) → All P xs → All P new → All P (spliced xs i n new)
  all_spliced xs i n new h k = All-append P (take i xs) _ (All-take P i xs h) (All-append P new _ k (All-drop P (i + n) xs h))

  all_change : (xs : List X) (p : ℕ) (g : X → X) (d : X) → p < length xs → P (g (get_or xs p d)) → All P xs → All P (change xs p g)
  all_change xs p g d l e h = All-from_get_or P (change xs p g) d (λ q m. at q m (cases_eq q p))
    where
      at : (q : ℕ) → q < length (change xs p g) → (q ≡ p) ⊎ (q ≡ p → ⊥) → P (get_or (change xs p g) q d)
      at q m (inl z) = rw (z, get_or_change xs p g d l) e
      at q m (inr ne) = rw (get_or_change_other xs p q g d ne) (h q d (omega (arith, length_change xs p g)))

-- each element is below every later one
module _ {X : Type 0} (R : X → X → Type 0) where
  abbrev Rise : X → List X → Type 0
  Rise d xs = (p q : ℕ) → p < q → q < length xs → R (get_or xs p d) (get_or xs q d)

  rise_default : (d e : X) (xs : List X) → Rise d xs → Rise e xs
  rise_default d e xs h p q l m = rw (get_or_default xs p e d (omega arith), get_or_default xs q e d m) (h p q l m)

  rise_put : (d y : X) (xs : List X) (at : ℕ) → at ≤ length xs → Rise d xs → ((q : ℕ) → q < at → R (get_or xs q d) y) → ((q : ℕ) → at ≤ q → q < length xs → R y (get_or xs q d))
      → Rise d (spliced xs at 0 (y ∷ []))
  rise_put d y xs at l h low high p q lt m = go (cases_order q at) (cases_order p at)
    where
      n : length (spliced xs at 0 (y ∷ [])) ≡ length xs + 1
      n = length_put xs at y d l

      go : (q ≡ at) ⊎ ((q < at) ⊎ (at < q)) → (p ≡ at) ⊎ ((p < at) ⊎ (at < p)) → R (get_or (spliced xs at 0 (y ∷ [])) p d) (get_or (spliced xs at 0 (y ∷ [])) q d)
      go (inl e) _ = rw (e, put_at xs at y d l, put_low xs at y d l p (omega arith)) (low p (omega arith))
      go (inr (inl a)) _ = rw (put_low xs at y d l q a, put_low xs at y d l p (omega arith)) (h p q lt (omega arith))
      go (inr (inr a)) (inl e) = rw (e, put_at xs at y d l, put_high xs at y d l q a) (high (q - 1) (omega arith) (omega (arith, n)))
      go (inr (inr a)) (inr (inl b)) = rw (put_low xs at y d l p b, put_high xs at y d l q a) (h p (q - 1) (omega arith) (omega (arith, n)))
      go (inr (inr a)) (inr (inr b)) = rw (put_high xs at y d l p b, put_high xs at y d l q a) (h (p - 1) (q - 1) (omega arith) (omega (arith, n)))

  rise_cut : (d : X) (xs : List X) (at k : ℕ) → at + k ≤ length xs → Rise d xs → Rise d (spliced xs at k [])
  rise_cut d xs at k l h p q lt m = go (cases_lt q at) (cases_lt p at)
    where
      n : length (spliced xs at k []) + k ≡ length xs + 0
      n = length_spliced xs [] at k l

      low : (j : ℕ) → j < at → get_or (spliced xs at k []) j d ≡ get_or xs j d
      low j a = get_or_spliced_below xs [] at k l j d a

      high : (j : ℕ) → at ≤ j → get_or (spliced xs at k []) j d ≡ get_or xs (j + k) d
      high j a =
          let e : j ≡ at + 0 + (j - at) = omega arith in
          let f : at + k + (j - at) ≡ j + k = omega arith in
          ap (λ i. get_or (spliced xs at k []) i d) e ∙ get_or_spliced_above xs [] at k l (j - at) d ∙ ap (λ i. get_or xs i d) f

      go : (q < at) ⊎ (at ≤ q) → (p < at) ⊎ (at ≤ p) → R (get_or (spliced xs at k []) p d) (get_or (spliced xs at k []) q d)
      go (inl a) _ = rw (low q a, low p (omega arith)) (h p q lt (omega arith))
      go (inr a) (inl b) = rw (low p b, high q a) (h p (q + k) (omega arith) (omega (arith, n)))
      go (inr a) (inr b) = rw (high p b, high q a) (h (p + k) (q + k) (omega arith) (omega (arith, n)))

-- what a node holds is of one kind
no_kind : {X : Type 0} (f : NodeContent → Bool) (c k : NodeContent) (a b : Bool) → c ≡ k → f k ≡ a → f c ≡ b → (a ≡ b → ⊥) → X
no_kind f c k a b e h j ne = absurd (ne (sym h ∙ ap f (sym e) ∙ j))

true_false : true ≡ false → ⊥
true_false e = false≢true (sym e)

-- a counter with a number added is of the kind that it was
kind_raised : (f : NodeContent → Bool) (n : ℤ) → ((x y : ℤ) → f (Counter x) ≡ f (Counter y)) → (c : NodeContent) → f (raised_content n c) ≡ f c
kind_raised f n h Map = refl
kind_raised f n h Sequence = refl
kind_raised f n h Text = refl
kind_raised f n h Null = refl
kind_raised f n h (Boolean b) = refl
kind_raised f n h (Int x) = refl
kind_raised f n h (Uint x) = refl
kind_raised f n h (Timestamp x) = refl
kind_raised f n h (Counter x) = h (x +ℤ n) x
kind_raised f n h Str = refl
kind_raised f n h Bytes = refl

-- only what has a string in the tree has one when it is placed
scalar_stringless : (s : Scalar) → has_string (scalar_in s) ≡ false → scalar_string s ≡ []
scalar_stringless null h = refl
scalar_stringless (boolean b) h = refl
scalar_stringless (int n) h = refl
scalar_stringless (uint n) h = refl
scalar_stringless (timestamp n) h = refl
scalar_stringless (counter n) h = refl
scalar_stringless (str s) h = absurd (true_false h)
scalar_stringless (bytes s) h = absurd (true_false h)

stringless : (c : Content) → has_string (content_in c) ≡ false → string_in c ≡ []
stringless (scalar_of s) h = scalar_stringless s h
stringless (object_of k) h = refl

-- trees side by side, as a forest and as a list
module _ {U : Type 0} where
  -- no key at the root
  abbrev Bare : Tree (Datum U) → Type 0
  Bare t = (top t).key ≡ []

  -- the key of one root before that of another
  abbrev Before : Tree (Datum U) → Tree (Datum U) → Type 0
  Before a b = compare_keys (top a).key (top b).key ≡ Less

  all_proper : (ts : Forest (Datum U)) → AllProper ts (λ x. x) → All Proper (trees ts)
  all_proper none h = All-nil Proper
  all_proper (more t ts) h = All-cons Proper t (trees ts) h.0 (all_proper ts h.1)

  proper_all : (us : List (Tree (Datum U))) → All Proper us → AllProper (forest us) (λ x. x)
  proper_all [] h = tt
  proper_all (t ∷ us) h = (All-head Proper t us h, proper_all us (All-tail Proper t us h))

  all_bare : (ts : Forest (Datum U)) → Keyless ts (λ x. x) → All Bare (trees ts)
  all_bare none h = All-nil Bare
  all_bare (more t ts) h = All-cons Bare t (trees ts) h.0 (all_bare ts h.1)

  bare_all : (us : List (Tree (Datum U))) → All Bare us → Keyless (forest us) (λ x. x)
  bare_all [] h = tt
  bare_all (t ∷ us) h = (All-head Bare t us h, bare_all us (All-tail Bare t us h))

  -- a tree from its parts, and one without children
  proper_node : (x : Datum U) (us : List (Tree (Datum U))) → Fine x → (branches x.content ≡ false → us ≡ []) → (is_list x.content ≡ true → All Bare us) → (is_map x.content ≡ true → KeysUp x us) → All Proper us
      → Proper (node x (forest us))
  proper_node x us f br li ma al = (f, λ b. ap forest (br b), λ b. bare_all us (li b), λ b. rw (trees_forest us) (ma b), proper_all us al)

  proper_leaf : (x : Datum U) → Fine x → Proper (node x none)
  proper_leaf x f = (f, λ b. refl, λ b. tt, λ b. λ p q l m. absurd (omega arith), tt)

  pub proper_part : (ps : List ℕ) (t : Tree (Datum U)) → Proper t → Leads ps t → Proper (part ps t)
  proper_part [] t h l = h
  proper_part (p ∷ ps) (node x ts) h l =
      proper_part ps (get_or (trees ts) p (node x none)) (All-get_or Proper (trees ts) p (node x none) l.0 (all_proper ts h.4)) l.1

  -- a change below the root keeps the root's key
  key_update : (ps : List ℕ) (g : Tree (Datum U) → Tree (Datum U)) (t : Tree (Datum U)) → (top (g (part ps t))).key ≡ (top (part ps t)).key → (top (update ps g t)).key ≡ (top t).key
  key_update [] g t e = e
  key_update (p ∷ ps) g (node x ts) e = refl

  -- a child changed, whose key stays
  key_change : (us : List (Tree (Datum U))) (p q : ℕ) (g : Tree (Datum U) → Tree (Datum U)) (d : Tree (Datum U)) → p < length us → (top (g (get_or us p d))).key ≡ (top (get_or us p d)).key
      → (top (get_or (change us p g) q d)).key ≡ (top (get_or us q d)).key
  key_change us p q g d l e = ⊎_elim
      (λ (z : q ≡ p). rw z (ap (λ (t : Tree (Datum U)). (top t).key) (get_or_change us p g d l) ∙ e))
      (λ (ne : q ≡ p → ⊥). ap (λ (t : Tree (Datum U)). (top t).key) (get_or_change_other us p q g d ne)) (cases_eq q p)

  child_proper : (x : Datum U) (ts : Forest (Datum U)) (p : ℕ) (g : Tree (Datum U) → Tree (Datum U)) → Proper (node x ts) → p < length (trees ts)
      → (top (g (get_or (trees ts) p (node x none)))).key ≡ (top (get_or (trees ts) p (node x none))).key → Proper (g (get_or (trees ts) p (node x none)))
      → Proper (node x (forest (change (trees ts) p g)))
  child_proper x ts p g h l e c =
      proper_node x (change (trees ts) p g) h.0 (λ b. ap (λ us. change (trees us) p g) (h.1 b))
      (λ b. let k = all_bare ts (h.2 b) in all_change Bare (trees ts) p g (node x none) l (e ∙ All-get_or Bare (trees ts) p (node x none) l k) k)
      (λ b. λ i j lt m.
      rw (key_change (trees ts) p i g (node x none) l e, key_change (trees ts) p j g (node x none) l e)
      (h.3 b i j lt (omega (arith, length_change (trees ts) p g))))
      (all_change Proper (trees ts) p g (node x none) l c (all_proper ts h.4))

  pub proper_update : (ps : List ℕ) (g : Tree (Datum U) → Tree (Datum U)) (t : Tree (Datum U)) → Proper t → Leads ps t → (top (g (part ps t))).key ≡ (top (part ps t)).key → Proper (g (part ps t)) → Proper (update ps g t)
  proper_update [] g t h l e c = c
  proper_update (p ∷ ps) g (node x ts) h l e c =
      let kid = get_or (trees ts) p (node x none) in
      let k = All-get_or Proper (trees ts) p (node x none) l.0 (all_proper ts h.4) in
      child_proper x ts p (update ps g) h l.0 (key_update ps g kid e) (proper_update ps g kid k l.1 e c)

  pub placed_proper : (k : Key) (e : Entry) → Proper (placed_tree {U = U} k e)
  placed_proper k e = proper_leaf (placed_datum k e) (record { units = λ b. refl; string = stringless e.content })

  pub over_proper : (e : Entry) (t : Tree (Datum U)) → Proper (put_over e t)
  over_proper e (node x ts) = proper_leaf (refilled (content_in e.content) e.flag (string_in e.content) x) (record { units = λ b. refl; string = stringless e.content })

  -- children put in and taken out
  pub insert_map : (x : Datum U) (ts : Forest (Datum U)) (k : Key) (p : ℕ) (e : Entry) → x.content ≡ Map → Proper (node x ts) → KeyGone x k p (trees ts) → Proper (splice_kids p 0 (placed_tree k e ∷ []) (node x ts))
  insert_map x ts k p e c h g =
      proper_node x (spliced (trees ts) p 0 (placed_tree k e ∷ [])) h.0 (λ b. no_kind branches x.content Map true false c refl b true_false)
      (λ b. no_kind is_list x.content Map false true c refl b false≢true)
      (λ b. rise_put Before (node x none) (placed_tree k e) (trees ts) p g.within (h.3 b) g.above g.below)
      (all_spliced Proper (trees ts) p 0 (placed_tree k e ∷ []) (all_proper ts h.4) (All-cons Proper (placed_tree k e) [] (placed_proper k e) (All-nil Proper)))

  pub insert_list : (x : Datum U) (ts : Forest (Datum U)) (i : ℕ) (es : List Entry) → x.content ≡ Sequence → Proper (node x ts) → Proper (splice_kids i 0 (map (placed_tree []) es) (node x ts))
  insert_list x ts i es c h =
      proper_node x (spliced (trees ts) i 0 (map (placed_tree []) es)) h.0 (λ b. no_kind branches x.content Sequence true false c refl b true_false)
      (λ b. all_spliced Bare (trees ts) i 0 (map (placed_tree []) es) (all_bare ts (h.2 b)) (All-map Bare (placed_tree []) es (all_any (λ e. Bare (placed_tree [] e)) (λ e. refl) es)))
      (λ b. no_kind is_map x.content Sequence false true c refl b false≢true)
      (all_spliced Proper (trees ts) i 0 (map (placed_tree []) es) (all_proper ts h.4) (All-map Proper (placed_tree []) es (all_any (λ e. Proper (placed_tree {U = U} [] e)) (placed_proper []) es)))

  pub delete_kids : (x : Datum U) (ts : Forest (Datum U)) (i n : ℕ) → branches x.content ≡ true → Proper (node x ts) → i + n ≤ length (trees ts) → Proper (splice_kids i n [] (node x ts))
  delete_kids x ts i n c h l =
      proper_node x (spliced (trees ts) i n []) h.0 (λ b. absurd (true_false (sym c ∙ b)))
      (λ b. all_spliced Bare (trees ts) i n [] (all_bare ts (h.2 b)) (All-nil Bare))
      (λ b. rise_cut Before (node x none) (trees ts) i n l (h.3 b))
      (all_spliced Proper (trees ts) i n [] (all_proper ts h.4) (All-nil Proper))

  -- an entry changed, of the kind that it was
  proper_relabel : (x y : Datum U) (ts : Forest (Datum U)) → Fine y → branches y.content ≡ branches x.content → is_list y.content ≡ is_list x.content → is_map y.content ≡ is_map x.content
      → Proper (node x ts) → Proper (node y ts)
  proper_relabel x y ts f br li ma h =
      (f, λ b. h.1 (sym br ∙ b), λ b. h.2 (sym li ∙ b), λ b. rise_default Before (node x none) (node y none) (trees ts) (h.3 (sym ma ∙ b)), h.4)

  pub flag_proper : (t : Tree (Datum U)) → Proper t → Proper (relabel flagged t)
  flag_proper (node x ts) h = proper_relabel x (flagged x) ts (record { units = h.0.units; string = h.0.string }) refl refl refl h

  pub raise_proper : (n : ℤ) (t : Tree (Datum U)) → Proper t → Proper (relabel (raised n) t)
  raise_proper n (node x ts) h =
      proper_relabel x (raised n x) ts
      (record {
        units = λ b. h.0.units (sym (kind_raised is_text n (λ _ _. refl) x.content) ∙ b);
        string = λ b. h.0.string (sym (kind_raised has_string n (λ _ _. refl) x.content) ∙ b);
      })
      (kind_raised branches n (λ _ _. refl) x.content) (kind_raised is_list n (λ _ _. refl) x.content) (kind_raised is_map n (λ _ _. refl) x.content) h

  pub respell_proper : (x : Datum U) (ts : Forest (Datum U)) (i k : ℕ) (ys : List U) → x.content ≡ Text → Proper (node x ts) → Proper (relabel (respelled i k ys) (node x ts))
  respell_proper x ts i k ys c h =
      proper_relabel x (respelled i k ys x) ts (record { units = λ b. no_kind is_text x.content Text true false c refl b true_false; string = h.0.string }) refl refl refl h

-- that a tree is proper has one proof: a value that can be told from every other equals it in one way
only_way : {X : Type 0} (c : X) (f : (x : X) → x ≡ c → x ≡ c) → f c refl ≡ refl → ((x : X) (p q : x ≡ c) → f x p ≡ f x q) → (x : X) → IsProp (x ≡ c)
only_way c f e k x p q = sym (path_j' (λ y r. f y r ≡ r) e p) ∙ k x p q ∙ path_j' (λ y r. f y r ≡ r) e q

less_prop : (o : Ordering) → IsProp (o ≡ Less)
less_prop o = only_way Less f refl k o
  where
    f : (x : Ordering) → x ≡ Less → x ≡ Less
    f Less p = refl
    f Equal p = p
    f Greater p = p

    k : (x : Ordering) (p q : x ≡ Less) → f x p ≡ f x q
    k Less p q = refl
    k Equal p q = absurd (let z : ◌≡◌ {A = ℕ} 0 1 = cc in omega arith)
    k Greater p q = absurd (let z : ◌≡◌ {A = ℕ} 0 1 = cc in omega arith)

none_prop : {D : Type 0} (ts : Forest D) → IsProp (ts ≡ none)
none_prop {D} ts = only_way none f refl k ts
  where
    f : (x : Forest D) → x ≡ none → x ≡ none
    f none p = refl
    f (more t us) p = p

    k : (x : Forest D) (p q : x ≡ none) → f x p ≡ f x q
    k none p q = refl
    k (more t us) p q = absurd (let z : ◌≡◌ {A = ℕ} 0 1 = cc in omega arith)

fine_prop : {U : Type 0} → Coded U → (x : Datum U) → IsProp (Fine x)
fine_prop c x p q = λ i. record {
  units = λ b. ≡_prop (coded_list c) x.units [] (p.units b) (q.units b) i;
  string = λ b. ≡_prop (coded_list coded_ℕ) x.string [] (p.string b) (q.string b) i;
}

keyless_prop : {D U : Type 0} (ts : Forest D) (g : D → Datum U) → IsProp (Keyless ts g)
keyless_prop none g p q = refl
keyless_prop (more t ts) g p q = λ i. (≡_prop (coded_list coded_ℕ) (g (top t)).key [] p.0 q.0 i, keyless_prop ts g p.1 q.1 i)

keys_prop : {D U : Type 0} (d : D) (ts : List (Tree D)) (g : D → Datum U) → IsProp (KeysUpAs d ts g)
keys_prop d ts g h k = λ i. λ p q l m. less_prop (compare_keys (g (top (get_or ts p (node d none)))).key (g (top (get_or ts q (node d none)))).key) (h p q l m) (k p q l m) i

mutual
  proper_as_prop : {D U : Type 0} (t : Tree D) (g : D → Datum U) → Coded U → IsProp (ProperAs t g)
  proper_as_prop (node x ts) g c =
      let fine : IsProp (Fine (g x)) = fine_prop c (g x) in
      let bare : IsProp (ts ≡ none) = none_prop ts in
      let keyless : IsProp (Keyless ts g) = keyless_prop ts g in
      let keys : IsProp (KeysUpAs x (trees ts) g) = keys_prop x (trees ts) g in
      let rest : IsProp (AllProper ts g) = all_proper_prop ts g c in
      λ p q i. (fine p.0 q.0 i, λ b. bare (p.1 b) (q.1 b) i, λ b. keyless (p.2 b) (q.2 b) i, λ b. keys (p.3 b) (q.3 b) i, rest p.4 q.4 i)

  all_proper_prop : {D U : Type 0} (ts : Forest D) (g : D → Datum U) → Coded U → IsProp (AllProper ts g)
  all_proper_prop none g c = λ p q. refl
  all_proper_prop (more t ts) g c = ×_prop (proper_as_prop t g c) (all_proper_prop ts g c)

pub proper_prop : {U : Type 0} → Coded U → (t : Tree (Datum U)) → IsProp (Proper t)
proper_prop c t = proper_as_prop t (λ x. x) c
