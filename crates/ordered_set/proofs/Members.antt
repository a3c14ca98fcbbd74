-- Putting into a rising list and taking out of it.
use Rattle.std.proofs.Common.{◌≡◌, ℕ, zero, suc, ◌+◌, ◌-◌, ◌<◌, ◌≤◌, Bool, true, false, cond, not, ◌&&◌, ◌||◌, List, [], ◌∷◌, ◌++◌, length, get_or, take, drop, Ok, Err, Ordering, Less, Equal, Greater, sym, refl, ap, ◌∙◌, subst, ⊎_elim, arith, length-take}
use Rattle.std.proofs.lemmas.List.{take-append-drop, drop_more, get_or-take, get_or_default, length-take-le}
use Rattle.std.proofs.lemmas.List.Edits.{length-insert, get_or-insert_below, get_or-insert_at, get_or-insert_above, length-remove, get_or-remove_below, get_or-remove_above}
use Rattle.std.proofs.lemmas.Bool.{cases_lt, cases_eq, true≢false}
use Rattle.std.proofs.Math.Bool.{or_assoc, and-true}
use Rattle.std.specs.Cmp.{Equal-is}
use Rattle.std.specs.List.{insert, remove}
use Rattle.std.specs.Ordering.{is_lt, is_eq, ordering_reverse}
use Rattle.sequence_tree.specs.Lists.{spliced}
use Rattle.ordered_set.specs.Orders.{Order}
use Rattle.ordered_set.specs.Sets.{Rising, has, before, found, members, Ordered, With, Without}
use Rattle.ordered_set.specs.declared.set.OrderedSet.{OrderedSet}
use Rattle.ordered_set.proofs.Searches.{AllLess, AllGreater, greater_from, greater_drop, none_greater, equal_lower, equal_upper}

spliced_one : {X : Type 0} (xs : List X) (i : ℕ) (x : X) → spliced xs i 0 (x ∷ []) ≡ insert xs i x
spliced_one xs i x = let e : i + 0 ≡ i = omega arith in ap (λ k. take i xs ++ x ∷ drop k xs) e

spliced_none : {X : Type 0} (xs : List X) (i : ℕ) → spliced xs i 1 [] ≡ remove xs i
spliced_none xs i = ap (λ k. take i xs ++ drop k xs) {x = i + 1} {y = suc i} (omega arith)

or_swap : (a b c : Bool) → (a || (b || c)) ≡ (b || (a || c))
or_swap true true c = refl
or_swap true false c = refl
or_swap false b c = refl

module _ {X : Type 0} (o : Order X) (x : X) where
  -- how far the items go that are less
  pub before_le : (xs : List X) → before o.compare x xs ≤ length xs
  before_le [] = omega arith
  before_le (y ∷ ys) = go (is_lt (o.compare y x)) (before_le ys)
    where
      go : (b : Bool) → before o.compare x ys ≤ length ys → cond b (suc (before o.compare x ys)) 0 ≤ suc (length ys)
      go true h = omega arith
      go false h = omega arith

  pub before_less : (xs : List X) → AllLess o x xs (before o.compare x xs)
  before_less [] k d h = absurd (omega arith)
  before_less (y ∷ ys) k d h = go (o.compare y x) refl k h (λ j l. before_less ys j d l)
    where
      go : (r : Ordering) → o.compare y x ≡ r → (j : ℕ) → j < cond (is_lt r) (suc (before o.compare x ys)) 0 → ((m : ℕ) → m < before o.compare x ys → o.compare (get_or ys m d) x ≡ Less) → o.compare (get_or (y ∷ ys) j d) x ≡ Less
      go Less e zero l f = e
      go Less e (suc j) l f = f j (omega arith)
      go Equal e j l f = absurd (omega arith)
      go Greater e j l f = absurd (omega arith)

  top_greater : (xs : List X) (d : X) → has o.compare x xs ≡ false → before o.compare x xs < length xs → o.compare (get_or xs (before o.compare x xs) d) x ≡ Greater
  top_greater [] d h l = absurd (omega arith)
  top_greater (y ∷ ys) d h l = go (o.compare y x) refl h l (top_greater ys d)
    where
      go : (r : Ordering) → o.compare y x ≡ r → (is_eq r || has o.compare x ys) ≡ false → cond (is_lt r) (suc (before o.compare x ys)) 0 < suc (length ys)
          → (has o.compare x ys ≡ false → before o.compare x ys < length ys → o.compare (get_or ys (before o.compare x ys) d) x ≡ Greater)
          → o.compare (get_or (y ∷ ys) (cond (is_lt r) (suc (before o.compare x ys)) 0) d) x ≡ Greater
      go Less e h l f = f h (omega arith)
      go Equal e h l f = absurd (true≢false h)
      go Greater e h l f = e

  pub past_greater : (xs : List X) → Rising o.compare xs → has o.compare x xs ≡ false → AllGreater o x xs (before o.compare x xs)
  past_greater xs up h k d g l =
      let b : before o.compare x xs < length xs = omega arith in
      greater_from o x xs (before o.compare x xs) (get_or xs (before o.compare x xs) d) up b (get_or_default xs (before o.compare x xs) d (get_or xs (before o.compare x xs) d) b) (top_greater xs d h b) k d g l

  -- where x is among the items, it stands right behind those that are less
  pub top_equal : (xs : List X) (d : X) → Rising o.compare xs → has o.compare x xs ≡ true → (before o.compare x xs < length xs) × (o.compare (get_or xs (before o.compare x xs) d) x ≡ Equal)
  top_equal [] d up h = absurd (true≢false (sym h))
  top_equal (y ∷ ys) d up h = go (o.compare y x) refl h (top_equal ys d (λ i j e p q. up (suc i) (suc j) e (omega arith) (omega arith)))
    where
      go : (r : Ordering) → o.compare y x ≡ r → (is_eq r || has o.compare x ys) ≡ true
          → (has o.compare x ys ≡ true → (before o.compare x ys < length ys) × (o.compare (get_or ys (before o.compare x ys) d) x ≡ Equal))
          → (cond (is_lt r) (suc (before o.compare x ys)) 0 < suc (length ys)) × (o.compare (get_or (y ∷ ys) (cond (is_lt r) (suc (before o.compare x ys)) 0) d) x ≡ Equal)
      go Less e h f = let p = f h in (omega arith, p.1)
      go Equal e h f = (omega arith, e)
      go Greater e h f =
          let all = greater_from o x (y ∷ ys) 0 y up (omega arith) refl e in
          let no : has o.compare x ys ≡ false = none_greater o x ys (λ k d p q. all (suc k) d (omega arith) (omega arith)) in
          absurd (true≢false (sym h ∙ no))

  -- the list still rises
  put_rises : (xs : List X) (i : ℕ) → i ≤ length xs → Rising o.compare xs → AllLess o x xs i → AllGreater o x xs i → Rising o.compare (insert xs i x)
  put_rises xs i n up less more a b d h l =
      let len = length-insert xs i x n in
      ⊎_elim
      (λ (p : b < i). both (get_or-insert_below xs i x d a (omega arith) n) (get_or-insert_below xs i x d b p n) (up a b d h (omega arith)))
      (λ (p : i ≤ b).
      ⊎_elim
      (λ (q : b ≡ i).
      both (get_or-insert_below xs i x d a (omega arith) n) (ap (λ k. get_or (insert xs i x) k d) q ∙ get_or-insert_at xs i x d n) (less a d (omega arith)))
      (λ (q : b ≡ i → ⊥).
      let c : b - 1 + 1 ≡ b = omega arith in
      let e = ap (λ k. get_or (insert xs i x) k d) (sym c) ∙ get_or-insert_above xs i x d (b - 1) (omega arith) n in
      ⊎_elim
      (λ (s : a < i). both (get_or-insert_below xs i x d a s n) e (up a (b - 1) d (omega arith) (omega arith)))
      (λ (s : i ≤ a).
      ⊎_elim
      (λ (t : a ≡ i).
      both (ap (λ k. get_or (insert xs i x) k d) t ∙ get_or-insert_at xs i x d n) e
      (o.flip (get_or xs (b - 1) d) x ∙ ap ordering_reverse (more (b - 1) d (omega arith) (omega arith))))
      (λ (t : a ≡ i → ⊥).
      let c2 : a - 1 + 1 ≡ a = omega arith in
      both (ap (λ k. get_or (insert xs i x) k d) (sym c2) ∙ get_or-insert_above xs i x d (a - 1) (omega arith) n) e (up (a - 1) (b - 1) d (omega arith) (omega arith)))
      (cases_eq a i))
      (cases_lt a i))
      (cases_eq b i))
      (cases_lt b i)
    where
      both : {v w v' w' : X} → v ≡ v' → w ≡ w' → o.compare v' w' ≡ Less → o.compare v w ≡ Less
      both p q r = (λ i. o.compare (p i) (q i)) ∙ r

  pub rising_with : (xs : List X) → Rising o.compare xs → has o.compare x xs ≡ false → Rising o.compare (spliced xs (before o.compare x xs) 0 (x ∷ []))
  rising_with xs up h =
      subst (Rising o.compare) (sym (spliced_one xs (before o.compare x xs) x))
      (put_rises xs (before o.compare x xs) (before_le xs) up (before_less xs) (past_greater xs up h))

module _ {X : Type 0} (o : Order X) where
  pub rising_without : (xs : List X) (i : ℕ) → i < length xs → Rising o.compare xs → Rising o.compare (spliced xs i 1 [])
  rising_without xs i n up = subst (Rising o.compare) (sym (spliced_none xs i)) go
    where
      both : {v w v' w' : X} → v ≡ v' → w ≡ w' → o.compare v' w' ≡ Less → o.compare v w ≡ Less
      both p q r = (λ i. o.compare (p i) (q i)) ∙ r

      go : Rising o.compare (remove xs i)
      go a b d h l =
          let len = length-remove xs i n in
          ⊎_elim
          (λ (p : b < i). both (get_or-remove_below xs i d a (omega arith) n) (get_or-remove_below xs i d b p n) (up a b d h (omega arith)))
          (λ (p : i ≤ b).
          let e = get_or-remove_above xs i d b p n in
          ⊎_elim
          (λ (s : a < i). both (get_or-remove_below xs i d a s n) e (up a (b + 1) d (omega arith) (omega arith)))
          (λ (s : i ≤ a). both (get_or-remove_above xs i d a s n) e (up (a + 1) (b + 1) d (omega arith) (omega arith)))
          (cases_lt a i))
          (cases_lt b i)

  has_append : (y : X) (xs ys : List X) → has o.compare y (xs ++ ys) ≡ (has o.compare y xs || has o.compare y ys)
  has_append y [] ys = refl
  has_append y (z ∷ zs) ys = ap (λ b. is_eq (o.compare z y) || b) (has_append y zs ys) ∙ sym (or_assoc (is_eq (o.compare z y)) (has o.compare y zs) (has o.compare y ys))

  pub with_one : (x : X) (xs : List X) (i : ℕ) → With o.compare x xs (spliced xs i 0 (x ∷ []))
  with_one x xs i y =
      ap (has o.compare y) (spliced_one xs i x)
      ∙ (has_append y (take i xs) (x ∷ drop i xs)
      ∙ (or_swap (has o.compare y (take i xs)) (is_eq (o.compare x y)) (has o.compare y (drop i xs))
      ∙ ap (λ b. is_eq (o.compare x y) || b) (sym (has_append y (take i xs) (drop i xs)) ∙ ap (has o.compare y) (take-append-drop i xs))))

  -- items that compare equal are members together
  pub has_alike : (x y : X) (xs : List X) → o.compare x y ≡ Equal → has o.compare x xs ≡ has o.compare y xs
  has_alike x y [] e = refl
  has_alike x y (z ∷ zs) e =
      let c : o.compare z x ≡ o.compare z y = o.flip x z ∙ (ap ordering_reverse (o.alike x y z e) ∙ sym (o.flip y z)) in
      (λ i. is_eq (c i) || has_alike x y zs e i)

  pub with_itself : (x : X) (xs : List X) → has o.compare x xs ≡ true → With o.compare x xs xs
  with_itself x xs h y = go (is_eq (o.compare x y)) refl
    where
      go : (b : Bool) → is_eq (o.compare x y) ≡ b → has o.compare y xs ≡ (b || has o.compare y xs)
      go true e = sym (has_alike x y xs ((Equal-is (o.compare x y)).0 e)) ∙ h
      go false e = refl

  pub without_itself : (x : X) (xs : List X) → has o.compare x xs ≡ false → Without o.compare x xs xs
  without_itself x xs h y = go (is_eq (o.compare x y)) refl
    where
      go : (b : Bool) → is_eq (o.compare x y) ≡ b → has o.compare y xs ≡ (has o.compare y xs && not b)
      go true e = let f : has o.compare y xs ≡ false = sym (has_alike x y xs ((Equal-is (o.compare x y)).0 e)) ∙ h in rw f
      go false e = sym (and-true (has o.compare y xs))

  none_less : (y : X) (xs : List X) → AllLess o y xs (length xs) → has o.compare y xs ≡ false
  none_less y [] a = refl
  none_less y (z ∷ zs) a =
      let e : o.compare z y ≡ Less = a 0 z (omega arith) in
      rw e (none_less y zs (λ k d l. a (suc k) d (omega arith)))

  module _ (x : X) (xs : List X) (i : ℕ) (z : X) (up : Rising o.compare xs) (n : i < length xs) (is : z ≡ get_or xs i z) (same : o.compare z x ≡ Equal) where
    -- no other item has the key of z
    front_none : (y : X) → o.compare z y ≡ Equal → has o.compare y (take i xs) ≡ false
    front_none y e =
        none_less y (take i xs)
        (λ k d l.
        let m : k < i = omega (arith, length-take i xs) in
        ap (λ w. o.compare w y) (get_or-take i xs k d m) ∙ equal_lower o y xs i z up n is e k d m)

    rest_none : (y : X) → o.compare z y ≡ Equal → has o.compare y (drop (i + 1) xs) ≡ false
    rest_none y e = none_greater o y (drop (i + 1) xs) (greater_drop o y xs (i + 1) (equal_upper o y xs i z up n is e))

    split : (y : X) → has o.compare y xs ≡ (has o.compare y (take i xs) || (is_eq (o.compare x y) || has o.compare y (drop (i + 1) xs)))
    split y =
        ap (has o.compare y) (sym (take-append-drop i xs))
        ∙ (has_append y (take i xs) (drop i xs)
        ∙ ap (λ b. has o.compare y (take i xs) || b)
        (ap (has o.compare y) (drop_more xs i z n) ∙ ap (λ r. is_eq r || has o.compare y (drop (i + 1) xs)) (ap (λ w. o.compare w y) (sym is) ∙ o.alike z x y same)))

    pub without_one : Without o.compare x xs (spliced xs i 1 [])
    without_one y =
        has_append y (take i xs) (drop (i + 1) xs)
        ∙ (go (is_eq (o.compare x y)) refl
        ∙ ap (λ b. b && not (is_eq (o.compare x y))) (sym (split y)))
      where
        kept : (t u : Bool) → (t || u) ≡ ((t || (false || u)) && true)
        kept true u = refl
        kept false true = refl
        kept false false = refl

        go : (b : Bool) → is_eq (o.compare x y) ≡ b
            → (has o.compare y (take i xs) || has o.compare y (drop (i + 1) xs)) ≡ ((has o.compare y (take i xs) || (is_eq (o.compare x y) || has o.compare y (drop (i + 1) xs))) && not (is_eq (o.compare x y)))
        go true e =
            let q : o.compare z y ≡ Equal = o.alike z x y same ∙ (Equal-is (o.compare x y)).0 e in
            rw (front_none y q, rest_none y q, e)
        go false e = rw e (kept (has o.compare y (take i xs)) (has o.compare y (drop (i + 1) xs)))

-- what the answer of a search says
pub found_err : {X : Type 0} (o : Order X) (x : X) (xs : List X) (i : ℕ) → Err i ≡ found o.compare x xs → (has o.compare x xs ≡ false) × (before o.compare x xs ≡ i)
found_err o x xs i h = go (has o.compare x xs) h
  where
    go : (b : Bool) → Err i ≡ cond b (Ok (before o.compare x xs)) (Err (before o.compare x xs)) → (b ≡ false) × (before o.compare x xs ≡ i)
    go true e = let z : ◌≡◌ {A = ℕ} 0 1 = cc in absurd (omega arith)
    go false e = (refl, cc)

pub found_ok : {X : Type 0} (o : Order X) (x : X) (xs : List X) (i : ℕ) → Ok i ≡ found o.compare x xs → (has o.compare x xs ≡ true) × (before o.compare x xs ≡ i)
found_ok o x xs i h = go (has o.compare x xs) h
  where
    go : (b : Bool) → Ok i ≡ cond b (Ok (before o.compare x xs)) (Err (before o.compare x xs)) → (b ≡ true) × (before o.compare x xs ≡ i)
    go true e = (refl, cc)
    go false e = let z : ◌≡◌ {A = ℕ} 0 1 = cc in absurd (omega arith)

-- the place that a search gave lies within the set or right behind it
pub put_place : {X : Type 0} (o : Order X) (s : OrderedSet) (places : List X) (x : X) (i : ℕ) → s.len ≤ length places → Err i ≡ found o.compare x (members s places) → i ≤ s.len
put_place o s places x i fits h =
    let f = found_err o x (members s places) i h in
    omega (arith, before_le o x (members s places), length-take-le s.len places fits)

-- x goes in at the place that the search gave
module _ {X : Type 0} (o : Order X) (s : OrderedSet) (places after : List X) (x : X) (i : ℕ) (kept : Ordered o.compare s places) (missing : Err i ≡ found o.compare x (members s places))
    (room : s.len < length places) (len : length after ≡ length places) (is : take (s.len + 1) after ≡ spliced (members s places) i 0 (x ∷ [])) where
  whole : length (members s places) ≡ s.len
  whole = length-take-le s.len places kept.fits

  placed_at : take (s.len + 1) after ≡ spliced (members s places) (before o.compare x (members s places)) 0 (x ∷ [])
  placed_at = is ∙ ap (λ k. spliced (members s places) k 0 (x ∷ [])) (sym (found_err o x (members s places) i missing).1)

  pub put_ordered : Ordered o.compare (record { len = s.len + 1 }) after
  put_ordered =
      record {
        fits = omega arith;
        rising = subst (Rising o.compare) (sym placed_at) (rising_with o x (members s places) kept.rising (found_err o x (members s places) i missing).0);
      }

  pub put_with : With o.compare x (members s places) (take (s.len + 1) after)
  put_with = subst (With o.compare x (members s places)) (sym is) (with_one o x (members s places) i)

-- x leaves the place that the search gave
module _ {X : Type 0} (o : Order X) (s : OrderedSet) (places : List X) (x : X) (i : ℕ) (kept : Ordered o.compare s places) (there : Ok i ≡ found o.compare x (members s places)) where
  all_of : length (members s places) ≡ s.len
  all_of = length-take-le s.len places kept.fits

  stands : (i < length (members s places)) × (o.compare (get_or (members s places) i x) x ≡ Equal)
  stands =
      let f = found_ok o x (members s places) i there in
      subst (λ k. (k < length (members s places)) × (o.compare (get_or (members s places) k x) x ≡ Equal)) f.1 (top_equal o x (members s places) x kept.rising f.0)

  pub taken_place : i < s.len
  taken_place = let a = stands.0 in let b = all_of in omega arith

  module _ (after : List X) (len : length after ≡ length places) (is : take (s.len - 1) after ≡ spliced (members s places) i 1 []) where
    pub taken_ordered : Ordered o.compare (record { len = s.len - 1 }) after
    taken_ordered =
        record {
          fits = let f = kept.fits in omega arith;
          rising = subst (Rising o.compare) (sym is) (rising_without o (members s places) i stands.0 kept.rising);
        }

    pub taken_without : Without o.compare x (members s places) (take (s.len - 1) after)
    taken_without =
        subst (Without o.compare x (members s places)) (sym is)
        (without_one o x (members s places) i (get_or (members s places) i x) kept.rising stands.0
        (get_or_default (members s places) i x (get_or (members s places) i x) stands.0) stands.1)
