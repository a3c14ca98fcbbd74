-- Where an item stands in a rising list.
use Rattle.std.proofs.Common.{◌≡◌, ℕ, zero, suc, ◌+◌, ◌<◌, ◌≤◌, true, false, ◌||◌, List, [], ◌∷◌, length, get_or, drop, Ok, Err, Less, Equal, Greater, sym, refl, ap, ◌∙◌, subst, ⊎_elim, arith, length-drop}
use Rattle.std.proofs.lemmas.List.{get_or_read, get_or-drop, drop_more}
use Rattle.std.proofs.lemmas.Bool.{cases_lt}
use Rattle.std.specs.Ordering.{is_lt, is_eq, ordering_reverse}
use Rattle.ordered_set.specs.Orders.{Order}
use Rattle.ordered_set.specs.Sets.{Rising, has, before, found}

-- the first n items are less than x
abbrev pub AllLess : {X : Type 0} → Order X → X → List X → ℕ → Type 0
AllLess {X} o x xs n = (k : ℕ) (d : X) → k < n → o.compare (get_or xs k d) x ≡ Less

-- those from n on are greater
abbrev pub AllGreater : {X : Type 0} → Order X → X → List X → ℕ → Type 0
AllGreater {X} o x xs n = (k : ℕ) (d : X) → n ≤ k → k < length xs → o.compare (get_or xs k d) x ≡ Greater

module _ {X : Type 0} (o : Order X) (x : X) where
  abbrev NotLess : List X → Type 0
  NotLess [] = Unit {0}
  NotLess (y ∷ ys) = is_lt (o.compare y x) ≡ false

  before_is : (xs : List X) (n : ℕ) → n ≤ length xs → AllLess o x xs n → NotLess (drop n xs) → before o.compare x xs ≡ n
  before_is [] zero h a b = refl
  before_is [] (suc n) h a b = absurd (omega arith)
  before_is (y ∷ ys) zero h a b = rw b
  before_is (y ∷ ys) (suc n) h a b =
      let e : o.compare y x ≡ Less = a 0 y (omega arith) in
      rw e (ap suc (before_is ys n (omega arith) (λ k d l. a (suc k) d (omega arith)) b))

  has_past : (xs : List X) (n : ℕ) → n ≤ length xs → AllLess o x xs n → has o.compare x xs ≡ has o.compare x (drop n xs)
  has_past [] zero h a = refl
  has_past [] (suc n) h a = absurd (omega arith)
  has_past (y ∷ ys) zero h a = refl
  has_past (y ∷ ys) (suc n) h a =
      let e : o.compare y x ≡ Less = a 0 y (omega arith) in
      rw e (has_past ys n (omega arith) (λ k d l. a (suc k) d (omega arith)))

  pub none_greater : (xs : List X) → AllGreater o x xs 0 → has o.compare x xs ≡ false
  none_greater [] a = refl
  none_greater (y ∷ ys) a =
      let e : o.compare y x ≡ Greater = a 0 y (omega arith) (omega arith) in
      rw e (none_greater ys (λ k d h l. a (suc k) d (omega arith) (omega arith)))

  not_less : (xs : List X) → AllGreater o x xs 0 → NotLess xs
  not_less [] a = tt
  not_less (y ∷ ys) a = ap is_lt (a 0 y (omega arith) (omega arith))

  pub greater_drop : (xs : List X) (n : ℕ) → AllGreater o x xs n → AllGreater o x (drop n xs) 0
  greater_drop xs n a k d h l =
      let m : n + k < length xs = omega (arith, length-drop n xs) in
      ap (λ y. o.compare y x) (get_or-drop n xs k d) ∙ a (n + k) d (omega arith) m

  -- an item between those that are less and those that are greater is not there
  pub found_not : (xs : List X) (n : ℕ) → n ≤ length xs → AllLess o x xs n → AllGreater o x xs n → found o.compare x xs ≡ Err n
  found_not xs n h a b =
      let c = greater_drop xs n b in
      let e = has_past xs n h a ∙ none_greater (drop n xs) c in
      let f = before_is xs n h a (not_less (drop n xs) c) in
      rw (e, f)

  module _ (xs : List X) (m : ℕ) (y : X) (up : Rising o.compare xs) (l : m < length xs) (is : y ≡ get_or xs m y) where
    here : (d : X) → y ≡ get_or xs m d
    here = get_or_read xs m y l is

    lower : (k : ℕ) (d : X) → k < m → o.compare (get_or xs k d) y ≡ Less
    lower k d h = rw (here d) (up k m d h l)

    -- a turn of the search that goes up
    pub less_upto : o.compare y x ≡ Less → AllLess o x xs (m + 1)
    less_upto e k d h =
        ⊎_elim
        (λ (g : k < m). o.trans (get_or xs k d) y x (lower k d g) e)
        (λ (g : m ≤ k). let z : k ≡ m = omega arith in rw z (ap (λ w. o.compare w x) (sym (here d)) ∙ e))
        (cases_lt k m)

    -- a turn that goes down
    pub greater_from : o.compare y x ≡ Greater → AllGreater o x xs m
    greater_from e k d h j =
        ⊎_elim
        (λ (g : m < k).
        let a : o.compare x y ≡ Less = o.flip y x ∙ ap ordering_reverse e in
        let b : o.compare y (get_or xs k d) ≡ Less = ap (λ w. o.compare w (get_or xs k d)) (here d) ∙ up m k d g j in
        o.flip x (get_or xs k d) ∙ ap ordering_reverse (o.trans x y (get_or xs k d) a b))
        (λ (g : k ≤ m). let z : k ≡ m = omega arith in rw z (ap (λ w. o.compare w x) (sym (here d)) ∙ e))
        (cases_lt m k)

    -- what stands in front of an item that compares equal is less, and what stands after it is greater
    pub equal_lower : o.compare y x ≡ Equal → AllLess o x xs m
    equal_lower e k d h =
        o.flip x (get_or xs k d)
        ∙ ap ordering_reverse (sym (o.alike y x (get_or xs k d) e) ∙ (o.flip (get_or xs k d) y ∙ ap ordering_reverse (lower k d h)))

    pub equal_upper : o.compare y x ≡ Equal → AllGreater o x xs (m + 1)
    equal_upper e k d h j =
        let b : o.compare y (get_or xs k d) ≡ Less = ap (λ w. o.compare w (get_or xs k d)) (here d) ∙ up m k d (omega arith) j in
        o.flip x (get_or xs k d) ∙ ap ordering_reverse (sym (o.alike y x (get_or xs k d) e) ∙ b)

    -- it is found
    pub found_here : o.compare y x ≡ Equal → found o.compare x xs ≡ Ok m
    found_here e =
        let less = equal_lower e in
        let split = drop_more xs m y l in
        let top : o.compare (get_or xs m y) x ≡ Equal = ap (λ w. o.compare w x) (sym is) ∙ e in
        let a : has o.compare x xs ≡ true = has_past xs m (omega arith) less ∙ (ap (has o.compare x) split ∙ ap (λ r. is_eq r || has o.compare x (drop (m + 1) xs)) top) in
        let b : before o.compare x xs ≡ m = before_is xs m (omega arith) less (subst NotLess (sym split) (ap is_lt top)) in
        rw (a, b)
