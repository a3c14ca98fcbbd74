-- Tests and answers: what holds where one came out a certain way.
use Rattle.std.proofs.Common.{◌≡◌, ℕ, ◌<◌, ◌≤◌, Bool, true, false, not, ◌&&◌, ◌||◌, T, eqb, ltb, leb, ◌⊎◌, Ok, Err, sym, refl, ap, ◌∙◌, subst, inl, inr, arith, le→leb, eqb→eq, ltb→lt, lt→ltb, leb→le, nltb→le}
use mathlib.Core.Option.{Option, none, some, map}
use lib.Dec.{eqb_refl}
use Rattle.types.specs.declared.error.Refusal.{Refusal}
use Rattle.meaning.specs.Results.{Answer, provided, on_ok, and_then, on_some}

pub T_of : (b : Bool) → b ≡ true → T b
T_of b e = subst T (sym e) tt

pub is_true : (b : Bool) → T b → b ≡ true
is_true true t = refl
is_true false t = absurd t

pub le_of : (m n : ℕ) → leb m n ≡ true → m ≤ n
le_of m n e = leb→le m n (T_of (leb m n) e)

pub leb_of : (m n : ℕ) → m ≤ n → leb m n ≡ true
leb_of m n h = is_true (leb m n) (le→leb m n h)

pub eqb_yes : (a b : ℕ) → eqb a b ≡ true → a ≡ b
eqb_yes a b e = eqb→eq a b (T_of (eqb a b) e)

pub eqb_same : (a : ℕ) → eqb a a ≡ true
eqb_same a = is_true (eqb a a) (eqb_refl a)

pub eqb_no : (a b : ℕ) → (a ≡ b → ⊥) → eqb a b ≡ false
eqb_no a b n = go (eqb a b) refl
  where
    go : (t : Bool) → eqb a b ≡ t → eqb a b ≡ false
    go true e = absurd (n (eqb_yes a b e))
    go false e = e

pub eqb_not : (a b : ℕ) → eqb a b ≡ false → a ≡ b → ⊥
eqb_not a b e h = let z : ◌≡◌ {A = Bool} true false = sym (eqb_same a) ∙ ap (λ (x : ℕ). eqb a x) h ∙ e in subst T z tt

pub ltb_yes : (a b : ℕ) → a < b → ltb a b ≡ true
ltb_yes a b h = is_true (ltb a b) (lt→ltb a b h)

pub ltb_was : (a b : ℕ) → ltb a b ≡ true → a < b
ltb_was a b e = ltb→lt a b (T_of (ltb a b) e)

pub ltb_no : (a b : ℕ) → b ≤ a → ltb a b ≡ false
ltb_no a b h = go (ltb a b) refl
  where
    go : (t : Bool) → ltb a b ≡ t → ltb a b ≡ false
    go true e = let k = ltb_was a b e in absurd (omega arith)
    go false e = e

pub ltb_wasnt : (a b : ℕ) → ltb a b ≡ false → b ≤ a
ltb_wasnt a b e = nltb→le a b (subst (λ t. T (not t)) (sym e) tt)

pub both : (a b : Bool) → a && b ≡ true → (a ≡ true) × (b ≡ true)
both true b e = (refl, cc)
both false b e = (cc, cc)

pub or_false : (a b : Bool) → (a || b) ≡ false → (a ≡ false) × (b ≡ false)
or_false true b h = let z : ◌≡◌ {A = ℕ} 0 1 = cc in absurd (omega arith)
or_false false b h = (refl, h)

pub or_cases : (a b : Bool) → (a || b) ≡ true → (a ≡ true) ⊎ (b ≡ true)
or_cases true b h = inl refl
or_cases false b h = inr h

pub or_right : (a : Bool) → (a || true) ≡ true
or_right true = refl
or_right false = refl

-- answers
pub err_ok : {A : Type 0} (k : Refusal) (y : A) → Err k ≡ Ok y → ⊥
err_ok k y e = let z : ◌≡◌ {A = ℕ} 0 1 = cc in omega arith

pub none_some : {A : Type 0} (y : A) → none ≡ some y → ⊥
none_some y e = let z : ◌≡◌ {A = ℕ} 0 1 = cc in omega arith

pub some_inj : {A : Type 0} {x y : A} → some x ≡ some y → x ≡ y
some_inj e = cc

pub ok_inj : {A : Type 0} (r : Answer A) (x y : A) → r ≡ Ok x → r ≡ Ok y → x ≡ y
ok_inj r x y e f = cc

pub okay : {A : Type 0} {x y : A} → x ≡ y → ◌≡◌ {A = Answer A} (Ok x) (Ok y)
okay {A} e = ap {B = Answer A} (λ r. Ok r) e

pub provided_inv : {A : Type 0} (b : Bool) (r : Refusal) (a y : A) → provided b r a ≡ Ok y → (b ≡ true) × (y ≡ a)
provided_inv true r a y e = (refl, cc)
provided_inv false r a y e = (cc, cc)

pub on_ok_inv : {A B : Type 0} (f : A → B) (r : Answer A) (y : B) → on_ok f r ≡ Ok y → (x : A) × (r ≡ Ok x) × (y ≡ f x)
on_ok_inv f (Ok a) y e = (a, refl, cc)
on_ok_inv f (Err k) y e = absurd (err_ok k y e)

pub and_then_inv : {A B : Type 0} (r : Answer A) (f : A → Answer B) (y : B) → and_then r f ≡ Ok y → (x : A) × (r ≡ Ok x) × (f x ≡ Ok y)
and_then_inv (Ok a) f y e = (a, refl, e)
and_then_inv (Err k) f y e = absurd (err_ok k y e)

pub on_ok_id : {A : Type 0} (r : Answer A) → r ≡ on_ok (λ z. z) r
on_ok_id (Ok a) = refl
on_ok_id (Err k) = refl

pub on_ok_comp : {A B C : Type 0} (f : B → C) (g : A → B) (r : Answer A) → on_ok f (on_ok g r) ≡ on_ok (λ z. f (g z)) r
on_ok_comp f g (Ok a) = refl
on_ok_comp f g (Err k) = refl

pub on_some_some : {X Y : Type 0} (o : Option X) (f : X → Option Y) (y : Y) → on_some o f ≡ some y → (x : X) × (o ≡ some x) × (f x ≡ some y)
on_some_some none f y h = absurd (none_some y h)
on_some_some (some x) f y h = (x, refl, h)

pub map_some : {X Y : Type 0} (o : Option X) (f : X → Y) (y : Y) → map f o ≡ some y → (x : X) × (o ≡ some x) × (f x ≡ y)
map_some none f y h = absurd (none_some y h)
map_some (some x) f y h = let e : f x ≡ y = cc in (x, refl, e)
