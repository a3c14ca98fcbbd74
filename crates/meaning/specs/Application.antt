-- Applying patches to a value, and reading it by path.
use Rattle.std.specs.Prelude.{ℕ, zero, suc, Bool, List, [], ◌∷◌, Ok, Err}
use Rattle.types.specs.declared.error.Refusal.TheVariants.{ApplyInvalidProp, Fail, ValueFull}
use Rattle.meaning.specs.Results.{Answer, provided, on_ok, and_then}
use Rattle.meaning.specs.Entries.{Key, compare_keys, by3, Scalar, Ref, Item, scalar, object}
use Rattle.meaning.specs.Patches.{Prop, key, pos, props, Action, Patch}
use Rattle.meaning.specs.Rows.{Row, map_of, list_of, text_of, mod_in, mod_at, in_row}
use Rattle.meaning.specs.Values.{Value, built, row_of, bare, fits}

-- Through an entry goes only a step to a container: a scalar is refused, whether the path ends at it or goes on.
abbrev pub on_object : {X : Type 0} → (X → Answer X) → Item X → Answer (Item X)
on_object g (scalar s b) = Err Fail
on_object g (object x b) = on_ok (λ y. object y b) (g x)

-- What a step leads to, replaced by what g makes of it. A step by position into a text succeeds and changes nothing.
abbrev pub through : {U X : Type 0} → Prop → (X → Answer X) → Row (List U) (Item X) → Answer (Row (List U) (Item X))
through (key k) g (map_of m) = on_ok map_of (mod_in ApplyInvalidProp k (on_object g) m)
through (key k) g (list_of l) = Err Fail
through (key k) g (text_of u) = Err Fail
through (pos i) g (map_of m) = Err Fail
through (pos i) g (list_of l) = on_ok list_of (mod_at ApplyInvalidProp i (on_object g) l)
through (pos i) g (text_of u) = Ok (text_of u)

module _ {U : Type 0} where
  -- f at the end of a path.
  abbrev pub at : List Prop → (Value U → Answer (Value U)) → Value U → Answer (Value U)
  at [] f v = f v
  at (s ∷ p) f v = on_ok built (through s (at p f) (row_of v))

  -- A placed object on the screen.
  abbrev pub on_screen : Ref → Value U
  on_screen r = bare r.kind

-- An action in the container it is for.
abbrev pub here : {U : Type 0} → (List ℕ → List U) → Action U → Value U → Answer (Value U)
here units a v = on_ok built (in_row units on_screen a (row_of v))

-- One patch, whatever the size of the value.
abbrev pub apply : {U : Type 0} → (List ℕ → List U) → Patch U → Value U → Answer (Value U)
apply units p v = at (props p.path) (here units p.action) v

-- One patch on a value that has bounds, which the end value has to meet.
abbrev pub apply_in : {U : Type 0} → (List ℕ → List U) → (Value U → Bool) → Patch U → Value U → Answer (Value U)
apply_in units bound p v = and_then (apply units p v) (λ w. provided (bound w) ValueFull w)

-- The bound of the product.
abbrev pub apply_patch : {U : Type 0} → (List ℕ → List U) → Patch U → Value U → Answer (Value U)
apply_patch units = apply_in units fits

-- Patches in order, up to the first refusal; f applies one.
abbrev pub apply_all : {U : Type 0} → (Patch U → Value U → Answer (Value U)) → List (Patch U) → Value U → Answer (Value U)
apply_all f [] v = Ok v
apply_all f (p ∷ ps) v = and_then (f p v) (apply_all f ps)

-- What applying a batch leaves: the value, the number of patches applied, and the refusal that stopped it, if one did.
pub record Applied (U : Type 0) : Type 0 where
  pub value : Value U
  pub count : ℕ
  pub answer : Answer (Value U)

-- One patch more applied.
abbrev pub one_more : {U : Type 0} → Applied U → Applied U
one_more a = record { value = a.value; count = suc a.count; answer = a.answer }

-- A patch that succeeds counts, and the rest goes on; a refused one leaves the value alone.
abbrev pub applied_with : {U : Type 0} → Value U → Answer (Value U) → (Value U → Applied U) → Applied U
applied_with v (Ok w) rest = one_more (rest w)
applied_with v (Err r) rest = record { value = v; count = 0; answer = Err r }

-- A batch applied, up to the first refusal.
abbrev pub applied : {U : Type 0} → (Patch U → Value U → Answer (Value U)) → List (Patch U) → Value U → Applied U
applied f [] v = record { value = v; count = 0; answer = Ok v }
applied f (p ∷ ps) v = applied_with v (f p v) (applied f ps)

-- What a path leads to.
pub data Reading (U : Type 0) : Type 0 where
  a_scalar : Scalar → Reading U
  a_value : Value U → Reading U

-- The entry of a key, the one at a position.
module _ {E : Type 0} where
  -- The entry of a key.
  abbrev pub entry_at : Key → List (Key × E) → Answer E
  entry_at k [] = Err ApplyInvalidProp
  entry_at k (x ∷ xs) = by3 (compare_keys k x.0) (entry_at k xs) (Ok x.1) (entry_at k xs)

  -- The entry at a position.
  abbrev pub item_at : ℕ → List E → Answer E
  item_at i [] = Err ApplyInvalidProp
  item_at zero (x ∷ xs) = Ok x
  item_at (suc i) (x ∷ xs) = item_at i xs

  -- The entry that a step leads to; a step that does not fit is refused, one through a text too.
  abbrev pub step_to : {W : Type 0} → Prop → Row W E → Answer E
  step_to (key k) (map_of m) = entry_at k m
  step_to (key k) (list_of l) = Err Fail
  step_to (key k) (text_of u) = Err Fail
  step_to (pos i) (map_of m) = Err Fail
  step_to (pos i) (list_of l) = item_at i l
  step_to (pos i) (text_of u) = Err Fail

module _ {U : Type 0} where
  -- A scalar is read where the path ends, and no step leads on from it.
  abbrev pub read_scalar : List Prop → Scalar → Answer (Reading U)
  read_scalar [] s = Ok (a_scalar s)
  read_scalar (q ∷ p) s = Err Fail

  -- An entry read along the rest of a path.
  abbrev pub read_item : List Prop → (Value U → Answer (Reading U)) → Item (Value U) → Answer (Reading U)
  read_item p g (scalar s b) = read_scalar p s
  read_item p g (object x b) = g x

  -- A value read by path.
  abbrev pub read : List Prop → Value U → Answer (Reading U)
  read [] v = Ok (a_value v)
  read (s ∷ p) v = and_then (step_to s (row_of v)) (read_item p (read p))
