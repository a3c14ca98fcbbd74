-- A row is what one object holds. What a patch does to it is the same in a kept row and on a screen, since it never looks into objects.
use Rattle.std.specs.Prelude.{ℕ, zero, suc, ◌^◌, Bool, true, List, [], ◌∷◌, ◌++◌, map, ℤ, pos as plain, negsuc, ◌+ℤ◌, Ok, Err, nat_lt}
use Rattle.types.specs.declared.error.Refusal.{Refusal}
use Rattle.types.specs.declared.error.Refusal.TheVariants.{InvalidMapOp, InvalidListOp, InvalidTextOp, InvalidIndex, InvalidKey, BadIncrement, CounterOverflow}
use Rattle.meaning.specs.Results.{Answer, provided, on_ok}
use Rattle.meaning.specs.Lists.{edit}
use Rattle.meaning.specs.Entries.{Key, compare_keys, by3, Scalar, null, boolean, int, uint, timestamp, counter, str, bytes, Content, scalar_of, object_of, Entry, Ref, ref_rank, Item, scalar, object, placed}
use Rattle.meaning.specs.Patches.{key, pos, Action, put_map, put_seq, insert, splice_text, increment, conflict, delete_map, delete_seq}

-- A map's or table's row, a list's, a text's; W is what a text is made of, E what an entry is.
pub data Row (W E : Type 0) : Type 0 where
  map_of : List (Key × E) → Row W E
  list_of : List E → Row W E
  text_of : W → Row W E

-- Entries and rows carried along a function of objects.
module _ {X Y : Type 0} where
  -- An item.
  abbrev pub map_item : (X → Y) → Item X → Item Y
  map_item f (scalar s b) = scalar s b
  map_item f (object x b) = object (f x) b

  -- A map's items.
  abbrev pub map_pairs : (X → Y) → List (Key × Item X) → List (Key × Item Y)
  map_pairs f [] = []
  map_pairs f (x ∷ xs) = (x.0, map_item f x.1) ∷ map_pairs f xs

  -- A list's items.
  abbrev pub map_items : (X → Y) → List (Item X) → List (Item Y)
  map_items f [] = []
  map_items f (x ∷ xs) = map_item f x ∷ map_items f xs

  -- Any row; a text names no object.
  abbrev pub map_row : {W : Type 0} → (X → Y) → Row W (Item X) → Row W (Item Y)
  map_row f (map_of m) = map_of (map_pairs f m)
  map_row f (list_of l) = list_of (map_items f l)
  map_row f (text_of w) = text_of w

-- The objects that a row names, in order.
module _ {X : Type 0} where
  -- An item's object.
  abbrev pub refs_e : Item X → List X
  refs_e (scalar s b) = []
  refs_e (object x b) = x ∷ []

  -- A map's.
  abbrev pub refs_p : List (Key × Item X) → List X
  refs_p [] = []
  refs_p (x ∷ xs) = refs_e x.1 ++ refs_p xs

  -- A list's.
  abbrev pub refs_l : List (Item X) → List X
  refs_l [] = []
  refs_l (x ∷ xs) = refs_e x ++ refs_l xs

  -- Any row's.
  abbrev pub refs : {W : Type 0} → Row W (Item X) → List X
  refs (map_of m) = refs_p m
  refs (list_of l) = refs_l l
  refs (text_of w) = []

-- The ranks of references.
abbrev pub ids : List Ref → List ℕ
ids [] = []
ids (r ∷ rs) = ref_rank r ∷ ids rs

-- One entry replaced: that of a key, that at a position; refused by r where there is none.
module _ {E : Type 0} where
  -- A key's.
  abbrev pub mod_in : Refusal → Key → (E → Answer E) → List (Key × E) → Answer (List (Key × E))
  mod_in r k g [] = Err r
  mod_in r k g (x ∷ xs) =
      by3 (compare_keys k x.0) (on_ok (λ ys. x ∷ ys) (mod_in r k g xs)) (on_ok (λ y. (x.0, y) ∷ xs) (g x.1)) (on_ok (λ ys. x ∷ ys) (mod_in r k g xs))

  -- That at a position.
  abbrev pub mod_at : Refusal → ℕ → (E → Answer E) → List E → Answer (List E)
  mod_at r i g [] = Err r
  mod_at r zero g (x ∷ xs) = on_ok (λ y. y ∷ xs) (g x)
  mod_at r (suc i) g (x ∷ xs) = on_ok (λ ys. x ∷ ys) (mod_at r i g xs)

  -- An entry put under a key, in the place that the order of keys gives it.
  abbrev pub put_in : Key → E → List (Key × E) → List (Key × E)
  put_in k e [] = (k, e) ∷ []
  put_in k e (x ∷ xs) = by3 (compare_keys k x.0) ((k, e) ∷ x ∷ xs) ((k, e) ∷ xs) (x ∷ put_in k e xs)

  -- A key's entry taken away, if it is there.
  abbrev pub del_in : Key → List (Key × E) → List (Key × E)
  del_in k [] = []
  del_in k (x ∷ xs) = by3 (compare_keys k x.0) (x ∷ del_in k xs) xs (x ∷ del_in k xs)

-- A signed number has 64 bits.
abbrev pub in64 : ℤ → Bool
in64 (plain n) = nat_lt n (2 ^ 63)
in64 (negsuc n) = nat_lt n (2 ^ 63)

-- Only a counter is incremented, and stays within 64 bits.
abbrev pub raised_scalar : ℤ → Scalar → Answer Scalar
raised_scalar n null = Err BadIncrement
raised_scalar n (boolean b) = Err BadIncrement
raised_scalar n (int x) = Err BadIncrement
raised_scalar n (uint x) = Err BadIncrement
raised_scalar n (timestamp x) = Err BadIncrement
raised_scalar n (counter x) = provided (in64 (x +ℤ n)) CounterOverflow (counter (x +ℤ n))
raised_scalar n (str x) = Err BadIncrement
raised_scalar n (bytes x) = Err BadIncrement

module _ {X : Type 0} where
  -- An object is no counter.
  abbrev pub raised : ℤ → Item X → Answer (Item X)
  raised n (scalar s b) = on_ok (λ t. scalar t b) (raised_scalar n s)
  raised n (object x b) = Err BadIncrement

  -- The conflict flag set.
  abbrev pub flagged : Item X → Answer (Item X)
  flagged (scalar s b) = Ok (scalar s true)
  flagged (object x b) = Ok (object x true)

-- What stands in a text for a value that is no string: U+FFFC.
abbrev pub replacement : List ℕ
replacement = 0xEF ∷ 0xBF ∷ 0xBC ∷ []

-- A string stands for itself.
abbrev pub text_bytes : Scalar → List ℕ
text_bytes null = replacement
text_bytes (boolean b) = replacement
text_bytes (int x) = replacement
text_bytes (uint x) = replacement
text_bytes (timestamp x) = replacement
text_bytes (counter x) = replacement
text_bytes (str s) = s
text_bytes (bytes x) = replacement

-- An object stands as the replacement.
abbrev pub content_text : Content → List ℕ
content_text (scalar_of s) = text_bytes s
content_text (object_of k) = replacement

-- units gives the units of a string.
module _ {U : Type 0} (units : List ℕ → List U) where
  -- The units of an entry that is placed in a text, and of several in a row.
  abbrev pub units_in : Entry → List U
  units_in e = units (content_text e.content)

  -- Of several entries, one after the other.
  abbrev pub units_of_all : List Entry → List U
  units_of_all [] = []
  units_of_all (e ∷ es) = units_in e ++ units_of_all es

  -- An action in a text's units.
  abbrev pub in_text : Action U → List U → Answer (List U)
  in_text (put_map k e) us = Err InvalidTextOp
  in_text (put_seq i e) us = edit i 1 (units_in e) us
  in_text (insert i es) us = edit i 0 (units_of_all es) us
  in_text (splice_text i ys) us = edit i 0 ys us
  in_text (increment p n) us = Err InvalidTextOp
  in_text (conflict p) us = Err InvalidTextOp
  in_text (delete_map k) us = Err InvalidTextOp
  in_text (delete_seq i n) us = edit i n [] us

  -- g says what stands for an object that the action places.
  module _ {X : Type 0} (g : Ref → X) where
    -- An action among a map's entries.
    abbrev pub in_map : Action U → List (Key × Item X) → Answer (List (Key × Item X))
    in_map (put_map k e) m = Ok (put_in k (placed g e) m)
    in_map (put_seq i e) m = Err InvalidMapOp
    in_map (insert i es) m = Err InvalidMapOp
    in_map (splice_text i ys) m = Err InvalidMapOp
    in_map (increment (key k) n) m = mod_in InvalidKey k (raised n) m
    in_map (increment (pos i) n) m = Err InvalidMapOp
    in_map (conflict (key k)) m = mod_in InvalidKey k flagged m
    in_map (conflict (pos i)) m = Err InvalidMapOp
    in_map (delete_map k) m = Ok (del_in k m)
    in_map (delete_seq i n) m = Err InvalidMapOp

    -- An action among a list's elements.
    abbrev pub in_list : Action U → List (Item X) → Answer (List (Item X))
    in_list (put_map k e) l = Err InvalidListOp
    in_list (put_seq i e) l = mod_at InvalidIndex i (λ _. Ok (placed g e)) l
    in_list (insert i es) l = edit i 0 (map (placed g) es) l
    in_list (splice_text i ys) l = Err InvalidListOp
    in_list (increment (key k) n) l = Err InvalidListOp
    in_list (increment (pos i) n) l = mod_at InvalidIndex i (raised n) l
    in_list (conflict (key k)) l = Err InvalidListOp
    in_list (conflict (pos i)) l = mod_at InvalidIndex i flagged l
    in_list (delete_map k) l = Err InvalidListOp
    in_list (delete_seq i n) l = edit i n [] l

    -- An action in a row: refused by 10 to 16, or the row after it.
    abbrev pub in_row : Action U → Row (List U) (Item X) → Answer (Row (List U) (Item X))
    in_row a (map_of m) = on_ok map_of (in_map a m)
    in_row a (list_of l) = on_ok list_of (in_list a l)
    in_row a (text_of us) = on_ok text_of (in_text a us)
