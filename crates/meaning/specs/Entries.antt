-- What stands in a document, a patch or a value: identities, keys, scalars, entries.
use Rattle.std.specs.Prelude.{ℕ, ◌+◌, ◌*◌, ◌^◌, Bool, List, [], ◌∷◌, length, ℤ}
use Rattle.std.specs.declared.cmp.Ordering.TheVariants.{Less, Equal, Greater}
use Rattle.std.specs.declared.cmp.Ordering.{Ordering}
use Rattle.std.specs.Ordering.{ordering_then}
use Rattle.types.specs.Identities.{compare_numbers}
use Rattle.types.specs.declared.types.OpId.{OpId}
use Rattle.types.specs.declared.types.ObjId.{ObjId}
use Rattle.types.specs.declared.types.ObjType.{ObjType}

-- The place of an identity among all identities, whose two numbers have 32 bits each: the root's is 0. Identities compare as their ranks do.
abbrev pub rank : ObjId → ℕ
rank o = o.0.counter * 2 ^ 32 + o.0.actor

-- The ranks of identities.
abbrev pub ranks : List ObjId → List ℕ
ranks [] = []
ranks (o ∷ os) = rank o ∷ ranks os

-- A key, by its bytes.
abbrev pub Key : Type 0
Key = List ℕ

-- Keys are ordered byte by byte, and the beginning of a key comes before it.
abbrev pub compare_keys : Key → Key → Ordering
compare_keys [] [] = Equal
compare_keys [] (y ∷ ys) = Less
compare_keys (x ∷ xs) [] = Greater
compare_keys (x ∷ xs) (y ∷ ys) = ordering_then (compare_numbers x y) (compare_keys xs ys)

-- One of three, as a comparison came out.
abbrev pub by3 : {X : Type 0} → Ordering → X → X → X → X
by3 Less a b c = a
by3 Equal a b c = b
by3 Greater a b c = c

-- Scalars; those with a sign have 64 bits.
pub data Scalar : Type 0 where
  null : Scalar
  boolean : Bool → Scalar
  int : ℤ → Scalar
  uint : ℕ → Scalar
  timestamp : ℤ → Scalar
  counter : ℤ → Scalar
  str : List ℕ → Scalar
  bytes : List ℕ → Scalar

-- How many bytes a scalar counts for: only strings and byte strings count any.
abbrev pub bytes_of_scalar : Scalar → ℕ
bytes_of_scalar null = 0
bytes_of_scalar (boolean b) = 0
bytes_of_scalar (int n) = 0
bytes_of_scalar (uint n) = 0
bytes_of_scalar (timestamp n) = 0
bytes_of_scalar (counter n) = 0
bytes_of_scalar (str s) = length s
bytes_of_scalar (bytes s) = length s

-- What is put or inserted: a scalar, or a new object of a kind.
pub data Content : Type 0 where
  scalar_of : Scalar → Content
  object_of : ObjType → Content

-- An object counts for none.
abbrev pub content_bytes : Content → ℕ
content_bytes (scalar_of s) = bytes_of_scalar s
content_bytes (object_of k) = 0

-- An entry of a document, and what a patch places: its content, its identity, its conflict flag.
pub record Entry : Type 0 where
  pub content : Content
  pub ident : OpId
  pub flag : Bool

-- What an object entry names: an object's kind and identity.
pub record Ref : Type 0 where
  pub kind : ObjType
  pub object : ObjId

-- The rank of the object that is named.
abbrev pub ref_rank : Ref → ℕ
ref_rank r = rank r.object

-- An entry without the identity of its scalar; X stands for an object: its reference in a document, its value on a screen.
pub data Item (X : Type 0) : Type 0 where
  scalar : Scalar → Bool → Item X
  object : X → Bool → Item X

-- The item of an entry, where g says what stands for its object.
abbrev pub placed_as : {X : Type 0} → (Ref → X) → Content → OpId → Bool → Item X
placed_as g (scalar_of s) d f = scalar s f
placed_as g (object_of k) d f = object (g (record { kind = k; object = record { 0 = d } })) f

-- The same of an entry.
abbrev pub placed : {X : Type 0} → (Ref → X) → Entry → Item X
placed g e = placed_as g e.content e.ident e.flag
