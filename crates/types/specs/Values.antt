use Rattle.std.specs.Prelude.{◌≡◌, ℕ, List, length, ⊤}
use Rattle.std.specs.Borrow.{Bor}
use Rattle.types.specs.declared.value.ScalarOf.{ScalarOf}
use Rattle.types.specs.declared.value.ScalarOf.TheVariants.{Null, Boolean, Int, Uint, Timestamp, Counter, Str, Bytes}
use Rattle.types.specs.declared.value.ValueOf.{ValueOf}
use Rattle.types.specs.declared.value.ValueOf.TheVariants.{Object, Scalar}
use Rattle.types.specs.declared.value.PropOf.{PropOf}
use Rattle.types.specs.declared.value.PropOf.TheVariants.{Map, Seq}

-- How many bytes a scalar counts for: only strings and byte strings count any.
abbrev pub bytes_of_scalar : ScalarOf (Bor (List ℕ)) → ℕ
bytes_of_scalar Null = 0
bytes_of_scalar (Boolean b) = 0
bytes_of_scalar (Int n) = 0
bytes_of_scalar (Uint n) = 0
bytes_of_scalar (Timestamp n) = 0
bytes_of_scalar (Counter n) = 0
bytes_of_scalar (Str s) = length s.now
bytes_of_scalar (Bytes s) = length s.now

-- An object counts for none.
abbrev pub bytes_of_value : ValueOf (Bor (List ℕ)) → ℕ
bytes_of_value (Object k) = 0
bytes_of_value (Scalar s) = bytes_of_scalar s

-- What holds of the string or byte string that a scalar has, if it has one.
abbrev pub ForString : {S : Type 0} → ScalarOf S → (S → Type 0) → Type 0
ForString Null P = ⊤
ForString (Boolean b) P = ⊤
ForString (Int n) P = ⊤
ForString (Uint n) P = ⊤
ForString (Timestamp n) P = ⊤
ForString (Counter n) P = ⊤
ForString (Str s) P = P s
ForString (Bytes s) P = P s

-- The second scalar is the first, but for its string, which R ties to the first's.
abbrev pub MapsScalar : {S T : Type 0} → (S → T → Type 0) → ScalarOf S → ScalarOf T → Type 0
MapsScalar R Null r = r ≡ Null
MapsScalar R (Boolean b) r = r ≡ Boolean b
MapsScalar R (Int n) r = r ≡ Int n
MapsScalar R (Uint n) r = r ≡ Uint n
MapsScalar R (Timestamp n) r = r ≡ Timestamp n
MapsScalar R (Counter n) r = r ≡ Counter n
MapsScalar {T = T} R (Str s) r = (t : T) × R s t × (r ≡ Str t)
MapsScalar {T = T} R (Bytes s) r = (t : T) × R s t × (r ≡ Bytes t)

abbrev pub ForValueString : {S : Type 0} → ValueOf S → (S → Type 0) → Type 0
ForValueString (Object k) P = ⊤
ForValueString (Scalar s) P = ForString s P

abbrev pub MapsValue : {S T : Type 0} → (S → T → Type 0) → ValueOf S → ValueOf T → Type 0
MapsValue R (Object k) r = r ≡ Object k
MapsValue {T = T} R (Scalar s) r = (t : ScalarOf T) × MapsScalar R s t × (r ≡ Scalar t)

-- What holds of the key that a place has, if it has one.
abbrev pub ForKey : {K : Type 0} → PropOf K → (K → Type 0) → Type 0
ForKey (Map k) P = P k
ForKey (Seq i) P = ⊤

-- The second place is the first, but for its key, which R ties to the first's.
abbrev pub MapsProp : {K L : Type 0} → (K → L → Type 0) → PropOf K → PropOf L → Type 0
MapsProp {L = L} R (Map k) r = (l : L) × R k l × (r ≡ Map l)
MapsProp R (Seq i) r = r ≡ Seq i
