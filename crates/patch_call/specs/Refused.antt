-- What of a call is refused wherever it is made.
use Rattle.std.specs.Prelude.{Bool, List, [], ◌∷◌, Ok, Err}
use Rattle.std.proofs.Math.Option.{Option, none, some}
use Rattle.types.specs.declared.types.ObjId.{ObjId}
use Rattle.types.specs.declared.error.Refusal.{Refusal}
use Rattle.types.specs.declared.error.Refusal.TheVariants.{ZeroCounter, PositionTooHigh, DeletionLength, TooLong, InvalidEncoding}
use Rattle.meaning.specs.Results.{Answer, first_of}
use Rattle.meaning.specs.Calls.{Call, zero_counter, position_too_high, deletion_alone, too_long, bad_encoding}

-- The answer of a call that is refused, or is not.
abbrev pub answer : Option Refusal → Answer (Unit {0})
answer none = Ok tt
answer (some r) = Err r

-- The tests that need neither path nor counts, in their order.
abbrev pub early_tests : ObjId → Call → List (Bool × Refusal)
early_tests o c =
    (zero_counter o c, ZeroCounter)
    ∷ (position_too_high c, PositionTooHigh)
    ∷ (deletion_alone c, DeletionLength)
    ∷ (too_long c, TooLong)
    ∷ (bad_encoding c, InvalidEncoding)
    ∷ []

-- The first refusal of these that fits.
abbrev pub early : ObjId → Call → Option Refusal
early o c = first_of (early_tests o c)
