use Rattle.std.specs.Prelude.{ℕ}
use Rattle.types.specs.declared.error.Refusal.{Refusal}
use Rattle.types.specs.declared.error.Refusal.TheVariants.{ZeroCounter, PositionTooHigh, DeletionLength, TooLong, InvalidEncoding, PathTooDeep, Full, ApplyInvalidProp, Fail, InvalidMapOp, InvalidListOp, InvalidTextOp, InvalidIndex, InvalidKey, BadIncrement, CounterOverflow, ValueFull, InvalidLayout, UnlawfulRows}

-- The number of each refusal. Contracts take numbers from here and nowhere else.
abbrev pub number_of : Refusal → ℕ
-- log and builder calls, in the order in which they are checked
number_of ZeroCounter = 1
number_of PositionTooHigh = 2
number_of DeletionLength = 3
number_of TooLong = 4
number_of InvalidEncoding = 5
number_of PathTooDeep = 6
number_of Full = 7
-- application: the steps of the path, the kind of the patch, the change itself, the counts
number_of ApplyInvalidProp = 8
number_of Fail = 9
number_of InvalidMapOp = 10
number_of InvalidListOp = 11
number_of InvalidTextOp = 12
number_of InvalidIndex = 13
number_of InvalidKey = 14
number_of BadIncrement = 15
number_of CounterOverflow = 16
number_of ValueFull = 17
-- opening a document
number_of InvalidLayout = 18
number_of UnlawfulRows = 19
