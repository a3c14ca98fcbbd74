-- What a reader of the code gave, told as the values that it stands for.
use Rattle.std.specs.Prelude.{ℕ, List, Some, None, Option}
use Rattle.std.specs.Borrow.{Bor}
use Rattle.record_codec.specs.Codec.{Got}

-- A reader's answer: the value as f tells it, and what the rest of the slice holds.
abbrev pub saw : {A B : Type 0} → (A → B) → Option (A × Bor (List ℕ)) → Got B
saw f None = None
saw f (Some p) = Some (f p.0, p.1.now)

abbrev pub itself : {A : Type 0} → A → A
itself a = a

abbrev pub behind : Bor (List ℕ) → List ℕ
behind s = s.now
