-- A test at one place of a list: it passes where nothing stands.
use Rattle.std.specs.Prelude.{◌≡◌, ℕ, ◌<◌, Bool, true, List, [], length, Some, None, Option as Answer}
use Rattle.std.proofs.Math.Option.{Option, none, some}
use Rattle.meaning.specs.Entries.{Key, Entry}
use Rattle.meaning.specs.Documents.{Obj, Doc, find}
use Rattle.document.specs.Places.{nth, pairs}
use Rattle.document.specs.Laws.{keys_ok}

abbrev pub passes : {X : Type 0} → (X → Bool) → Option X → Bool
passes p none = true
passes p (some x) = p x

-- The same of two places side by side.
abbrev pub ordered : {X : Type 0} → (X → X → Bool) → Option X → Option X → Bool
ordered before none y = true
ordered before (some x) none = true
ordered before (some x) (some y) = before x y

-- The place of the object of a rank, if there is one.
abbrev pub Found : Doc → ℕ → Answer ℕ → Type 0
Found d i None = find d i ≡ none
Found d i (Some j) = (j < length d) × (find d i ≡ nth d j)

-- The entries of the object at a place, with their keys, and whether its keys rise.
abbrev pub pairs_told : Option Obj → List (Key × Entry)
pairs_told none = []
pairs_told (some o) = pairs o.row

abbrev pub keys_told : Option Obj → Bool
keys_told none = true
keys_told (some o) = keys_ok o.row
