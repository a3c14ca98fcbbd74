-- The units of a text, by kind.
use Rattle.std.specs.Prelude.{◌≡◌, ℕ, ◌<◌, ◌≤◌, List, ◌++◌, length, drop, Some, None, Option}
use Rattle.text_value.specs.Rfc3629.{code_points}

-- Counted in UTF-8, the units of a text are its bytes.
abbrev pub byte_units : List ℕ → List ℕ
byte_units bs = bs

-- Counted in code points, they are its code points.
abbrev pub point_units : List ℕ → List ℕ
point_units bs = code_points bs

-- Places with units written over the first of them; the later ones stay.
abbrev pub over : {X : Type 0} → List X → List X → List X
over us places = us ++ drop (length us) places

-- What writing units over places answers and leaves: their number and the places with them where they have room, else nothing and the places as they were.
abbrev pub Wrote : {X : Type 0} → List X → List X → Option ℕ → List X → Type 0
Wrote us before (Some n) after = (n ≡ length us) × (n ≤ length before) × (after ≡ over us before)
Wrote us before None after = (length before < length us) × (after ≡ before)
