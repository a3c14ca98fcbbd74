-- The index of a record: where its objects and entries begin.
use Rattle.std.specs.Prelude.{ℕ, ◌+◌, List, [], ◌∷◌, ◌++◌, length}
use Rattle.meaning.specs.Documents.{Doc}
use Rattle.document.specs.Places.{pairs}
use Rattle.record_codec.specs.Layout.{has_keys, put_slot, put_obj}

-- Where each of many begins, if the first begins at `at`.
abbrev pub offsets : {A : Type 0} → (A → List ℕ) → ℕ → List A → List ℕ
offsets put at [] = []
offsets put at (x ∷ xs) = at ∷ offsets put (at + length (put x)) xs

-- Where each entry of a document begins: those of an object follow its head of 20 bytes and a count of 4.
abbrev pub entry_offsets : ℕ → Doc → List ℕ
entry_offsets at [] = []
entry_offsets at (o ∷ os) = offsets (put_slot (has_keys o.kind)) (at + 24) (pairs o.row) ++ entry_offsets (at + length (put_obj o)) os

-- The number of each object's first entry, if n entries stand before.
abbrev pub first_numbers : ℕ → Doc → List ℕ
first_numbers n [] = []
first_numbers n (o ∷ os) = n ∷ first_numbers (n + length (pairs o.row)) os

abbrev pub entry_count : Doc → ℕ
entry_count [] = 0
entry_count (o ∷ os) = length (pairs o.row) + entry_count os
