-- Keys that lie in packed rows.
use Rattle.std.specs.Prelude.{ℕ, cond, List, ◌==◌}
use Rattle.packed_rows.specs.Rows.{row}
use Rattle.ordered_set.specs.Orders.{Order, by, by_bytes}

-- the key of an item: the sought one for the highest number of 32 bits, for any other that of its row
abbrev pub key_of : List ℕ → List ℕ → List ℕ → ℕ → List ℕ
key_of starts bytes sought i = cond (i == 4294967295) sought (row starts bytes i)

-- items by the bytes of their keys
abbrev pub by_key : List ℕ → List ℕ → List ℕ → Order ℕ
by_key starts bytes sought = by (key_of starts bytes sought) by_bytes
