-- The value of a screen: a tree of maps, lists and texts. Values are equal if they are the same tree, down to each flag and unit; they hold no identities.
use Rattle.std.specs.Prelude.{ℕ, ◌+◌, Bool, ◌&&◌, List, [], ◌∷◌, length, nat_le}
use Rattle.types.specs.Limits.{limits}
use Rattle.types.specs.declared.types.ObjType.{ObjType}
use Rattle.types.specs.declared.types.ObjType.TheVariants.{Map, Table, List as Sequence, Text}
use Rattle.meaning.specs.Entries.{Key, Scalar, bytes_of_scalar, Item, scalar, object}
use Rattle.meaning.specs.Rows.{Row, map_of, list_of, text_of}

mutual
  pub data Value (U : Type 0) : Type 0 where
    map_v : Entries U → Value U
    list_v : Cells U → Value U
    text_v : List U → Value U

  pub data Entries (U : Type 0) : Type 0 where
    no_entry : Entries U
    scalar_entry : Key → Scalar → Bool → Entries U → Entries U
    value_entry : Key → Value U → Bool → Entries U → Entries U

  pub data Cells (U : Type 0) : Type 0 where
    no_cell : Cells U
    scalar_cell : Scalar → Bool → Cells U → Cells U
    value_cell : Value U → Bool → Cells U → Cells U

-- A value and the row of its container are the same, told in two ways.
module _ {U : Type 0} where
  -- An item under a key.
  abbrev pub entry : Key → Item (Value U) → Entries U → Entries U
  entry k (scalar s f) es = scalar_entry k s f es
  entry k (object v f) es = value_entry k v f es

  -- A map's entries from its row.
  abbrev pub entries : List (Key × Item (Value U)) → Entries U
  entries [] = no_entry
  entries (x ∷ xs) = entry x.0 x.1 (entries xs)

  -- A list's elements from its row.
  abbrev pub cells : List (Item (Value U)) → Cells U
  cells [] = no_cell
  cells (scalar s f ∷ xs) = scalar_cell s f (cells xs)
  cells (object v f ∷ xs) = value_cell v f (cells xs)

  -- And back.
  abbrev pub entry_list : Entries U → List (Key × Item (Value U))
  entry_list no_entry = []
  entry_list (scalar_entry k s f m) = (k, scalar s f) ∷ entry_list m
  entry_list (value_entry k v f m) = (k, object v f) ∷ entry_list m

  -- And back.
  abbrev pub cell_list : Cells U → List (Item (Value U))
  cell_list no_cell = []
  cell_list (scalar_cell s f l) = scalar s f ∷ cell_list l
  cell_list (value_cell v f l) = object v f ∷ cell_list l

  -- A value from its row.
  abbrev pub built : Row (List U) (Item (Value U)) → Value U
  built (map_of m) = map_v (entries m)
  built (list_of l) = list_v (cells l)
  built (text_of us) = text_v us

  -- The row of a value.
  abbrev pub row_of : Value U → Row (List U) (Item (Value U))
  row_of (map_v m) = map_of (entry_list m)
  row_of (list_v l) = list_of (cell_list l)
  row_of (text_v us) = text_of us

  -- What a screen shows of an object just placed: nothing in it yet, and a table as a map.
  abbrev pub bare : ObjType → Value U
  bare Map = built (map_of [])
  bare Table = built (map_of [])
  bare Sequence = built (list_of [])
  bare Text = built (text_of [])

-- What a value counts for: entries over all depths, text units, bytes of keys and scalars.
pub record Counts : Type 0 where
  pub entry_count : ℕ
  pub unit_count : ℕ
  pub byte_count : ℕ

-- Nothing counted.
abbrev pub no_counts : Counts
no_counts = record { entry_count = 0; unit_count = 0; byte_count = 0 }

-- Counts together.
abbrev pub plus : Counts → Counts → Counts
plus a b = record { entry_count = a.entry_count + b.entry_count; unit_count = a.unit_count + b.unit_count; byte_count = a.byte_count + b.byte_count }

-- One entry, with the bytes of its key and scalar.
abbrev pub one_entry : ℕ → Counts
one_entry n = record { entry_count = 1; unit_count = 0; byte_count = n }

-- Units of a text.
abbrev pub some_units : ℕ → Counts
some_units n = record { entry_count = 0; unit_count = n; byte_count = 0 }

abbrev mutual
  pub counts : {U : Type 0} → Value U → Counts
  counts (map_v es) = entries_counts es
  counts (list_v cs) = cells_counts cs
  counts (text_v us) = some_units (length us)

  pub entries_counts : {U : Type 0} → Entries U → Counts
  entries_counts no_entry = no_counts
  entries_counts (scalar_entry k s f es) = plus (one_entry (length k + bytes_of_scalar s)) (entries_counts es)
  entries_counts (value_entry k v f es) = plus (one_entry (length k)) (plus (counts v) (entries_counts es))

  pub cells_counts : {U : Type 0} → Cells U → Counts
  cells_counts no_cell = no_counts
  cells_counts (scalar_cell s f cs) = plus (one_entry (bytes_of_scalar s)) (cells_counts cs)
  cells_counts (value_cell v f cs) = plus (one_entry 0) (plus (counts v) (cells_counts cs))

-- Within the bounds of a value.
abbrev pub within_value : Counts → Bool
within_value c = nat_le c.entry_count limits.value_entries && (nat_le c.unit_count limits.value_units && nat_le c.byte_count limits.value_bytes)

-- A value within its bounds.
abbrev pub fits : {U : Type 0} → Value U → Bool
fits v = within_value (counts v)
