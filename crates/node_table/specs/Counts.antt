-- What a tree counts for, and what of it the tables keep.
use Rattle.std.specs.Prelude.{◌≡◌, ℕ, ◌+◌, ◌*◌, true, false, List, [], length}
use Rattle.packed_rows.specs.Rows.{row, used}
use Rattle.meaning.specs.Values.{counts}
use Rattle.node_chains.specs.Tree.{Tree, Forest, node, none, more, weight, weights}
use Rattle.node_chains.specs.declared.node.Node.{Node}
use Rattle.node_table.specs.Kinds.{branches, is_text, is_list, has_string}
use Rattle.node_table.specs.Held.{Datum, held, Used, Dry, Spelled, below}
use Rattle.node_table.specs.Values.{is_container, top, value_of}

abbrev pub units_in : {U : Type 0} → Datum U → ℕ
units_in x = length x.units

abbrev pub bytes_in : {U : Type 0} → Datum U → ℕ
bytes_in x = length x.key + length x.string

-- Only texts have units, only strings and byte strings have a string.
pub record Fine {U : Type 0} (x : Datum U) : Type 0 where
  pub units : is_text x.content ≡ false → x.units ≡ []
  pub string : has_string x.content ≡ false → x.string ≡ []

-- No child has a key.
abbrev pub Keyless : {D U : Type 0} → Forest D → (D → Datum U) → Type 0
Keyless none g = Unit {0}
Keyless (more t ts) g = ((g (top t)).key ≡ []) × Keyless ts g

-- Every entry is fine, only maps and lists have children, and those of a list have no keys; g says what entry stands at a node.
abbrev mutual
  pub TidyAs : {D U : Type 0} → Tree D → (D → Datum U) → Type 0
  TidyAs (node x ts) g = Fine (g x) × (branches (g x).content ≡ false → ts ≡ none) × (is_list (g x).content ≡ true → Keyless ts g) × AllTidy ts g

  pub AllTidy : {D U : Type 0} → Forest D → (D → Datum U) → Type 0
  AllTidy none g = Unit {0}
  AllTidy (more t ts) g = TidyAs t g × AllTidy ts g

abbrev pub Tidy : {U : Type 0} → Tree (Datum U) → Type 0
Tidy t = TidyAs t (λ x. x)

-- The value of a tidy tree counts its nodes below the root, their units and their bytes.
abbrev pub CountsAgree : Type 0 → Type 0
CountsAgree U = (x : Datum U) (ts : Forest (Datum U)) → is_container x.content ≡ true → Tidy (node x ts)
    → counts (value_of (node x ts)) ≡ record { entry_count = weights ts (λ _. 1); unit_count = weight (node x ts) units_in; byte_count = weights ts bytes_in }

-- The tables keep these numbers: the places that are not free, the units of all rows, the bytes.
pub record Kept {U : Type 0} (f bytes : ℕ) (nodes : List Node) (t s keys strings : List ℕ) (u : ℕ → List U) : Type 0 where
  pub entries : weight (held nodes t s keys strings u) (λ _. 1) + length (row t s f) ≡ f
  pub units : weight (held nodes t s keys strings u) units_in ≡ below f (λ i. length (u i))
  pub spelled : weight (held nodes t s keys strings u) bytes_in ≡ bytes

abbrev pub CountsKept : Type 0 → Type 0
CountsKept U = (f bytes : ℕ) (nodes : List Node) (t s keys strings : List ℕ) (u : ℕ → List U)
    → Used f nodes t s bytes → Dry nodes u → length keys ≡ 64 * (f + 1) → length strings ≡ 256 * (f + 1) → Kept f bytes nodes t s keys strings u

-- Where the units are rows, their number is the end of the last.
abbrev pub UnitsKept : Type 0 → Type 0
UnitsKept U = (f bytes : ℕ) (nodes : List Node) (t s keys strings ut : List ℕ) (us : List U)
    → Used f nodes t s bytes → Dry nodes (row ut us) → Spelled f ut us → weight (held nodes t s keys strings (row ut us)) units_in ≡ used ut
