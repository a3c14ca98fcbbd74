-- What a placed entry becomes in the tree.
use Rattle.std.specs.Prelude.{◌≡◌, ℕ, ◌<◌, ◌≤◌, List, [], length, slice_index_or}
use Rattle.std.specs.declared.cmp.Ordering.TheVariants.{Less}
use Rattle.types.specs.declared.types.ObjType.{ObjType}
use Rattle.types.specs.declared.types.ObjType.TheVariants.{Map as MapKind, Table as TableKind, List as ListKind, Text as TextKind}
use Rattle.meaning.specs.Entries.{Key, compare_keys, Scalar, null, boolean, int, uint, timestamp, counter, str, bytes, Content, scalar_of, object_of, Entry}
use Rattle.node_chains.specs.Tree.{Tree, node, none, pruned, relabel}
use Rattle.node_chains.specs.declared.node.Content.{Content as NodeContent}
use Rattle.node_chains.specs.declared.node.Content.TheVariants.{Map, List as Sequence, Text, Null, Boolean, Int, Uint, Timestamp, Counter, Str, Bytes}
use Rattle.node_table.specs.Held.{Datum, refilled}
use Rattle.node_table.specs.Values.{top}

-- A new object starts empty, a table as a map.
abbrev pub kind_in : ObjType → NodeContent
kind_in MapKind = Map
kind_in TableKind = Map
kind_in ListKind = Sequence
kind_in TextKind = Text

-- A scalar without its bytes.
abbrev pub scalar_in : Scalar → NodeContent
scalar_in null = Null
scalar_in (boolean b) = Boolean b
scalar_in (int n) = Int n
scalar_in (uint n) = Uint n
scalar_in (timestamp n) = Timestamp n
scalar_in (counter n) = Counter n
scalar_in (str s) = Str
scalar_in (bytes s) = Bytes

-- What is placed, without its bytes.
abbrev pub content_in : Content → NodeContent
content_in (scalar_of s) = scalar_in s
content_in (object_of k) = kind_in k

-- The bytes of a string or byte string.
abbrev pub scalar_string : Scalar → List ℕ
scalar_string (str s) = s
scalar_string (bytes s) = s
scalar_string _ = []

-- Those of what is placed; an object has none.
abbrev pub string_in : Content → List ℕ
string_in (scalar_of s) = scalar_string s
string_in (object_of k) = []

-- An entry placed under a key; elements of lists have the empty key.
abbrev pub placed_datum : {U : Type 0} → Key → Entry → Datum U
placed_datum k e = record { key = k; content = content_in e.content; conflict = e.flag; string = string_in e.content; units = [] }

-- The same as a tree, with nothing under it.
abbrev pub placed_tree : {U : Type 0} → Key → Entry → Tree (Datum U)
placed_tree k e = node (placed_datum k e) none

-- An entry put over another: the key stays, and what was under it is gone.
abbrev pub put_over : {U : Type 0} → Entry → Tree (Datum U) → Tree (Datum U)
put_over e t = relabel (refilled (content_in e.content) e.flag (string_in e.content)) (pruned t)

-- No tree has the key k, and p is its place in the order; d stands for a tree that is not there.
pub record KeyGone {U : Type 0} (d : Datum U) (k : Key) (p : ℕ) (ts : List (Tree (Datum U))) : Type 0 where
  pub within : p ≤ length ts
  pub above : (q : ℕ) → q < p → compare_keys (top (slice_index_or ts q (node d none))).key k ≡ Less
  pub below : (q : ℕ) → p ≤ q → q < length ts → compare_keys k (top (slice_index_or ts q (node d none))).key ≡ Less
