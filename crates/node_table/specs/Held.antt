-- What the tables hold: a tree of entries.
use Rattle.std.specs.Prelude.{◌≡◌, ℕ, zero, suc, ◌+◌, ◌*◌, ◌<◌, ◌≤◌, Bool, true, false, List, [], length, take, drop, ℤ, ◌≢◌, slice_index}
use Rattle.sequence_tree.specs.Lists.{spliced}
use Rattle.packed_rows.specs.Rows.{row, used, Packed}
use Rattle.node_chains.specs.Tree.{Tree, Under, relabel, tree, Steps, reach, update, weight, total}
use Rattle.node_table.specs.Kinds.{branches, is_text, raised_content}
use Rattle.node_chains.specs.Chains.{Placing, no_item, item_at, up_at, lev_at, under}
use Rattle.node_chains.specs.declared.node.Content.{Content}
use Rattle.node_chains.specs.declared.node.Content.TheVariants.{Map}
use Rattle.node_chains.specs.declared.node.Item.{Item}
use Rattle.node_chains.specs.declared.node.Node.{Node}

-- An entry: its key in a map, what it holds, its conflict flag, the bytes of its string, the units of its text.
pub record Datum (U : Type 0) : Type 0 where
  pub key : List ℕ
  pub content : Content
  pub conflict : Bool
  pub string : List ℕ
  pub units : List U

-- The first n bytes of slot i.
abbrev pub slot : ℕ → List ℕ → ℕ → ℕ → List ℕ
slot width bytes i n = take n (drop (width * i) bytes)

-- The entry at place i.
abbrev pub datum : {U : Type 0} → List Node → List ℕ → List ℕ → (ℕ → List U) → ℕ → Datum U
datum nodes keys strings u i =
    record {
      key = slot 64 keys i (item_at nodes i).key_len;
      content = (item_at nodes i).content;
      conflict = (item_at nodes i).conflict;
      string = slot 256 strings i (item_at nodes i).string_len;
      units = u i;
    }

-- The tree at the root.
abbrev pub held : {U : Type 0} → List Node → List ℕ → List ℕ → List ℕ → List ℕ → (ℕ → List U) → Tree (Datum U)
held nodes t s keys strings u = tree (datum nodes keys strings u) (row t s) 17 0

-- The tree b is a with the part at the place o changed by g; nothing else differs.
abbrev pub Changed : {D : Type 0} → (ℕ → List ℕ) → ℕ → (Tree D → Tree D) → Tree D → Tree D → Type 0
Changed R o g a b = (ps : List ℕ) → Steps R ps 0 → reach R ps 0 ≡ o → b ≡ update ps g a

-- Positions that led to o from the root lead to it still.
abbrev pub Stands : (ℕ → List ℕ) → (ℕ → List ℕ) → ℕ → Type 0
Stands R R2 o = (ps : List ℕ) → Steps R ps 0 → reach R ps 0 ≡ o → Steps R2 ps 0 × (reach R2 ps 0 ≡ o)

-- The bytes of an entry that count.
abbrev pub item_bytes : Item → ℕ
item_bytes x = x.key_len + x.string_len

-- What the first n places weigh together.
abbrev pub below : ℕ → (ℕ → ℕ) → ℕ
below zero w = 0
below (suc n) w = below n w + w n

-- What stands at the root and at the node of the free places.
abbrev pub root_item : Item
root_item = record { content = Map; conflict = false; key_len = 0; string_len = 0 }

-- Each place is free or holds one entry of the tree; only maps and lists have children; `bytes` counts the bytes of all entries.
pub record Used (f : ℕ) (nodes : List Node) (t s : List ℕ) (bytes : ℕ) : Type 0 where
  pub placing : Placing f nodes t s
  pub some : 0 < f
  pub root : item_at nodes 0 ≡ root_item
  pub base : (up_at nodes 0 ≡ 0) × (lev_at nodes 0 ≡ 0)
  pub last : item_at nodes f ≡ root_item
  pub leaf : (i : ℕ) → branches (item_at nodes i).content ≡ false → row t s i ≡ []
  pub free : (p : ℕ) → p < length (row t s f) → item_at nodes (slice_index (row t s f) p) ≡ no_item
  pub short : (i : ℕ) → ((item_at nodes i).key_len ≤ 64) × ((item_at nodes i).string_len ≤ 256)
  pub parted : (w : ℕ → ℕ) → total w (row t s f) + weight (under t s 17 0) w ≡ below f w
  pub counted : bytes ≡ below f (λ i. item_bytes (item_at nodes i))

-- Only texts have units.
abbrev pub Dry : {U : Type 0} → List Node → (ℕ → List U) → Type 0
Dry nodes u = (i : ℕ) → is_text (item_at nodes i).content ≡ false → u i ≡ []

-- All starts together count the units of all rows.
abbrev pub Spelled : {U : Type 0} → ℕ → List ℕ → List U → Type 0
Spelled f ut us = used ut ≡ below (suc f) (λ i. length (row ut us i))

-- Row c of the units is empty; every other stays.
pub record Cleared {U : Type 0} (c : ℕ) (t : List ℕ) (s : List U) (t2 : List ℕ) (s2 : List U) : Type 0 where
  pub packed : Packed t2 s2
  pub count : used t2 + length (row t s c) ≡ used t
  pub here : row t2 s2 c ≡ []
  pub others : (j : ℕ) → (j ≢ c) → row t2 s2 j ≡ row t s j

-- No place of the free chain from `from` up to `to` is x.
abbrev pub Spared : ℕ → ℕ → ℕ → List ℕ → List ℕ → ℕ → Type 0
Spared f from to t s x = (p : ℕ) → from ≤ p → p < to → x ≢ slice_index (row t s f) p

-- The free places from `from` up to `to` have lost their items and units; every other place stays.
pub record Wiped {U : Type 0} (f from to : ℕ) (nodes nodes2 : List Node) (t s ut ut2 : List ℕ) (us us2 : List U) (bytes : ℕ) : Type 0 where
  pub lawful : Placing f nodes2 t s
  pub packed : Packed ut2 us2
  pub links : (x : ℕ) → (up_at nodes2 x ≡ up_at nodes x) × (lev_at nodes2 x ≡ lev_at nodes x)
  pub gone : (p : ℕ) → from ≤ p → p < to → (item_at nodes2 (slice_index (row t s f) p) ≡ no_item) × (row ut2 us2 (slice_index (row t s f) p) ≡ [])
  pub items_at : (x : ℕ) → Spared f from to t s x → item_at nodes2 x ≡ item_at nodes x
  pub units_stay : (x : ℕ) → Spared f from to t s x → row ut2 us2 x ≡ row ut us x
  pub spelled : Spelled f ut us → Spelled f ut2 us2
  pub counted : bytes ≡ below f (λ i. item_bytes (item_at nodes2 i))

-- What stands at c is changed by h, and so is the entry of every tree that uses the nodes.
pub record Touched {U : Type 0} (h : Datum U → Datum U) (c : ℕ) (nodes nodes2 : List Node) : Type 0 where
  pub lawful : (f bytes : ℕ) (t s : List ℕ) → 0 < c → Under (row t s) 0 c → Used f nodes t s bytes → Used f nodes2 t s bytes
  pub dry : (u : ℕ → List U) → Dry nodes u → Dry nodes2 u
  pub changed : (f bytes : ℕ) (t s keys strings : List ℕ) (u : ℕ → List U) → Used f nodes t s bytes → Changed (row t s) c (relabel h) (held nodes t s keys strings u) (held nodes2 t s keys strings u)

-- An entry with its flag set.
abbrev pub flagged : {U : Type 0} → Datum U → Datum U
flagged x = record { key = x.key; content = x.content; conflict = true; string = x.string; units = x.units }

-- A counter, and an entry, with n added; what is no counter stays.
abbrev pub raised : {U : Type 0} → ℤ → Datum U → Datum U
raised n x = record { key = x.key; content = raised_content n x.content; conflict = x.conflict; string = x.string; units = x.units }

-- An entry with the k units from `at` on replaced.
abbrev pub respelled : {U : Type 0} → ℕ → ℕ → List U → Datum U → Datum U
respelled at k xs x = record { key = x.key; content = x.content; conflict = x.conflict; string = x.string; units = spliced x.units at k xs }

-- An entry whose key alone stays.
abbrev pub refilled : {U : Type 0} → Content → Bool → List ℕ → Datum U → Datum U
refilled content conflict string x = record { key = x.key; content = content; conflict = conflict; string = string; units = [] }

-- The root, with nothing under it.
abbrev pub empty_root : {U : Type 0} → Datum U
empty_root = record { key = []; content = Map; conflict = false; string = []; units = [] }
