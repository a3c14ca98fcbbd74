-- What trees, values and tables count.
use Rattle.std.proofs.Common.{◌≡◌, ℕ, zero, suc, ◌+◌, ◌*◌, ◌<◌, ◌≤◌, Bool, true, false, List, [], ◌∷◌, map, length, get_or, sym, refl, ap, ◌∙◌, arith, length-drop, length-take}
use Rattle.packed_rows.specs.Rows.{row}
use Rattle.meaning.specs.Entries.{Key, Item, scalar, object, bytes_of_scalar}
use Rattle.meaning.specs.Values.{Value, Entries, Cells, entry, Counts, plus, one_entry, counts, entries_counts, cells_counts}
use Rattle.node_chains.specs.Tree.{Tree, Forest, node, none, more, forest, tree, weight, weights, total}
use Rattle.node_chains.specs.Chains.{item_at}
use Rattle.node_chains.specs.declared.node.Content.{Content}
use Rattle.node_chains.specs.declared.node.Content.TheVariants.{Map, List as Sequence, Text, Null, Boolean, Int, Uint, Timestamp, Counter, Str, Bytes}
use Rattle.node_chains.specs.declared.node.Item.{Item as NodeItem}
use Rattle.node_chains.specs.declared.node.Node.{Node}
use Rattle.node_table.specs.Kinds.{branches, is_text, is_list, has_string}
use Rattle.node_table.specs.Held.{Datum, slot, datum, held, Used, Dry, below, item_bytes}
use Rattle.node_table.specs.Values.{item_of, container_of, cell, top, value_as, entries_as, cells_as, is_container}
use Rattle.node_table.specs.Counts.{units_in, bytes_in, Keyless, TidyAs, AllTidy, CountsAgree, CountsKept, UnitsKept}
use Rattle.node_table.proofs.Sums.{below_same}
use Rattle.node_table.proofs.Removes.{total_ones}

-- three counts at once
pub same_counts : (a b c a2 b2 c2 : ℕ) → a ≡ a2 → b ≡ b2 → c ≡ c2 → ◌≡◌ {A = Counts} (record { entry_count = a; unit_count = b; byte_count = c }) (record { entry_count = a2; unit_count = b2; byte_count = c2 })
same_counts a b c a2 b2 c2 p q r = cc

-- what a forest counts for
abbrev tally : {D U : Type 0} → Forest D → (D → Datum U) → Counts
tally ts g = record { entry_count = weights ts (λ _. 1); unit_count = weights ts (λ x. units_in (g x)); byte_count = weights ts (λ x. bytes_in (g x)) }

-- and a tree as an entry
abbrev one : {D U : Type 0} → Tree D → (D → Datum U) → Counts
one t g = record { entry_count = weight t (λ _. 1); unit_count = weight t (λ x. units_in (g x)); byte_count = weight t (λ x. bytes_in (g x)) }

-- the children of a tree
abbrev inner : {D : Type 0} → Tree D → Forest D
inner (node x ts) = ts

-- an item with a key of n bytes
abbrev item_counts : {U : Type 0} → ℕ → Item (Value U) → Counts
item_counts n (scalar s f) = one_entry (n + bytes_of_scalar s)
item_counts n (object v f) = plus (one_entry n) (counts v)

entry_counts : {U : Type 0} (k : Key) (i : Item (Value U)) (es : Entries U) → entries_counts (entry k i es) ≡ plus (item_counts (length k) i) (entries_counts es)
entry_counts k (scalar s f) es = refl
entry_counts k (object v f) es = same_counts _ _ _ _ _ _ (omega arith) (omega arith) (omega arith)

cell_counts : {U : Type 0} (i : Item (Value U)) (cs : Cells U) → cells_counts (cell i cs) ≡ plus (item_counts 0 i) (cells_counts cs)
cell_counts (scalar s f) cs = same_counts _ _ _ _ _ _ refl refl (omega arith)
cell_counts (object v f) cs = same_counts _ _ _ _ _ _ (omega arith) (omega arith) (omega arith)

-- an item by its content
item_by : {U : Type 0} (c : Content) (f : Bool) (s : List ℕ) (v : Value U) (n e u us b : ℕ) → (is_container c ≡ true → counts v ≡ record { entry_count = e; unit_count = u + us; byte_count = b })
    → (branches c ≡ false → (e ≡ 0) × (us ≡ 0) × (b ≡ 0)) → (is_text c ≡ false → u ≡ 0) → (has_string c ≡ false → length s ≡ 0)
    → item_counts n (item_of c f s v) ≡ record { entry_count = 1 + e; unit_count = u + us; byte_count = n + length s + b }
item_by Map f s v n e u us b cv br tx st = let z = st refl in ap (plus (one_entry n)) (cv refl) ∙ same_counts _ _ _ _ _ _ refl (omega arith) (omega arith)
item_by Sequence f s v n e u us b cv br tx st = let z = st refl in ap (plus (one_entry n)) (cv refl) ∙ same_counts _ _ _ _ _ _ refl (omega arith) (omega arith)
item_by Text f s v n e u us b cv br tx st = let z = st refl in ap (plus (one_entry n)) (cv refl) ∙ same_counts _ _ _ _ _ _ refl (omega arith) (omega arith)
item_by Null f s v n e u us b cv br tx st = let z = st refl in let y = br refl in let w = tx refl in same_counts _ _ _ _ _ _ (omega (arith, y.0)) (omega (arith, y.1)) (omega (arith, y.2))
item_by (Boolean x) f s v n e u us b cv br tx st = let z = st refl in let y = br refl in let w = tx refl in same_counts _ _ _ _ _ _ (omega (arith, y.0)) (omega (arith, y.1)) (omega (arith, y.2))
item_by (Int x) f s v n e u us b cv br tx st = let z = st refl in let y = br refl in let w = tx refl in same_counts _ _ _ _ _ _ (omega (arith, y.0)) (omega (arith, y.1)) (omega (arith, y.2))
item_by (Uint x) f s v n e u us b cv br tx st = let z = st refl in let y = br refl in let w = tx refl in same_counts _ _ _ _ _ _ (omega (arith, y.0)) (omega (arith, y.1)) (omega (arith, y.2))
item_by (Timestamp x) f s v n e u us b cv br tx st = let z = st refl in let y = br refl in let w = tx refl in same_counts _ _ _ _ _ _ (omega (arith, y.0)) (omega (arith, y.1)) (omega (arith, y.2))
item_by (Counter x) f s v n e u us b cv br tx st = let z = st refl in let y = br refl in let w = tx refl in same_counts _ _ _ _ _ _ (omega (arith, y.0)) (omega (arith, y.1)) (omega (arith, y.2))
item_by Str f s v n e u us b cv br tx st = let y = br refl in let w = tx refl in same_counts _ _ _ _ _ _ (omega (arith, y.0)) (omega (arith, y.1)) (omega (arith, y.2))
item_by Bytes f s v n e u us b cv br tx st = let y = br refl in let w = tx refl in same_counts _ _ _ _ _ _ (omega (arith, y.0)) (omega (arith, y.1)) (omega (arith, y.2))

-- a container by its content
container_by : {U : Type 0} (c : Content) (us : List U) (es : Entries U) (cs : Cells U) (a u b : ℕ) → is_container c ≡ true → (branches c ≡ false → (a ≡ 0) × (u ≡ 0) × (b ≡ 0)) → (is_text c ≡ false → length us ≡ 0)
    → entries_counts es ≡ record { entry_count = a; unit_count = u; byte_count = b } → (is_list c ≡ true → cells_counts cs ≡ record { entry_count = a; unit_count = u; byte_count = b })
    → counts (container_of c us es cs) ≡ record { entry_count = a; unit_count = length us + u; byte_count = b }
container_by Map us es cs a u b h br tx E C = let z = tx refl in E ∙ same_counts _ _ _ _ _ _ refl (omega arith) refl
container_by Sequence us es cs a u b h br tx E C = let z = tx refl in C refl ∙ same_counts _ _ _ _ _ _ refl (omega arith) refl
container_by Text us es cs a u b h br tx E C = let y = br refl in same_counts _ _ _ _ _ _ (omega (arith, y.0)) (omega (arith, y.1)) (omega (arith, y.2))
container_by Null us es cs a u b h br tx E C = absurd (let z : ◌≡◌ {A = ℕ} 0 1 = cc in omega arith)
container_by (Boolean x) us es cs a u b h br tx E C = absurd (let z : ◌≡◌ {A = ℕ} 0 1 = cc in omega arith)
container_by (Int x) us es cs a u b h br tx E C = absurd (let z : ◌≡◌ {A = ℕ} 0 1 = cc in omega arith)
container_by (Uint x) us es cs a u b h br tx E C = absurd (let z : ◌≡◌ {A = ℕ} 0 1 = cc in omega arith)
container_by (Timestamp x) us es cs a u b h br tx E C = absurd (let z : ◌≡◌ {A = ℕ} 0 1 = cc in omega arith)
container_by (Counter x) us es cs a u b h br tx E C = absurd (let z : ◌≡◌ {A = ℕ} 0 1 = cc in omega arith)
container_by Str us es cs a u b h br tx E C = absurd (let z : ◌≡◌ {A = ℕ} 0 1 = cc in omega arith)
container_by Bytes us es cs a u b h br tx E C = absurd (let z : ◌≡◌ {A = ℕ} 0 1 = cc in omega arith)

bare_weights : {D : Type 0} (ts : Forest D) (w : D → ℕ) → ts ≡ none → weights ts w ≡ 0
bare_weights ts w e = ap (λ us. weights us w) e

item_of_lem : {D U : Type 0} (t : Tree D) (g : D → Datum U) → TidyAs t g
    → (is_container (g (top t)).content ≡ true → counts (value_as t g) ≡ record { entry_count = weights (inner t) (λ _. 1); unit_count = weight t (λ x. units_in (g x)); byte_count = weights (inner t) (λ x. bytes_in (g x)) })
    → item_counts (length (g (top t)).key) (item_of (g (top t)).content (g (top t)).conflict (g (top t)).string (value_as t g)) ≡ one t g
item_of_lem (node x ts) g h cv =
    item_by (g x).content (g x).conflict (g x).string (value_as (node x ts) g) (length (g x).key) (weights ts (λ _. 1)) (length (g x).units) (weights ts (λ y. units_in (g y))) (weights ts (λ y. bytes_in (g y))) cv
    (λ b. let e = h.1 b in (bare_weights ts (λ _. 1) e, bare_weights ts (λ y. units_in (g y)) e, bare_weights ts (λ y. bytes_in (g y)) e))
    (λ b. ap length (h.0.units b)) (λ b. ap length (h.0.string b))

mutual
  count_tree : {D U : Type 0} (t : Tree D) (g : D → Datum U) → TidyAs t g → is_container (g (top t)).content ≡ true
      → counts (value_as t g) ≡ record { entry_count = weights (inner t) (λ _. 1); unit_count = weight t (λ x. units_in (g x)); byte_count = weights (inner t) (λ x. bytes_in (g x)) }
  count_tree (node x ts) g h c =
      container_by (g x).content (g x).units (entries_as ts g) (cells_as ts g) (weights ts (λ _. 1)) (weights ts (λ y. units_in (g y))) (weights ts (λ y. bytes_in (g y))) c
      (λ b. let e = h.1 b in (bare_weights ts (λ _. 1) e, bare_weights ts (λ y. units_in (g y)) e, bare_weights ts (λ y. bytes_in (g y)) e))
      (λ b. ap length (h.0.units b)) (count_entries ts g h.3) (λ l. count_cells ts g h.3 (h.2 l))

  count_entries : {D U : Type 0} (ts : Forest D) (g : D → Datum U) → AllTidy ts g → entries_counts (entries_as ts g) ≡ tally ts g
  count_entries none g h = refl
  count_entries (more t ts) g h =
      entry_counts (g (top t)).key (item_of (g (top t)).content (g (top t)).conflict (g (top t)).string (value_as t g)) (entries_as ts g)
      ∙ ap (λ c. plus c (entries_counts (entries_as ts g))) (item_of_lem t g h.0 (count_tree t g h.0))
      ∙ ap (plus (one t g)) (count_entries ts g h.1)

  count_cells : {D U : Type 0} (ts : Forest D) (g : D → Datum U) → AllTidy ts g → Keyless ts g → cells_counts (cells_as ts g) ≡ tally ts g
  count_cells none g h k = refl
  count_cells (more t ts) g h k =
      cell_counts (item_of (g (top t)).content (g (top t)).conflict (g (top t)).string (value_as t g)) (cells_as ts g)
      ∙ ap (λ n. plus (item_counts n (item_of (g (top t)).content (g (top t)).conflict (g (top t)).string (value_as t g))) (cells_counts (cells_as ts g))) (sym (ap length k.0))
      ∙ ap (λ c. plus c (cells_counts (cells_as ts g))) (item_of_lem t g h.0 (count_tree t g h.0))
      ∙ ap (plus (one t g)) (count_cells ts g h.1 k.1)

pub count_root : {U : Type 0} → CountsAgree U
count_root x ts c h = count_tree (node x ts) (λ y. y) h c

-- a tree of data weighs what its places do
weights_of : {D : Type 0} (T : ℕ → Tree D) (P : ℕ → Tree ℕ) (w : D → ℕ) (v : ℕ → ℕ) → ((x : ℕ) → weight (T x) w ≡ weight (P x) v) → (xs : List ℕ) → weights (forest (map T xs)) w ≡ weights (forest (map P xs)) v
weights_of T P w v h [] = refl
weights_of T P w v h (x ∷ xs) = let a = h x in let b = weights_of T P w v h xs in omega arith

weight_of : {D : Type 0} (g : ℕ → D) (R : ℕ → List ℕ) (w : D → ℕ) (d i : ℕ) → weight (tree g R d i) w ≡ weight (tree (λ x. x) R d i) (λ x. w (g x))
weight_of g R w zero i = refl
weight_of g R w (suc d) i = ap (λ n. w (g i) + n) (weights_of (tree g R d) (tree (λ x. x) R d) w (λ x. w (g x)) (weight_of g R w d) (R i))

total_zero : (w : ℕ → ℕ) (xs : List ℕ) → ((p : ℕ) → p < length xs → w (get_or xs p 0) ≡ 0) → total w xs ≡ 0
total_zero w [] h = refl
total_zero w (x ∷ xs) h = let a : w x ≡ 0 = h zero (omega arith) in let b = total_zero w xs (λ p l. h (suc p) (omega arith)) in omega arith

below_ones : (f : ℕ) → below f (λ _. 1) ≡ f
below_ones zero = refl
below_ones (suc f) = let ih = below_ones f in omega arith

slot_length : (w : ℕ) (bytes : List ℕ) (i n : ℕ) → w * i + n ≤ length bytes → length (slot w bytes i n) ≡ n
slot_length w bytes i n h = simp (length-take, length-drop) (omega arith)

units_weigh : {U : Type 0} (f bytes : ℕ) (nodes : List Node) (t s keys strings : List ℕ) (u : ℕ → List U) → Used f nodes t s bytes → Dry nodes u → weight (held nodes t s keys strings u) units_in ≡ below f (λ i. length (u i))
units_weigh f bytes nodes t s keys strings u Us D =
    let a = weight_of (datum nodes keys strings u) (row t s) units_in 17 0 in
    let z = total_zero (λ i. length (u i)) (row t s f) (λ p l. ap length (D (get_or (row t s f) p 0) (ap (λ (y : NodeItem). is_text y.content) (Us.free p l)))) in
    omega (arith, Us.parted (λ i. length (u i)))

pub units_kept : {U : Type 0} → UnitsKept U
units_kept f bytes nodes t s keys strings ut us Us D h =
    let a = units_weigh f bytes nodes t s keys strings (row ut us) Us D in
    let b = ap length (D f (ap (λ (y : NodeItem). is_text y.content) Us.last)) in
    omega arith

pub kept : {U : Type 0} → CountsKept U
kept f bytes nodes t s keys strings u Us D lk ls = record {
  entries =
      let a = weight_of (datum nodes keys strings u) (row t s) (λ _. 1) 17 0 in
      omega (arith, Us.parted (λ _. 1), total_ones (row t s f), below_ones f);
  units = units_weigh f bytes nodes t s keys strings u Us D;
  spelled =
      let a = weight_of (datum nodes keys strings u) (row t s) bytes_in 17 0 in
      let z = total_zero (λ i. bytes_in (datum nodes keys strings u i)) (row t s f)
      (λ p l. let e = Us.free p l in let n = ap (λ (y : NodeItem). y.key_len) e in let m = ap (λ (y : NodeItem). y.string_len) e in let hi = Us.placing.high f p l in
      omega (arith, size (get_or (row t s f) p 0) (omega arith))) in
      let b = below_same f (λ i. item_bytes (item_at nodes i)) (λ i. bytes_in (datum nodes keys strings u i)) (λ x l. size x l) in
      omega (arith, Us.parted (λ i. bytes_in (datum nodes keys strings u i)), Us.counted);
}
  where
    size : (x : ℕ) → x < f → bytes_in (datum nodes keys strings u x) ≡ item_bytes (item_at nodes x)
    size x l =
        let a = slot_length 64 keys x (item_at nodes x).key_len (omega (arith, (Us.short x).0)) in
        let b = slot_length 256 strings x (item_at nodes x).string_len (omega (arith, (Us.short x).1)) in
        omega arith
