-- Edits of trees and of values.
use Rattle.std.proofs.Common.{◌≡◌, ℕ, zero, suc, ◌<◌, Bool, true, List, [], ◌∷◌, map, length, get_or, Ok, Err, Ordering, Less, Equal, Greater, sym, refl, ap, ◌∙◌, arith}
use Rattle.std.specs.Ordering.{ordering_then}
use Rattle.types.specs.declared.error.Refusal.{Refusal}
use Rattle.types.specs.declared.error.Refusal.TheVariants.{ApplyInvalidProp}
use Rattle.meaning.specs.Results.{Answer, on_ok}
use Rattle.meaning.specs.Entries.{Key, compare_keys, by3, Item, scalar, object}
use Rattle.meaning.specs.Patches.{Prop, key, pos}
use Rattle.meaning.specs.Rows.{map_of, list_of, mod_in, mod_at}
use Rattle.meaning.specs.Values.{Value, map_v, list_v, Entries, Cells, entry, entries, cells, entry_list, cell_list, built, row_of}
use Rattle.meaning.specs.Application.{at, through, on_object}
use Rattle.node_chains.specs.Tree.{Tree, Forest, node, none, more, forest, trees, change, update}
use Rattle.node_table.specs.Held.{Datum}
use Rattle.node_table.specs.Values.{item_of, container_of, cell, top, value_of, entries_of, cells_of, is_container, KeyAt, Follows, part_at, Keeps, EditsAgree, RefusalsAgree}
use Rattle.node_chains.specs.declared.node.Content.{Content}
use Rattle.node_chains.specs.declared.node.Content.TheVariants.{Map, List as Sequence, Text, Null, Boolean, Int, Uint, Timestamp, Counter, Str, Bytes}
use Rattle.node_table.proofs.KeyOrder.{numbers_same, keys_same}

pub key_itself : (k : Key) → compare_keys k k ≡ Equal
key_itself [] = refl
key_itself (x ∷ k) = ap (λ o. ordering_then o (compare_keys k k)) (numbers_same x x refl) ∙ key_itself k

-- a key that comes after another is not the same
pub no_key : (j k : Key) → compare_keys j k ≡ Less → compare_keys k j ≡ Equal → ⊥
no_key j k h e =
    let s = keys_same k j e in
    let z : compare_keys k k ≡ Less = ap (λ x. compare_keys x k) s ∙ h in
    let w = key_itself k in
    absurd (let q : ◌≡◌ {A = ℕ} 0 1 = cc in omega arith)

pub other_branch : {X : Type 0} (o : Ordering) (a b : X) → (o ≡ Equal → ⊥) → by3 o a b a ≡ a
other_branch Less a b ne = refl
other_branch Equal a b ne = absurd (ne refl)
other_branch Greater a b ne = refl

module _ {U : Type 0} where
  abbrev pub item_in : Tree (Datum U) → Item (Value U)
  item_in t = item_of (top t).content (top t).conflict (top t).string (value_of t)

  abbrev pub pair_in : Tree (Datum U) → Key × Item (Value U)
  pair_in t = ((top t).key, item_in t)

  -- entries and cells as lists
  list_entry : (k : Key) (i : Item (Value U)) (es : Entries U) → entry_list (entry k i es) ≡ (k, i) ∷ entry_list es
  list_entry k (scalar s f) es = refl
  list_entry k (object v f) es = refl

  pub list_entries : (ts : Forest (Datum U)) → entry_list (entries_of ts) ≡ map pair_in (trees ts)
  list_entries none = refl
  list_entries (more t ts) = list_entry (top t).key (item_in t) (entries_of ts) ∙ ap (λ xs. pair_in t ∷ xs) (list_entries ts)

  list_cell : (i : Item (Value U)) (cs : Cells U) → cell_list (cell i cs) ≡ i ∷ cell_list cs
  list_cell (scalar s f) cs = refl
  list_cell (object v f) cs = refl

  pub list_cells : (ts : Forest (Datum U)) → cell_list (cells_of ts) ≡ map item_in (trees ts)
  list_cells none = refl
  list_cells (more t ts) = list_cell (item_in t) (cells_of ts) ∙ ap (λ xs. item_in t ∷ xs) (list_cells ts)

  pub entries_back : (ts : List (Tree (Datum U))) → entries (map pair_in ts) ≡ entries_of (forest ts)
  entries_back [] = refl
  entries_back (t ∷ ts) = ap (entry (top t).key (item_in t)) (entries_back ts)

  cells_more : (i : Item (Value U)) (xs : List (Item (Value U))) → cells (i ∷ xs) ≡ cell i (cells xs)
  cells_more (scalar s f) xs = refl
  cells_more (object v f) xs = refl

  pub cells_back : (ts : List (Tree (Datum U))) → cells (map item_in ts) ≡ cells_of (forest ts)
  cells_back [] = refl
  cells_back (t ∷ ts) = cells_more (item_in t) (map item_in ts) ∙ ap (cell (item_in t)) (cells_back ts)

  -- the entry of a key replaced
  pub mod_in_lem : (r : Refusal) (g : Item (Value U) → Answer (Item (Value U))) (d : Datum U) (k : Key) (w : Tree (Datum U) → Tree (Datum U)) (ts : List (Tree (Datum U))) (p : ℕ) → KeyAt d k p ts
      → (top (w (get_or ts p (node d none)))).key ≡ (top (get_or ts p (node d none))).key → g (item_in (get_or ts p (node d none))) ≡ Ok (item_in (w (get_or ts p (node d none)))) → mod_in r k g (map pair_in ts) ≡ Ok (map pair_in (change ts p w))
  mod_in_lem r g d k w [] p K e h = absurd (omega (arith, K.inside))
  mod_in_lem r g d k w (t ∷ ts) zero K e h =
      let s = K.same in
      let c : compare_keys k (top t).key ≡ Equal = ap (compare_keys k) s ∙ key_itself k in
      ap (λ o. by3 o (on_ok (λ ys. pair_in t ∷ ys) (mod_in r k g (map pair_in ts))) (on_ok (λ y. ((top t).key, y) ∷ map pair_in ts) (g (item_in t))) (on_ok (λ ys. pair_in t ∷ ys) (mod_in r k g (map pair_in ts)))) c
      ∙ ap (on_ok (λ y. ((top t).key, y) ∷ map pair_in ts)) h
      ∙ ap {B = Answer (List (Key × Item (Value U)))} (λ x. Ok ((x, item_in (w t)) ∷ map pair_in ts)) (sym e)
  mod_in_lem r g d k w (t ∷ ts) (suc p) K e h =
      let ih = mod_in_lem r g d k w ts p (record { inside = omega (arith, K.inside); same = K.same; above = λ q l. K.above (suc q) (omega arith) }) e h in
      let l : compare_keys (top t).key k ≡ Less = K.above zero (omega arith) in
      other_branch (compare_keys k (top t).key) (on_ok (λ ys. pair_in t ∷ ys) (mod_in r k g (map pair_in ts))) (on_ok (λ y. ((top t).key, y) ∷ map pair_in ts) (g (item_in t))) (no_key (top t).key k l)
      ∙ ap (on_ok (λ ys. pair_in t ∷ ys)) ih

  pub mod_in_no : (r : Refusal) (g : Item (Value U) → Answer (Item (Value U))) (d : Datum U) (k : Key) (z : Refusal) (ts : List (Tree (Datum U))) (p : ℕ) → KeyAt d k p ts
      → g (item_in (get_or ts p (node d none))) ≡ Err z → mod_in r k g (map pair_in ts) ≡ Err z
  mod_in_no r g d k z [] p K h = absurd (omega (arith, K.inside))
  mod_in_no r g d k z (t ∷ ts) zero K h =
      let s = K.same in
      let c : compare_keys k (top t).key ≡ Equal = ap (compare_keys k) s ∙ key_itself k in
      ap (λ o. by3 o (on_ok (λ ys. pair_in t ∷ ys) (mod_in r k g (map pair_in ts))) (on_ok (λ y. ((top t).key, y) ∷ map pair_in ts) (g (item_in t))) (on_ok (λ ys. pair_in t ∷ ys) (mod_in r k g (map pair_in ts)))) c
      ∙ ap (on_ok (λ y. ((top t).key, y) ∷ map pair_in ts)) h
  mod_in_no r g d k z (t ∷ ts) (suc p) K h =
      let ih = mod_in_no r g d k z ts p (record { inside = omega (arith, K.inside); same = K.same; above = λ q l. K.above (suc q) (omega arith) }) h in
      let l : compare_keys (top t).key k ≡ Less = K.above zero (omega arith) in
      other_branch (compare_keys k (top t).key) (on_ok (λ ys. pair_in t ∷ ys) (mod_in r k g (map pair_in ts))) (on_ok (λ y. ((top t).key, y) ∷ map pair_in ts) (g (item_in t))) (no_key (top t).key k l)
      ∙ ap (on_ok (λ ys. pair_in t ∷ ys)) ih

  -- the element at a position replaced
  pub mod_at_lem : (r : Refusal) (g : Item (Value U) → Answer (Item (Value U))) (d : Tree (Datum U)) (w : Tree (Datum U) → Tree (Datum U)) (ts : List (Tree (Datum U))) (p : ℕ) → p < length ts
      → g (item_in (get_or ts p d)) ≡ Ok (item_in (w (get_or ts p d))) → mod_at r p g (map item_in ts) ≡ Ok (map item_in (change ts p w))
  mod_at_lem r g d w [] p l h = absurd (omega arith)
  mod_at_lem r g d w (t ∷ ts) zero l h = ap (on_ok (λ y. y ∷ map item_in ts)) h
  mod_at_lem r g d w (t ∷ ts) (suc p) l h = ap (on_ok (λ ys. item_in t ∷ ys)) (mod_at_lem r g d w ts p (omega arith) h)

  pub mod_at_no : (r : Refusal) (g : Item (Value U) → Answer (Item (Value U))) (d : Tree (Datum U)) (z : Refusal) (ts : List (Tree (Datum U))) (p : ℕ) → p < length ts
      → g (item_in (get_or ts p d)) ≡ Err z → mod_at r p g (map item_in ts) ≡ Err z
  mod_at_no r g d z [] p l h = absurd (omega arith)
  mod_at_no r g d z (t ∷ ts) zero l h = ap (on_ok (λ y. y ∷ map item_in ts)) h
  mod_at_no r g d z (t ∷ ts) (suc p) l h = ap (on_ok (λ ys. item_in t ∷ ys)) (mod_at_no r g d z ts p (omega arith) h)

  -- a container is an object
  object_of : (c : Content) (f : Bool) (s : List ℕ) (v : Value U) → is_container c ≡ true → item_of c f s v ≡ object v f
  object_of Map f s v h = refl
  object_of Sequence f s v h = refl
  object_of Text f s v h = refl
  object_of Null f s v h = absurd (let z : ◌≡◌ {A = ℕ} 0 1 = cc in omega arith)
  object_of (Boolean b) f s v h = absurd (let z : ◌≡◌ {A = ℕ} 0 1 = cc in omega arith)
  object_of (Int n) f s v h = absurd (let z : ◌≡◌ {A = ℕ} 0 1 = cc in omega arith)
  object_of (Uint n) f s v h = absurd (let z : ◌≡◌ {A = ℕ} 0 1 = cc in omega arith)
  object_of (Timestamp n) f s v h = absurd (let z : ◌≡◌ {A = ℕ} 0 1 = cc in omega arith)
  object_of (Counter n) f s v h = absurd (let z : ◌≡◌ {A = ℕ} 0 1 = cc in omega arith)
  object_of Str f s v h = absurd (let z : ◌≡◌ {A = ℕ} 0 1 = cc in omega arith)
  object_of Bytes f s v h = absurd (let z : ◌≡◌ {A = ℕ} 0 1 = cc in omega arith)

  -- the container that a path begins at
  follows_container : (path : List Prop) (ps : List ℕ) (t : Tree (Datum U)) → Follows path ps t → is_container (top t).content ≡ true
  follows_container [] [] t h = h
  follows_container [] (p ∷ ps) t h = absurd h
  follows_container (s ∷ path) [] t h = absurd h
  follows_container (key k ∷ path) (p ∷ ps) (node x ts) h = ap is_container h.0
  follows_container (pos i ∷ path) (p ∷ ps) (node x ts) h = ap is_container h.0

  -- an edit below keeps what stands at the root
  pub keeps_update : (ps : List ℕ) (u : Tree (Datum U) → Tree (Datum U)) (t : Tree (Datum U)) → Keeps u (part_at ps t) → Keeps (update ps u) t
  keeps_update [] u t K = K
  keeps_update (p ∷ ps) u (node x ts) K = record { key = refl; content = refl; conflict = refl }

  -- one step of a path
  steps : (path : List Prop) (f : Value U → Answer (Value U)) (w : Tree (Datum U) → Tree (Datum U)) (c : Tree (Datum U)) → is_container (top c).content ≡ true → Keeps w c
      → at path f (value_of c) ≡ Ok (value_of (w c)) → on_object (at path f) (item_in c) ≡ Ok (item_in (w c))
  steps path f w c h K e =
      ap (on_object (at path f)) (object_of (top c).content (top c).conflict (top c).string (value_of c) h)
      ∙ ap (on_ok (λ y. object y (top c).conflict)) e
      ∙ ap {B = Answer (Item (Value U))} (λ b. Ok (object (value_of (w c)) b)) (sym K.conflict)
      ∙ ap {B = Answer (Item (Value U))} (λ i. Ok i) (sym (object_of (top (w c)).content (top (w c)).conflict (top (w c)).string (value_of (w c)) (ap is_container K.content ∙ h)))

  steps_no : (path : List Prop) (f : Value U → Answer (Value U)) (z : Refusal) (c : Tree (Datum U)) → is_container (top c).content ≡ true → at path f (value_of c) ≡ Err z → on_object (at path f) (item_in c) ≡ Err z
  steps_no path f z c h e =
      ap (on_object (at path f)) (object_of (top c).content (top c).conflict (top c).string (value_of c) h) ∙ ap (on_ok (λ y. object y (top c).conflict)) e

  pub edits : EditsAgree U
  edits [] [] t f u h K e = e
  edits [] (p ∷ ps) t f u h K e = absurd h
  edits (s ∷ path) [] t f u h K e = absurd h
  edits (key k ∷ path) (p ∷ ps) (node x ts) f u h K e =
      let c = get_or (trees ts) p (node x none) in
      let KK = keeps_update ps u c K in
      let st = steps path f (update ps u) c (follows_container path ps c h.2) KK (edits path ps c f u h.2 K e) in
      let m = mod_in_lem ApplyInvalidProp (on_object (at path f)) x k (update ps u) (trees ts) p h.1 KK.key st in
      ap (λ v. on_ok built (through (key k) (at path f) (row_of v))) (ap (λ q. container_of q x.units (entries_of ts) (cells_of ts)) h.0)
      ∙ ap (λ xs. on_ok built (on_ok map_of (mod_in ApplyInvalidProp k (on_object (at path f)) xs))) (list_entries ts)
      ∙ ap (λ a. on_ok built (on_ok map_of a)) m
      ∙ ap {B = Answer (Value U)} (λ es. Ok (map_v es)) (entries_back (change (trees ts) p (update ps u)))
      ∙ ap {B = Answer (Value U)} (λ q. Ok (container_of q x.units (entries_of (forest (change (trees ts) p (update ps u)))) (cells_of (forest (change (trees ts) p (update ps u)))))) (sym h.0)
  edits (pos i ∷ path) (p ∷ ps) (node x ts) f u h K e =
      let c = get_or (trees ts) p (node x none) in
      let KK = keeps_update ps u c K in
      let st = steps path f (update ps u) c (follows_container path ps c h.2) KK (edits path ps c f u h.2 K e) in
      let m = mod_at_lem ApplyInvalidProp (on_object (at path f)) (node x none) (update ps u) (trees ts) p h.1.1 st in
      ap (λ v. on_ok built (through (pos i) (at path f) (row_of v))) (ap (λ q. container_of q x.units (entries_of ts) (cells_of ts)) h.0)
      ∙ ap (λ xs. on_ok built (on_ok list_of (mod_at ApplyInvalidProp i (on_object (at path f)) xs))) (list_cells ts)
      ∙ ap (λ j. on_ok built (on_ok list_of (mod_at ApplyInvalidProp j (on_object (at path f)) (map item_in (trees ts))))) h.1.0
      ∙ ap (λ a. on_ok built (on_ok list_of a)) m
      ∙ ap {B = Answer (Value U)} (λ cs. Ok (list_v cs)) (cells_back (change (trees ts) p (update ps u)))
      ∙ ap {B = Answer (Value U)} (λ q. Ok (container_of q x.units (entries_of (forest (change (trees ts) p (update ps u)))) (cells_of (forest (change (trees ts) p (update ps u)))))) (sym h.0)

  pub refusals : RefusalsAgree U
  refusals [] [] t f z h e = e
  refusals [] (p ∷ ps) t f z h e = absurd h
  refusals (s ∷ path) [] t f z h e = absurd h
  refusals (key k ∷ path) (p ∷ ps) (node x ts) f z h e =
      let c = get_or (trees ts) p (node x none) in
      let st = steps_no path f z c (follows_container path ps c h.2) (refusals path ps c f z h.2 e) in
      let m = mod_in_no ApplyInvalidProp (on_object (at path f)) x k z (trees ts) p h.1 st in
      ap (λ v. on_ok built (through (key k) (at path f) (row_of v))) (ap (λ q. container_of q x.units (entries_of ts) (cells_of ts)) h.0)
      ∙ ap (λ xs. on_ok built (on_ok map_of (mod_in ApplyInvalidProp k (on_object (at path f)) xs))) (list_entries ts)
      ∙ ap (λ a. on_ok built (on_ok map_of a)) m
  refusals (pos i ∷ path) (p ∷ ps) (node x ts) f z h e =
      let c = get_or (trees ts) p (node x none) in
      let st = steps_no path f z c (follows_container path ps c h.2) (refusals path ps c f z h.2 e) in
      let m = mod_at_no ApplyInvalidProp (on_object (at path f)) (node x none) z (trees ts) p h.1.1 st in
      ap (λ v. on_ok built (through (pos i) (at path f) (row_of v))) (ap (λ q. container_of q x.units (entries_of ts) (cells_of ts)) h.0)
      ∙ ap (λ xs. on_ok built (on_ok list_of (mod_at ApplyInvalidProp i (on_object (at path f)) xs))) (list_cells ts)
      ∙ ap (λ j. on_ok built (on_ok list_of (mod_at ApplyInvalidProp j (on_object (at path f)) (map item_in (trees ts))))) h.1.0
      ∙ ap (λ a. on_ok built (on_ok list_of a)) m
