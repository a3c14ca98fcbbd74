-- Laws of changes of trees: one change after another, what stays proper, what is counted.
use Rattle.std.specs.Prelude.{◌≡◌, ℕ, ◌+◌, ◌≤◌, true, List, [], ◌∷◌, ◌++◌, map, length, take, drop, ℤ}
use Rattle.std.specs.Coded.{Coded}
use Rattle.meaning.specs.Entries.{Key, Entry}
use Rattle.meaning.specs.Patches.{Prop}
use Rattle.meaning.specs.Values.{counts}
use Rattle.node_chains.specs.Tree.{Tree, Forest, node, forest, trees, update, splice_kids, relabel, weight, weights}
use Rattle.node_chains.specs.declared.node.Content.TheVariants.{Map, List as Sequence, Text}
use Rattle.node_chains.proofs.Weights.{part, Leads}
use Rattle.node_table.specs.Kinds.{branches}
use Rattle.node_table.specs.Held.{Datum, flagged, raised, respelled, refilled}
use Rattle.node_table.specs.Values.{top, value_of, is_container, Follows, part_at, Keeps}
use Rattle.node_table.specs.Counts.{units_in, bytes_in, Tidy}
use Rattle.value_tree.specs.Entries.{content_in, string_in, placed_tree, put_over, KeyGone}
use Rattle.value_tree.specs.Proper.{Proper}

-- One change after another, at a path, among the children and among the units.
pub record UpdateLaws (U : Type 0) : Type 0 where
  -- The part at a path by either name; a path of keys and positions leads as its positions do, and is as long.
  pub part_is : (ps : List ℕ) (t : Tree (Datum U)) → part ps t ≡ part_at ps t
  pub follows_leads : (path : List Prop) (ps : List ℕ) (t : Tree (Datum U)) → Follows path ps t → Leads ps t
  pub follows_length : (path : List Prop) (ps : List ℕ) (t : Tree (Datum U)) → Follows path ps t → length ps ≡ length path
  -- Two changes at one path are one; the part there is the changed part, and the path still leads to it.
  pub update_then : (ps : List ℕ) (g h : Tree (Datum U) → Tree (Datum U)) (t : Tree (Datum U)) → update ps h (update ps g t) ≡ update ps (λ x. h (g x)) t
  pub leads_update : (ps : List ℕ) (g : Tree (Datum U) → Tree (Datum U)) (t : Tree (Datum U)) → Leads ps t → Leads ps (update ps g t)
  pub part_update : (ps : List ℕ) (g : Tree (Datum U) → Tree (Datum U)) (t : Tree (Datum U)) → Leads ps t → part ps (update ps g t) ≡ g (part ps t)
  -- A change of a child is one of its parent.
  pub update_child : (ps : List ℕ) (p : ℕ) (g : Tree (Datum U) → Tree (Datum U)) (t : Tree (Datum U)) → update (ps ++ (p ∷ [])) g t ≡ update ps (update (p ∷ []) g) t
  -- Children put in and taken out one by one.
  pub kids_insert : (x : Datum U) (ts : Forest (Datum U)) (i : ℕ) (xs : List (Tree (Datum U))) (y : Tree (Datum U)) → i ≤ length (trees ts)
      → splice_kids (i + length xs) 0 (y ∷ []) (splice_kids i 0 xs (node x ts)) ≡ splice_kids i 0 (xs ++ (y ∷ [])) (node x ts)
  pub kids_delete : (x : Datum U) (ts : Forest (Datum U)) (i n : ℕ) → i + (n + 1) ≤ length (trees ts) → splice_kids i 1 [] (splice_kids i n [] (node x ts)) ≡ splice_kids i (n + 1) [] (node x ts)
  pub kids_none : (x : Datum U) (ts : Forest (Datum U)) (i : ℕ) → splice_kids i 0 [] (node x ts) ≡ node x ts
  -- Two changes of an entry are one; units put in after others, in the place of one, or none at all.
  pub relabel_then : (g h : Datum U → Datum U) (t : Tree (Datum U)) → relabel h (relabel g t) ≡ relabel (λ x. h (g x)) t
  pub respelled_more : (d : Datum U) (i : ℕ) (xs ys : List U) → i ≤ length d.units → respelled (i + length xs) 0 ys (respelled i 0 xs d) ≡ respelled i 0 (xs ++ ys) d
  pub respelled_put : (d : Datum U) (i : ℕ) (ys : List U) → i + 1 ≤ length d.units → respelled i 0 ys (respelled i 1 [] d) ≡ respelled i 1 ys d
  pub respelled_none : (d : Datum U) (i : ℕ) → respelled i 0 [] d ≡ d

-- What keeps a tree proper.
pub record ProperLaws (U : Type 0) : Type 0 where
  -- There is one proof of it at most, where two units can be told apart.
  pub proper_prop : Coded U → (t : Tree (Datum U)) → IsProp (Proper t)
  -- A proper tree is tidy, and each part of it is proper; a change at a path that keeps the key there keeps the tree proper.
  pub proper_tidy : (t : Tree (Datum U)) → Proper t → Tidy t
  pub proper_part : (ps : List ℕ) (t : Tree (Datum U)) → Proper t → Leads ps t → Proper (part ps t)
  pub proper_update : (ps : List ℕ) (g : Tree (Datum U) → Tree (Datum U)) (t : Tree (Datum U)) → Proper t → Leads ps t → (top (g (part ps t))).key ≡ (top (part ps t)).key → Proper (g (part ps t)) → Proper (update ps g t)
  -- A placed entry, alone or over another.
  pub placed_proper : (k : Key) (e : Entry) → Proper (placed_tree {U = U} k e)
  pub over_proper : (e : Entry) (t : Tree (Datum U)) → Proper (put_over e t)
  -- Children put in by key and by position, and taken out.
  pub insert_map : (x : Datum U) (ts : Forest (Datum U)) (k : Key) (p : ℕ) (e : Entry) → x.content ≡ Map → Proper (node x ts) → KeyGone x k p (trees ts) → Proper (splice_kids p 0 (placed_tree k e ∷ []) (node x ts))
  pub insert_list : (x : Datum U) (ts : Forest (Datum U)) (i : ℕ) (es : List Entry) → x.content ≡ Sequence → Proper (node x ts) → Proper (splice_kids i 0 (map (placed_tree []) es) (node x ts))
  pub delete_kids : (x : Datum U) (ts : Forest (Datum U)) (i n : ℕ) → branches x.content ≡ true → Proper (node x ts) → i + n ≤ length (trees ts) → Proper (splice_kids i n [] (node x ts))
  -- A flag set, a counter raised, units of a text replaced.
  pub flag_proper : (t : Tree (Datum U)) → Proper t → Proper (relabel flagged t)
  pub raise_proper : (n : ℤ) (t : Tree (Datum U)) → Proper t → Proper (relabel (raised n) t)
  pub respell_proper : (x : Datum U) (ts : Forest (Datum U)) (i k : ℕ) (ys : List U) → x.content ≡ Text → Proper (node x ts) → Proper (relabel (respelled i k ys) (node x ts))

-- What the value of a tree counts: every node but the root, all units, and all bytes but those of the root's key.
pub record Counted {U : Type 0} (t : Tree (Datum U)) : Type 0 where
  pub entries : (counts (value_of t)).entry_count + 1 ≡ weight t (λ _. 1)
  pub units : (counts (value_of t)).unit_count ≡ weight t units_in
  pub bytes : (counts (value_of t)).byte_count + length (top t).key ≡ weight t bytes_in

-- The values of t and t2 count what the parts old and new of them weigh, and beside it the same.
pub record Recounted {U : Type 0} (t t2 old new : Tree (Datum U)) : Type 0 where
  pub entries : (counts (value_of t2)).entry_count + weight old (λ _. 1) ≡ (counts (value_of t)).entry_count + weight new (λ _. 1)
  pub units : (counts (value_of t2)).unit_count + weight old units_in ≡ (counts (value_of t)).unit_count + weight new units_in
  pub bytes : (counts (value_of t2)).byte_count + weight old bytes_in ≡ (counts (value_of t)).byte_count + weight new bytes_in

-- What changed trees weigh and count.
pub record WeightLaws (U : Type 0) : Type 0 where
  -- Children replaced, an entry changed, an entry put over another.
  pub weight_kids : (w : Datum U → ℕ) (x : Datum U) (ts : Forest (Datum U)) (i n : ℕ) (new : List (Tree (Datum U)))
      → weight (splice_kids i n new (node x ts)) w + weights (forest (take n (drop i (trees ts)))) w ≡ weight (node x ts) w + weights (forest new) w
  pub weight_relabel : (w : Datum U → ℕ) (h : Datum U → Datum U) (x : Datum U) (ts : Forest (Datum U)) → weight (relabel h (node x ts)) w + w x ≡ weight (node x ts) w + w (h x)
  pub weight_over : (w : Datum U → ℕ) (e : Entry) (x : Datum U) (ts : Forest (Datum U)) → weight (put_over e (node x ts)) w ≡ w (refilled (content_in e.content) e.flag (string_in e.content) x)
  -- The counts of a value, and of one that is changed at a path.
  pub counts_is : (t : Tree (Datum U)) → Proper t → is_container (top t).content ≡ true → Counted t
  pub counts_update : (ps : List ℕ) (g : Tree (Datum U) → Tree (Datum U)) (t : Tree (Datum U))
      → Proper t → Proper (update ps g t) → is_container (top t).content ≡ true → Leads ps t → Keeps g (part ps t) → Recounted t (update ps g t) (part ps t) (g (part ps t))
