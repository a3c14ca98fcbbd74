-- What changed trees weigh and count.
use Rattle.std.proofs.Common.{◌≡◌, ℕ, ◌+◌, true, false, List, ◌++◌, length, take, drop, refl, ap, ◌∙◌, arith}
use Rattle.std.proofs.lemmas.List.{drop-drop}
use Rattle.meaning.specs.Entries.{Entry}
use Rattle.meaning.specs.Values.{Counts}
use Rattle.node_chains.specs.Tree.{Tree, Forest, node, forest, trees, update, splice_kids, relabel, weight, weights}
use Rattle.node_chains.specs.declared.node.Content.{Content}
use Rattle.node_chains.specs.declared.node.Content.TheVariants.{Map, List as Sequence, Text, Null, Boolean, Int, Uint, Timestamp, Counter, Str, Bytes}
use Rattle.node_chains.proofs.Weights.{part, Leads, forest_trees, weights_append, weight_update}
use Rattle.node_table.specs.Kinds.{has_string}
use Rattle.node_table.specs.Held.{Datum, refilled}
use Rattle.node_table.specs.Values.{top, is_container, Keeps}
use Rattle.node_table.specs.Counts.{units_in, bytes_in}
use Rattle.node_table.proofs.Sums.{weights_split}
use Rattle.node_table.proofs.Bridges.{keeps_update}
use Rattle.node_table.proofs.Counting.{count_root}
use Rattle.value_tree.specs.Entries.{content_in, string_in, put_over}
use Rattle.value_tree.specs.Proper.{Proper}
use Rattle.value_tree.specs.Laws.{Counted, Recounted}
use Rattle.value_tree.proofs.Updates.{part_is}
use Rattle.value_tree.proofs.Propers.{proper_tidy}

-- children replaced, and an entry changed
pub weight_kids : {D : Type 0} (w : D → ℕ) (x : D) (ts : Forest D) (i n : ℕ) (new : List (Tree D))
    → weight (splice_kids i n new (node x ts)) w + weights (forest (take n (drop i (trees ts)))) w ≡ weight (node x ts) w + weights (forest new) w
weight_kids w x ts i n new =
    let a = weights_append w (take i (trees ts)) (new ++ drop (i + n) (trees ts)) in
    let b = weights_append w new (drop (i + n) (trees ts)) in
    let c = weights_split w i (trees ts) in
    let d = weights_split w n (drop i (trees ts)) in
    let e = ap (λ us. weights (forest us) w) (drop-drop n i (trees ts)) in
    let f = ap (λ us. weights us w) (forest_trees ts) in omega arith

pub weight_relabel : {D : Type 0} (w : D → ℕ) (h : D → D) (x : D) (ts : Forest D) → weight (relabel h (node x ts)) w + w x ≡ weight (node x ts) w + w (h x)
weight_relabel w h x ts = omega arith

pub weight_over : {U : Type 0} (w : Datum U → ℕ) (e : Entry) (x : Datum U) (ts : Forest (Datum U))
    → weight (put_over e (node x ts)) w ≡ w (refilled (content_in e.content) e.flag (string_in e.content) x)
weight_over w e x ts = omega arith

-- a container has no string
no_string : (c : Content) → is_container c ≡ true → has_string c ≡ false
no_string Map h = refl
no_string Sequence h = refl
no_string Text h = refl
no_string Null h = refl
no_string (Boolean b) h = refl
no_string (Int n) h = refl
no_string (Uint n) h = refl
no_string (Timestamp n) h = refl
no_string (Counter n) h = refl
no_string Str h = absurd (let z : ◌≡◌ {A = ℕ} 0 1 = cc in omega arith)
no_string Bytes h = absurd (let z : ◌≡◌ {A = ℕ} 0 1 = cc in omega arith)

module _ {U : Type 0} where
  pub counts_is : (T : Tree (Datum U)) → Proper T → is_container (top T).content ≡ true → Counted T
  counts_is (node x ts) h c =
      let e = count_root x ts c (proper_tidy (node x ts) h) in
      let a = ap (λ (n : Counts). n.entry_count) e in
      let b = ap (λ (n : Counts). n.unit_count) e in
      let d = ap (λ (n : Counts). n.byte_count) e in
      let s = ap length (h.0.string (no_string x.content c)) in
      record { entries = omega arith; units = b; bytes = omega arith }

  pub counts_update : (ps : List ℕ) (g : Tree (Datum U) → Tree (Datum U)) (T : Tree (Datum U))
      → Proper T → Proper (update ps g T) → is_container (top T).content ≡ true → Leads ps T → Keeps g (part ps T) → Recounted T (update ps g T) (part ps T) (g (part ps T))
  counts_update ps g T h h2 c l K =
      let k = keeps_update ps g T (rw (part_is ps T) at K) in
      let n = counts_is T h c in
      let m = counts_is (update ps g T) h2 (ap is_container k.content ∙ c) in
      let q = ap length k.key in
      record {
        entries = omega (arith, weight_update (λ _. 1) g ps T l);
        units = omega (arith, weight_update units_in g ps T l);
        bytes = omega (arith, weight_update bytes_in g ps T l);
      }
