-- Tables that hold an empty map.
use Rattle.std.proofs.Common.{◌≡◌, ℕ, zero, suc, ◌+◌, ◌-◌, ◌<◌, ◌≤◌, List, [], ◌∷◌, length, get_or, sym, refl, ap, ◌∙◌, ⊎_elim, arith}
use Rattle.std.proofs.lemmas.List.{take_all, get_or_past}
use Rattle.std.proofs.lemmas.Bool.{cases_eq, cases_lt}
use Rattle.packed_rows.specs.Rows.{row, Packed}
use Rattle.packed_rows.proofs.PackedRows.{row_past}
use Rattle.node_table.specs.Kinds.{branches}
use Rattle.node_chains.specs.Tree.{node, none, weight, total}
use Rattle.node_chains.specs.Chains.{Placing, no_item, blank, item_at, up_at, lev_at}
use Rattle.node_table.specs.Held.{datum, held, root_item, empty_root, item_bytes, below, Used, Spelled}
use Rattle.node_chains.specs.declared.node.Item.{Item}
use Rattle.node_chains.specs.declared.node.Node.{Node}
use Rattle.node_chains.proofs.Frames.{leaf}
use Rattle.node_table.proofs.Sums.{below_same}
use Rattle.node_table.proofs.Inserts.{other_test}

-- the places from n on, in order
total_upto : (w : ℕ → ℕ) (xs : List ℕ) (n : ℕ) → ((j : ℕ) → j < length xs → get_or xs j 0 ≡ j + n) → total w xs + below n w ≡ below (n + length xs) w
total_upto w [] n h = let e : n + 0 ≡ n = omega arith in rw e (omega arith)
total_upto w (x ∷ xs) n h =
    let z : x ≡ 0 + n = h zero (omega arith) in
    let y : x ≡ n = omega arith in
    let ih = total_upto w xs (suc n) (λ j l. let q = h (suc j) (omega arith) in omega arith) in
    let e = ap (λ k. below k w) (let q : suc n + length xs ≡ n + suc (length xs) = omega arith in q) in
    let v = ap w y in omega arith

below_none : (f : ℕ) → below f (λ x. 0) ≡ 0
below_none zero = refl
below_none (suc f) = let ih = below_none f in omega arith

-- starts that are all 0 have empty rows
pub zero_rows : {X : Type 0} (t : List ℕ) (s : List X) → ((j : ℕ) → j < length t → get_or t j 0 ≡ 0) → (i : ℕ) → row t s i ≡ []
zero_rows t s z i = ⊎_elim
    (λ (a : i + 1 < length t). let y = z (i + 1) a in let w : get_or t (i + 1) 0 - get_or t i 0 ≡ 0 = omega arith in rw w)
    (λ (a : length t ≤ i + 1). row_past t s i a) (cases_lt (i + 1) (length t))

pub zero_packed : {X : Type 0} (t : List ℕ) (s : List X) → 0 < length t → ((j : ℕ) → j < length t → get_or t j 0 ≡ 0) → Packed t s
zero_packed t s l z = record { rising = λ j k a b. let x = z j (omega arith) in omega arith; within = let x = z (length t - 1) (omega arith) in omega arith }

pub zero_spelled : {X : Type 0} (f : ℕ) (t : List ℕ) (s : List X) → 0 < length t → ((j : ℕ) → j < length t → get_or t j 0 ≡ 0) → Spelled f t s
zero_spelled f t s l z =
    let a = z (length t - 1) (omega arith) in
    let b = below_same (suc f) (λ x. 0) (λ i. length (row t s i)) (λ x m. ap length (zero_rows t s z x)) ∙ below_none (suc f) in
    omega arith

-- the chains of an empty map
pub record Laid (U : Type 0) (f : ℕ) (nodes : List Node) (t s : List ℕ) : Type 0 where
  pub used : Used f nodes t s 0
  pub all : row t s f ≡ s
  pub bare : (i : ℕ) → (i ≡ f → ⊥) → row t s i ≡ []
  pub empty : (keys strings : List ℕ) (u : ℕ → List U) → u 0 ≡ [] → held nodes t s keys strings u ≡ node empty_root none

module _ (f : ℕ) (nodes : List Node) (t s : List ℕ) (ln : length nodes ≡ f + 1) (lt : length t ≡ f + 2) (ls : length s + 1 ≡ f)
    (z : (j : ℕ) → j ≤ f → get_or t j 0 ≡ 0) (e : get_or t (f + 1) 0 ≡ f - 1)
    (pl : (j : ℕ) → j < length s → get_or s j 0 ≡ j + 1)
    (nd : (j : ℕ) → 0 < j → j < f → get_or nodes j blank ≡ record { item = no_item; parent = f; depth = 1 })
    (rt : get_or nodes 0 blank ≡ record { item = root_item; parent = 0; depth = 0 }) (tp : get_or nodes f blank ≡ record { item = root_item; parent = f; depth = 0 }) where
  pub row_none : (i : ℕ) → (i ≡ f → ⊥) → row t s i ≡ []
  row_none i ne = ⊎_elim
      (λ (a : i < f). let x = z i (omega arith) in let y = z (i + 1) (omega arith) in let w : get_or t (i + 1) 0 - get_or t i 0 ≡ 0 = omega arith in rw w)
      (λ (a : f ≤ i). row_past t s i (omega arith)) (cases_lt i f)

  pub row_all : row t s f ≡ s
  row_all = let x = z f (omega arith) in let w : get_or t (f + 1) 0 - get_or t f 0 ≡ length s = omega arith in rw (w, x) (take_all (length s) s (omega arith))

  -- a child is one of the free places
  free_child : (i p : ℕ) → p < length (row t s i) → (i ≡ f) × (p < length s) × (get_or (row t s i) p 0 ≡ p + 1)
  free_child i p h = ⊎_elim
      (λ (a : i ≡ f).
      let r : row t s i ≡ s = ap (row t s) a ∙ row_all in
      let l : p < length s = omega (arith, ap length r) in
      (a, l, ap (λ xs. get_or xs p 0) r ∙ pl p l))
      (λ (a : i ≡ f → ⊥). absurd (let n = ap length (row_none i a) in omega arith)) (cases_eq i f)

  placing_reset : Placing f nodes t s
  placing_reset = record {
    packed = record {
      rising = λ j k u v. ⊎_elim (λ (a : j < f + 1). let x = z j (omega arith) in omega arith) (λ (a : f + 1 ≤ j). let q : j ≡ k = omega arith in let y = ap (λ h. get_or t h 0) q in omega arith) (cases_lt j (f + 1));
      within = let q : length t - 1 ≡ f + 1 = omega arith in let y = ap (λ h. get_or t h 0) q in omega arith;
    };
    count = ln;
    rows = lt;
    shape = record {
      ups = λ i p h. let w = free_child i p h in ap (up_at nodes) w.2 ∙ ap (λ (y : Node). y.parent) (nd (p + 1) (omega arith) (omega (arith, w.1))) ∙ sym w.0;
      levels = λ i p h. let w = free_child i p h in let a = ap (lev_at nodes) w.2 in let b = ap (λ (y : Node). y.depth) (nd (p + 1) (omega arith) (omega (arith, w.1))) in let c = ap (lev_at nodes) w.0 in let d = ap (λ (y : Node). y.depth) tp in omega arith;
      once = λ i p q h k u. let w = free_child i p h in let v = free_child i q k in omega (arith, w.2, v.2);
    };
    low = λ i p h. let w = free_child i p h in omega (arith, w.2);
    high = λ i p h. let w = free_child i p h in omega (arith, w.2, w.1);
    top = ap (λ (y : Node). y.parent) tp;
    bare = λ p h. let w = free_child f p h in ap (row t s) w.2 ∙ row_none (p + 1) (λ q. omega (arith, w.1));
    ground = ap (λ (y : Node). y.depth) tp;
    shallow = λ i p h ne. absurd (ne (free_child i p h).0);
  }

  no_bytes : (i : ℕ) → ((item_at nodes i).key_len ≡ 0) × ((item_at nodes i).string_len ≡ 0)
  no_bytes i = ⊎_elim
      (λ (a : i ≡ 0). let x = ap (item_at nodes) a ∙ ap (λ (y : Node). y.item) rt in (ap (λ (y : Item). y.key_len) x, ap (λ (y : Item). y.string_len) x))
      (λ (a : i ≡ 0 → ⊥). ⊎_elim
      (λ (b : i < f). let x = ap (λ (y : Node). y.item) (nd i (omega arith) b) in (ap (λ (y : Item). y.key_len) x, ap (λ (y : Item). y.string_len) x))
      (λ (b : f ≤ i). ⊎_elim
      (λ (c : i ≡ f). let x = ap (item_at nodes) c ∙ ap (λ (y : Node). y.item) tp in (ap (λ (y : Item). y.key_len) x, ap (λ (y : Item). y.string_len) x))
      (λ (c : i ≡ f → ⊥). let x = ap (λ (y : Node). y.item) (get_or_past nodes i blank (omega arith)) in (ap (λ (y : Item). y.key_len) x, ap (λ (y : Item). y.string_len) x))
      (cases_eq i f)) (cases_lt i f)) (cases_eq i 0)

  pub used_reset : Used f nodes t s 0
  used_reset = record {
    placing = placing_reset;
    some = omega arith;
    root = ap (λ (y : Node). y.item) rt;
    base = (ap (λ (y : Node). y.parent) rt, ap (λ (y : Node). y.depth) rt);
    last = ap (λ (y : Node). y.item) tp;
    leaf = λ i h. row_none i (λ a. other_test (branches (item_at nodes f).content) (ap (λ (y : Node). branches y.item.content) tp) (ap (λ x. branches (item_at nodes x).content) (sym a) ∙ h));
    free = λ p h. let w = free_child f p h in ap (item_at nodes) w.2 ∙ ap (λ (y : Node). y.item) (nd (p + 1) (omega arith) (omega (arith, w.1)));
    short = λ i. (omega (arith, (no_bytes i).0), omega (arith, (no_bytes i).1));
    parted = λ w.
        let a = ap (total w) row_all in
        let b = total_upto w s 1 pl in
        let c = ap (λ x. weight x w) (leaf (λ x. x) (row t s) 17 0 (row_none 0 (λ q. omega arith))) in
        let d = ap (λ k. below k w) (let q : 1 + length s ≡ f = omega arith in q) in
        omega arith;
    counted = sym (below_same f (λ x. 0) (λ i. item_bytes (item_at nodes i)) (λ x l. omega (arith, (no_bytes x).0, (no_bytes x).1)) ∙ below_none f);
  }

  pub held_reset : {U : Type 0} (keys strings : List ℕ) (u : ℕ → List U) → u 0 ≡ [] → held nodes t s keys strings u ≡ node empty_root none
  held_reset keys strings u h =
      let a = leaf (datum nodes keys strings u) (row t s) 17 0 (row_none 0 (λ q. omega arith)) in
      let b = ap (λ (y : Node). y.item) rt in
      a ∙ ap (λ x. node x none) (cc)

  -- all of it
  pub laid_out : {U : Type 0} → Laid U f nodes t s
  laid_out = record { used = used_reset; all = row_all; bare = row_none; empty = held_reset }
