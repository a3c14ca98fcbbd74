-- A child that moves from one chain to another.
use Rattle.std.proofs.Common.{◌≡◌, ℕ, ◌+◌, ◌-◌, ◌<◌, ◌≤◌, ◌⊎◌, List, [], ◌∷◌, length, get_or, take, set, sym, ap, ◌∙◌, ⊎_elim, arith, length-set, get_or-set_other, get_or-set_same, rules}
use Rattle.std.proofs.lemmas.List.{places, same_lists}
use Rattle.sequence_tree.specs.Lists.{spliced}
use Rattle.packed_rows.specs.Rows.{row, Packed, RowSpliced}
use Rattle.packed_rows.proofs.PackedRows.{row_length}
use Rattle.node_chains.specs.Chains.{Placing, Moved, blank, up_at, lev_at}
use Rattle.node_chains.specs.declared.node.Item.{Item}
use Rattle.node_chains.specs.declared.node.Node.{Node}
use Rattle.node_chains.proofs.Memories.{New, Old, from, shape_after, bare_n, not_i_n}

-- a child lies within the places
pub row_end : {X : Type 0} (t : List ℕ) (s : List X) (i k : ℕ) → Packed t s → i + 1 < length t → k < length (row t s i) → get_or t i 0 + k < length s
row_end t s i k h l m =
    let n = row_length t s i h l in
    let r = h.rising (i + 1) (length t - 1) (omega arith) (omega arith) in omega (arith, h.within)

-- the last element taken out
pub cut_last : {X : Type 0} (xs : List X) (k : ℕ) → k + 1 ≡ length xs → spliced xs k 1 [] ≡ take k xs
cut_last xs k e = same_lists _ _ (search (rules, places)) (λ j d h. grind (arith, places))

-- the two splices and the write of the node, together
module _ (f a k b at new : ℕ) (item : Item) (nodes : List Node) (t s t1 s1 t2 s2 : List ℕ) (M : Placing f nodes t s) (ia : a ≤ f) (ib : b ≤ f) (m : k < length (row t s a))
    (ba : b ≡ a → ⊥) (ub : up_at nodes b ≡ a → ⊥) (pa : up_at nodes a ≡ f → a ≡ f) (pb : up_at nodes b ≡ f → b ≡ f) (l : at ≤ length (row t s b))
    (bn : row t s (get_or (row t s a) k 0) ≡ []) (deep : (b ≡ f → ⊥) → lev_at nodes b < 17) (is : new ≡ get_or (row t s a) k 0)
    (lt1 : length t1 ≡ length t) (lt2 : length t2 ≡ length t1)
    (S1 : RowSpliced t s t1 s1 a k 1 []) (S2 : RowSpliced t1 s1 t2 s2 b at 0 (new ∷ [])) where
  abbrev nodes2 : List Node
  nodes2 = set nodes new (record { item = item; parent = b; depth = (get_or nodes b blank).depth + 1 })

  new_high : new < f
  new_high = omega (arith, is, M.high a k m)

  new_low : 0 < new
  new_low = omega (arith, is, M.low a k m)

  row_a : row t2 s2 a ≡ spliced (row t s a) k 1 []
  row_a = S2.others a (λ e. ba (sym e)) ∙ S1.here

  row_b : row t2 s2 b ≡ spliced (row t s b) at 0 (new ∷ [])
  row_b = S2.here ∙ ap (λ xs. spliced xs at 0 (new ∷ [])) (S1.others b ba)

  row_x : (j : ℕ) → (j ≡ b → ⊥) → (j ≡ a → ⊥) → row t2 s2 j ≡ row t s j
  row_x j nj nf = S2.others j nj ∙ S1.others j nf

  new_node : get_or nodes2 new blank ≡ record { item = item; parent = b; depth = (get_or nodes b blank).depth + 1 }
  new_node = get_or-set_same nodes new _ blank (omega (arith, M.count, new_high))

  old_node : (x : ℕ) → (x ≡ new → ⊥) → get_or nodes2 x blank ≡ get_or nodes x blank
  old_node x ne = get_or-set_other nodes new x _ blank ne

  new_bare : row t s new ≡ []
  new_bare = ap (row t s) is ∙ bn

  moved_is : Moved a k b at new item nodes nodes2 t s t2 s2
  moved_is = record { was = is; from = row_a; to = row_b; others = row_x; itself = new_node; rest = old_node }

  origin : (i p : ℕ) → p < length (row t2 s2 i) → New (row t2 s2) new b at i p ⊎ Old (row t s) (row t2 s2) a k new b at i p
  origin = from (row t s) (row t2 s2) (up_at nodes) (up_at nodes2) (lev_at nodes) (lev_at nodes2) a k new b at M.shape m (sym is) new_bare
      ba ub l row_a row_b row_x (ap (λ (x : Node). x.parent) new_node) (λ x ne. ap (λ (y : Node). y.parent) (old_node x ne)) (ap (λ (x : Node). x.depth) new_node) (λ x ne. ap (λ (y : Node). y.depth) (old_node x ne))

  placing_moved : Placing f nodes2 t2 s2
  placing_moved = record {
    packed = S2.lawful;
    count = length-set nodes new _ ∙ M.count;
    rows = lt2 ∙ lt1 ∙ M.rows;
    shape = shape_after (row t s) (row t2 s2) (up_at nodes) (up_at nodes2) (lev_at nodes) (lev_at nodes2) a k new b at M.shape m (sym is) new_bare
        ba ub l row_a row_b row_x (ap (λ (x : Node). x.parent) new_node) (λ x ne. ap (λ (y : Node). y.parent) (old_node x ne)) (ap (λ (x : Node). x.depth) new_node) (λ x ne. ap (λ (y : Node). y.depth) (old_node x ne));
    low = λ i p h. ⊎_elim (λ (w : New (row t2 s2) new b at i p). omega (arith, w.is, new_low))
        (λ (w : Old (row t s) (row t2 s2) a k new b at i p). omega (arith, w.is, M.low i w.place w.inside)) (origin i p h);
    high = λ i p h. ⊎_elim (λ (w : New (row t2 s2) new b at i p). omega (arith, w.is, new_high))
        (λ (w : Old (row t s) (row t2 s2) a k new b at i p). omega (arith, w.is, M.high i w.place w.inside)) (origin i p h);
    top = ap (λ (y : Node). y.parent) (old_node f (λ e. omega (arith, new_high))) ∙ M.top;
    bare = λ p h. ⊎_elim
        (λ (w : New (row t2 s2) new b at f p). ap (row t2 s2) w.is ∙ bare_n (row t s) (row t2 s2) (up_at nodes) (up_at nodes2) (lev_at nodes) (lev_at nodes2) a k new b at M.shape m (sym is) new_bare
        ba ub l row_a row_b row_x (ap (λ (x : Node). x.parent) new_node) (λ x ne. ap (λ (y : Node). y.parent) (old_node x ne)) (ap (λ (x : Node). x.depth) new_node) (λ x ne. ap (λ (y : Node). y.depth) (old_node x ne)))
        (λ (w : Old (row t s) (row t2 s2) a k new b at f p).
        let u = M.shape.ups f w.place w.inside in
        let hi = M.high f w.place w.inside in
        ap (row t2 s2) w.is
        ∙ row_x (get_or (row t s f) w.place 0)
        (λ e. omega (arith, pb (ap (up_at nodes) (sym e) ∙ u), e))
        (λ e. omega (arith, pa (ap (up_at nodes) (sym e) ∙ u), e))
        ∙ M.bare w.place w.inside) (origin f p h);
    ground = ap (λ (y : Node). y.depth) (old_node f (λ e. omega (arith, new_high))) ∙ M.ground;
    shallow = λ i p h ne. ⊎_elim
        (λ (w : New (row t2 s2) new b at i p).
        let e = ap (λ (y : Node). y.depth) (old_node i (not_new i p h)) in
        let e2 = ap (lev_at nodes) w.row in
        omega (arith, deep (λ z. ne (w.row ∙ z))))
        (λ (w : Old (row t s) (row t2 s2) a k new b at i p).
        let e = ap (λ (y : Node). y.depth) (old_node i (not_new i p h)) in
        omega (arith, M.shallow i w.place w.inside ne)) (origin i p h);
  }
    where
      not_new : (i p : ℕ) → p < length (row t2 s2 i) → i ≡ new → ⊥
      not_new = not_i_n (row t s) (row t2 s2) (up_at nodes) (up_at nodes2) (lev_at nodes) (lev_at nodes2) a k new b at M.shape m (sym is) new_bare
          ba ub l row_a row_b row_x (ap (λ (x : Node). x.parent) new_node) (λ x ne. ap (λ (y : Node). y.parent) (old_node x ne)) (ap (λ (x : Node). x.depth) new_node) (λ x ne. ap (λ (y : Node). y.depth) (old_node x ne))

  pub relinked : Placing f nodes2 t2 s2 × Moved a k b at new item nodes nodes2 t s t2 s2
  relinked = (placing_moved, moved_is)
