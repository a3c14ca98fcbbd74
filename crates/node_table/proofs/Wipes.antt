-- Free places that lose what they held.
use Rattle.std.proofs.Common.{◌≡◌, ℕ, suc, ◌+◌, ◌-◌, ◌<◌, ◌≤◌, List, [], length, get_or, sym, ap, ◌∙◌, subst, ⊎_elim, arith}
use Rattle.std.proofs.lemmas.List.{drop_all}
use Rattle.std.proofs.lemmas.Bool.{cases_eq}
use Rattle.sequence_tree.specs.Lists.{spliced}
use Rattle.packed_rows.specs.Rows.{row}
use Rattle.node_chains.specs.Chains.{no_item, item_at}
use Rattle.node_chains.specs.Changes.{with_item}
use Rattle.node_chains.proofs.Items.{item_c, item_x, links, placing_item}
use Rattle.node_table.specs.Held.{Cleared, Spelled, Wiped, item_bytes}
use Rattle.node_chains.specs.declared.node.Node.{Node}
use Rattle.node_table.proofs.Sums.{below_change, below_part}

pub cut_all : {X : Type 0} (xs : List X) (n : ℕ) → n ≡ length xs → spliced xs 0 n [] ≡ []
cut_all xs n e = drop_all (0 + n) xs (omega arith)

-- units that go are counted no more
pub cleared_spelled : {U : Type 0} (f c : ℕ) {ut ut2 : List ℕ} {us us2 : List U} → Cleared c ut us ut2 us2 → c < suc f → Spelled f ut us → Spelled f ut2 us2
cleared_spelled f c {ut} {ut2} {us} {us2} C l h =
    let a = below_change (suc f) c (λ i. length (row ut us i)) (λ i. length (row ut2 us2 i)) l (λ x ne. ap length (C.others x ne)) in
    let b = ap length C.here in
    omega (arith, C.count)

pub wipe_end : {U : Type 0} {f from p q bytes : ℕ} {nodes0 nodes : List Node} {t s ut0 ut : List ℕ} {us0 us : List U} → p ≡ q → Wiped f from p nodes0 nodes t s ut0 ut us0 us bytes → Wiped f from q nodes0 nodes t s ut0 ut us0 us bytes
wipe_end {U} {f} {from} {p} {q} {bytes} {nodes0} {nodes} {t} {s} {ut0} {ut} {us0} {us} e W = subst (λ k. Wiped f from k nodes0 nodes t s ut0 ut us0 us bytes) e W

-- the same of the row of the free places, and of where it ended, by other names
pub wiped_at : {U : Type 0} {f g from p bytes : ℕ} {nodes0 nodes : List Node} {t s ut0 ut : List ℕ} {us0 us : List U} → g ≡ f → p ≡ from → Wiped g p (length (row t s g)) nodes0 nodes t s ut0 ut us0 us bytes → Wiped f from (length (row t s f)) nodes0 nodes t s ut0 ut us0 us bytes
wiped_at {U} {f} {g} {from} {p} {bytes} {nodes0} {nodes} {t} {s} {ut0} {ut} {us0} {us} e d W =
    subst (λ k. Wiped f k (length (row t s f)) nodes0 nodes t s ut0 ut us0 us bytes) d (subst (λ x. Wiped x p (length (row t s x)) nodes0 nodes t s ut0 ut us0 us bytes) e W)

module _ {U : Type 0} {f from p bytes : ℕ} {nodes0 nodes : List Node} {t s ut0 ut : List ℕ} {us0 us : List U} (W : Wiped f from p nodes0 nodes t s ut0 ut us0 us bytes)
    (c : ℕ) (is : c ≡ get_or (row t s f) p 0) (m : p < length (row t s f)) where
  pub c_high : c < f
  c_high = omega (arith, is, W.lawful.high f p m)

  pub enough : item_bytes (item_at nodes c) ≤ bytes
  enough = omega (arith, below_part f c (λ i. item_bytes (item_at nodes i)) c_high, W.counted)

  module _ {ut2 : List ℕ} {us2 : List U} (C : Cleared c ut us ut2 us2) where
    c_in : c < length nodes
    c_in = omega (arith, c_high, W.lawful.count)

    more : from ≤ p → Wiped f from (p + 1) nodes0 (with_item nodes c no_item) t s ut0 ut2 us0 us2 (bytes - item_bytes (item_at nodes c))
    more lo = record {
      lawful = placing_item c nodes no_item c_in W.lawful;
      packed = C.packed;
      links = λ x. ((links c nodes no_item c_in x).0 ∙ (W.links x).0, (links c nodes no_item c_in x).1 ∙ (W.links x).1);
      gone = λ q a b. ⊎_elim
          (λ (e : q ≡ p).
          let z : get_or (row t s f) q 0 ≡ c = ap (λ k. get_or (row t s f) k 0) e ∙ sym is in
          (ap (item_at (with_item nodes c no_item)) z ∙ item_c c nodes no_item c_in, ap (row ut2 us2) z ∙ C.here))
          (λ (ne : q ≡ p → ⊥).
          let z : get_or (row t s f) q 0 ≡ c → ⊥ = λ e. ne (W.lawful.shape.once f q p (omega arith) m (e ∙ is)) in
          let g = W.gone q a (omega arith) in
          (item_x c nodes no_item c_in (get_or (row t s f) q 0) z ∙ g.0, C.others (get_or (row t s f) q 0) z ∙ g.1)) (cases_eq q p);
      items_at = λ x h. item_x c nodes no_item c_in x (λ e. h p lo (omega arith) (e ∙ is)) ∙ W.items_at x (λ q a b. h q a (omega arith));
      units_stay = λ x h. C.others x (λ e. h p lo (omega arith) (e ∙ is)) ∙ W.units_stay x (λ q a b. h q a (omega arith));
      spelled = λ h. cleared_spelled f c C (omega (arith, c_high)) (W.spelled h);
      counted =
          let a = below_change f c (λ i. item_bytes (item_at nodes i)) (λ i. item_bytes (item_at (with_item nodes c no_item) i)) c_high (λ x ne. ap item_bytes (item_x c nodes no_item c_in x ne)) in
          let b = ap item_bytes (item_c c nodes no_item c_in) in
          omega (arith, W.counted, enough);
    }

    pub wipe_more : (nodes2 : List Node) (n : ℕ) → nodes2 ≡ with_item nodes c no_item → n ≡ item_bytes (item_at nodes c) → from ≤ p → Wiped f from (p + 1) nodes0 nodes2 t s ut0 ut2 us0 us2 (bytes - n)
    wipe_more nodes2 n is2 isn lo = rw (is2, isn) (more lo)
