-- Binary search among keys that rise.
use Rattle.std.proofs.Common.{◌≡◌, ℕ, ◌+◌, ◌<◌, ◌≤◌, List, length, get_or, Less, Equal, Greater, sym, ap, ◌∙◌, subst, ⊎_elim, arith}
use Rattle.std.proofs.lemmas.Bool.{cases_lt}
use Rattle.meaning.specs.Entries.{Key, compare_keys}
use Rattle.node_table.specs.Keys.{KeysRise, Above, Below, Found}
use Rattle.node_table.proofs.KeyOrder.{less_less, turned, keys_same}

-- On the way there: k lies between two positions.
pub record Between (key : ℕ → Key) (chain : List ℕ) (k : Key) (low high : ℕ) : Type 0 where
  pub order : low ≤ high
  pub within : high ≤ length chain
  pub above : Above key chain k low
  pub below : Below key chain k high

module _ (key : ℕ → Key) (chain : List ℕ) (k : Key) (low high mid : ℕ) (B : Between key chain k low high) (R : KeysRise key chain) (lo : low ≤ mid) (hi : mid < high) where
  pub low_up : compare_keys (key (get_or chain mid 0)) k ≡ Less → Between key chain k (mid + 1) high
  low_up h = record {
    order = omega arith;
    within = B.within;
    above = λ q l. ⊎_elim
        (λ (a : q < mid). less_less (key (get_or chain q 0)) (key (get_or chain mid 0)) k (R.rises q mid a (omega (arith, B.within))) h)
        (λ (a : mid ≤ q). let e : mid ≡ q = omega arith in subst (λ p. compare_keys (key (get_or chain p 0)) k ≡ Less) e h) (cases_lt q mid);
    below = B.below;
  }

  pub high_down : compare_keys (key (get_or chain mid 0)) k ≡ Greater → Between key chain k low mid
  high_down h = record {
    order = lo;
    within = omega (arith, B.within);
    above = B.above;
    below = λ q a l. ⊎_elim
        (λ (b : mid < q). less_less k (key (get_or chain mid 0)) (key (get_or chain q 0)) (turned (key (get_or chain mid 0)) k h) (R.rises mid q b l))
        (λ (b : q ≤ mid). let e : mid ≡ q = omega arith in subst (λ p. compare_keys k (key (get_or chain p 0)) ≡ Less) e (turned (key (get_or chain mid 0)) k h)) (cases_lt mid q);
  }

  pub found : compare_keys (key (get_or chain mid 0)) k ≡ Equal → Found key chain k mid
  found h =
      let e = keys_same (key (get_or chain mid 0)) k h in
      record {
        inside = omega (arith, B.within);
        same = e;
        above = λ q l. ap (compare_keys (key (get_or chain q 0))) (sym e) ∙ R.rises q mid l (omega (arith, B.within));
      }
