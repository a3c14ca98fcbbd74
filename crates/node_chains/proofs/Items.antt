-- An item that changes leaves the chains as they are.
use Rattle.std.proofs.Common.{◌≡◌, ℕ, ◌+◌, ◌<◌, List, length, get_or, sym, ap, ◌∙◌, ⊎_elim, arith, length-set, get_or-set_other, get_or-set_same}
use Rattle.std.proofs.lemmas.Bool.{cases_eq}
use Rattle.packed_rows.specs.Rows.{row}
use Rattle.node_chains.specs.Chains.{Placing, blank, item_at, up_at, lev_at}
use Rattle.node_chains.specs.Changes.{with_item}
use Rattle.node_chains.specs.declared.node.Item.{Item}
use Rattle.node_chains.specs.declared.node.Node.{Node}

-- the chains stay a tree where the links do
pub placing_relinked : (f : ℕ) (nodes nodes2 : List Node) (t s : List ℕ) → Placing f nodes t s → length nodes2 ≡ length nodes → ((x : ℕ) → (up_at nodes2 x ≡ up_at nodes x) × (lev_at nodes2 x ≡ lev_at nodes x)) → Placing f nodes2 t s
placing_relinked f nodes nodes2 t s M e h = record {
  packed = M.packed;
  count = e ∙ M.count;
  rows = M.rows;
  shape = record {
    ups = λ i p l. (h (get_or (row t s i) p 0)).0 ∙ M.shape.ups i p l;
    levels = λ i p l. (h (get_or (row t s i) p 0)).1 ∙ M.shape.levels i p l ∙ ap (λ n. n + 1) (sym (h i).1);
    once = M.shape.once;
  };
  low = M.low;
  high = M.high;
  top = (h f).0 ∙ M.top;
  bare = M.bare;
  ground = (h f).1 ∙ M.ground;
  shallow = λ i p l ne. omega (arith, (h i).1, M.shallow i p l ne);
}

-- the node at c with another item
module _ (c : ℕ) (nodes : List Node) (it : Item) (l : c < length nodes) where
  at_c : get_or (with_item nodes c it) c blank ≡ record { item = it; parent = up_at nodes c; depth = lev_at nodes c }
  at_c = get_or-set_same nodes c _ blank l

  at_x : (x : ℕ) → (x ≡ c → ⊥) → get_or (with_item nodes c it) x blank ≡ get_or nodes x blank
  at_x x ne = get_or-set_other nodes c x _ blank ne

  pub item_c : item_at (with_item nodes c it) c ≡ it
  item_c = ap (λ (y : Node). y.item) at_c

  pub item_x : (x : ℕ) → (x ≡ c → ⊥) → item_at (with_item nodes c it) x ≡ item_at nodes x
  item_x x ne = ap (λ (y : Node). y.item) (at_x x ne)

  pub length_item : length (with_item nodes c it) ≡ length nodes
  length_item = length-set nodes c _

  pub links : (x : ℕ) → (up_at (with_item nodes c it) x ≡ up_at nodes x) × (lev_at (with_item nodes c it) x ≡ lev_at nodes x)
  links x = ⊎_elim
      (λ (e : x ≡ c). (ap (up_at (with_item nodes c it)) e ∙ ap (λ (y : Node). y.parent) at_c ∙ ap (up_at nodes) (sym e), ap (lev_at (with_item nodes c it)) e ∙ ap (λ (y : Node). y.depth) at_c ∙ ap (lev_at nodes) (sym e)))
      (λ ne. (ap (λ (y : Node). y.parent) (at_x x ne), ap (λ (y : Node). y.depth) (at_x x ne))) (cases_eq x c)

  pub placing_item : {f : ℕ} {t s : List ℕ} → Placing f nodes t s → Placing f (with_item nodes c it) t s
  placing_item {f} {t} {s} M = placing_relinked f nodes (with_item nodes c it) t s M length_item links
