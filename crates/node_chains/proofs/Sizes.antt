-- Chains as one value: what holds of the places holds as long as there are as many.
use Rattle.std.proofs.Common.{◌≡◌, ℕ, ◌-◌, List, length, sym, refl, ap, ◌∙◌, subst}
use Rattle.node_chains.specs.Chains.{Placing, Emptied, Freed}
use Rattle.node_chains.specs.Changes.{free_row, SameSizes, SameSlices, Empties, Frees}
use Rattle.node_chains.specs.declared.node.Node.{Node}
use Rattle.node_chains.specs.declared.chains.Chains.{Chains}

-- the free places are in the last row, whatever the list of nodes
pub placing_last : (nodes nodes2 : List Node) {t s : List ℕ} → length nodes2 ≡ length nodes → Placing (length nodes - 1) nodes2 t s → Placing (length nodes2 - 1) nodes2 t s
placing_last nodes nodes2 {t} {s} e M = subst (λ n. Placing (n - 1) nodes2 t s) (sym e) M

pub same_self : (m : Chains) → SameSizes m m
same_self m = record { nodes = refl; chain = refl }

pub same_then : {a b c : Chains} → SameSizes a b → SameSizes b c → SameSizes a c
same_then h k = record { nodes = k.nodes ∙ h.nodes; chain = k.chain ∙ h.chain }

pub slices_self : (m : Chains) → SameSlices m m
slices_self m = record { nodes = refl; starts = refl; chain = refl }

pub slices_then : {a b c : Chains} → SameSlices a b → SameSlices b c → SameSlices a c
slices_then h k = record { nodes = k.nodes ∙ h.nodes; starts = k.starts ∙ h.starts; chain = k.chain ∙ h.chain }

module _ {m0 m : Chains} (e : SameSizes m0 m) where
  pub free_same : free_row m ≡ free_row m0
  free_same = ap (λ n. n - 1) e.nodes

  pub placing_same : Placing (free_row m0) m.nodes.now m.starts.now m.chain.now
  placing_same = subst (λ f. Placing f m.nodes.now m.starts.now m.chain.now) free_same m.placing

  pub emptied_same : (m2 : Chains) {i j d : ℕ} → j ≡ i → Empties j d m m2 → Emptied (free_row m0) i d m.nodes.now m2.nodes.now m.starts.now m.chain.now m2.starts.now m2.chain.now
  emptied_same m2 {i} {j} {d} k E =
      subst (λ f. Emptied f i d m.nodes.now m2.nodes.now m.starts.now m.chain.now m2.starts.now m2.chain.now) free_same
      (subst (λ x. Emptied (free_row m) x d m.nodes.now m2.nodes.now m.starts.now m.chain.now m2.starts.now m2.chain.now) k E)

  pub freed_same : (m2 : Chains) {i k : ℕ} → Frees i k m m2 → Freed (free_row m0) i k m.nodes.now m2.nodes.now m.starts.now m.chain.now m2.starts.now m2.chain.now
  freed_same m2 {i} {k} V = subst (λ f. Freed f i k m.nodes.now m2.nodes.now m.starts.now m.chain.now m2.starts.now m2.chain.now) free_same V
