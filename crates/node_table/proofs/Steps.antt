-- Changes of the chains, seen from the tables.
use Rattle.std.proofs.Common.{◌≡◌, ℕ, ◌<◌, List, length, ap, ◌∙◌, subst, length-set}
use Rattle.packed_rows.specs.Rows.{row}
use Rattle.node_chains.specs.Tree.{Tree, Under}
use Rattle.node_chains.specs.Chains.{Moved}
use Rattle.node_chains.specs.Changes.{free_row, SameSizes, ItemSet, with_item}
use Rattle.node_chains.specs.declared.node.Item.{Item}
use Rattle.node_chains.specs.declared.node.Node.{Node}
use Rattle.node_chains.specs.declared.chains.Chains.{Chains}
use Rattle.node_chains.proofs.Sizes.{free_same}
use Rattle.node_table.specs.Held.{Datum, Used, Dry, Changed, Stands, Touched, held}
use Rattle.node_table.specs.Sound.{Sound}

-- what holds with a new item holds after it was set
pub set_same : {i : ℕ} {it : Item} {m m2 : Chains} → ItemSet i it m m2 → (P : List Node → List ℕ → List ℕ → Type 0) → P (with_item m.nodes.now i it) m.starts.now m.chain.now → P m2.nodes.now m2.starts.now m2.chain.now
set_same S P h = rw (S.nodes, S.starts, S.chain) h

pub set_sizes : {i : ℕ} {it : Item} {m m2 : Chains} → ItemSet i it m m2 → SameSizes m m2
set_sizes {i} {it} {m} S = record { nodes = ap length S.nodes ∙ length-set m.nodes.now i _; chain = ap length S.chain }

-- the tables with another item at c
module _ {U : Type 0} {f bytes : ℕ} {nodes : List Node} {t s keys strings ut : List ℕ} {us : List U} (S : Sound f nodes t s keys strings ut us bytes) where
  pub touched_sound : {h : Datum U → Datum U} {c : ℕ} {nodes2 : List Node} → 0 < c → Under (row t s) 0 c → Touched h c nodes nodes2 → Sound f nodes2 t s keys strings ut us bytes
  touched_sound lo uc E = record {
    used = E.lawful f bytes t s lo uc S.used;
    dry = E.dry (row ut us) S.dry;
    packed = S.packed;
    spelled = S.spelled;
    key_slots = S.key_slots;
    string_slots = S.string_slots;
    text_rows = S.text_rows;
    text_places = S.text_places;
  }

pub set_sound : {U : Type 0} {i bytes : ℕ} {it : Item} {m m2 : Chains} {keys strings ut : List ℕ} {us : List U} → ItemSet i it m m2 → Sound (free_row m) (with_item m.nodes.now i it) m.starts.now m.chain.now keys strings ut us bytes → Sound (free_row m2) m2.nodes.now m2.starts.now m2.chain.now keys strings ut us bytes
set_sound {U} {i} {bytes} {it} {m} {m2} {keys} {strings} {ut} {us} E h = rw (free_same (set_sizes E)) (set_same E (λ xs t s. Sound (free_row m) xs t s keys strings ut us bytes) h)

-- the same where the chains had been changed before
pub refill_same : {i : ℕ} {it : Item} {m m2 : Chains} {t s : List ℕ} → ItemSet i it m m2 → m.starts.now ≡ t → m.chain.now ≡ s → (P : List Node → List ℕ → List ℕ → Type 0) → P (with_item m.nodes.now i it) t s → P m2.nodes.now m2.starts.now m2.chain.now
refill_same S et es P h = rw (S.nodes, S.starts, S.chain, et, es) h

pub rows_same : (m : Chains) {t s : List ℕ} → m.starts.now ≡ t → m.chain.now ≡ s → (P : List ℕ → List ℕ → Type 0) → P t s → P m.starts.now m.chain.now
rows_same m et es P h = rw (et, es) h

-- what holds of chains holds of the slices that they lay in
pub dry_lent : {U : Type 0} (m : Chains) {nodes : List Node} → nodes ≡ m.nodes.now → (u : ℕ → List U) → Dry m.nodes.now u → Dry nodes u
dry_lent m en u h = rw en h

pub stands_lent : (m : Chains) {t s : List ℕ} → t ≡ m.starts.now → s ≡ m.chain.now → (R : ℕ → List ℕ) (o : ℕ) → Stands R (row m.starts.now m.chain.now) o → Stands R (row t s) o
stands_lent m et es R o h = rw (et, es) h

pub used_lent : (m : Chains) {f g bytes : ℕ} {nodes : List Node} {t s : List ℕ} → nodes ≡ m.nodes.now → t ≡ m.starts.now → s ≡ m.chain.now → Used g m.nodes.now m.starts.now m.chain.now bytes → g ≡ f → Used f nodes t s bytes
used_lent m {f} {g} {bytes} {nodes} {t} {s} en et es h e = subst (λ x. Used x nodes t s bytes) e (rw (en, et, es) h)

-- (that they are in use tells which slices are meant)
module _ (m : Chains) {f bytes : ℕ} {nodes : List Node} {t s : List ℕ} (Us : Used f nodes t s bytes) (en : nodes ≡ m.nodes.now) (et : t ≡ m.starts.now) (es : s ≡ m.chain.now) where
  pub changed_lent : {U : Type 0} (R : ℕ → List ℕ) (o : ℕ) (g : Tree (Datum U) → Tree (Datum U)) (a : Tree (Datum U)) (keys strings : List ℕ) (u : ℕ → List U)
      → Changed R o g a (held m.nodes.now m.starts.now m.chain.now keys strings u) → Changed R o g a (held nodes t s keys strings u)
  changed_lent R o g a keys strings u h = rw (en, et, es) h

-- the row of the free places by another name
pub moved_at : {f g k o at r : ℕ} {item : Item} {nodes nodes2 : List Node} {t s t2 s2 : List ℕ} → g ≡ f → Moved g k o at r item nodes nodes2 t s t2 s2 → Moved f k o at r item nodes nodes2 t s t2 s2
moved_at {f} {g} {k} {o} {at} {r} {item} {nodes} {nodes2} {t} {s} {t2} {s2} e V = subst (λ x. Moved x k o at r item nodes nodes2 t s t2 s2) e V

pub sound_at : {U : Type 0} {f g bytes : ℕ} {nodes : List Node} {t s keys strings ut : List ℕ} {us : List U} → g ≡ f → Sound f nodes t s keys strings ut us bytes → Sound g nodes t s keys strings ut us bytes
sound_at e S = rw e S

pub wiped_sizes : {m m1 m2 : Chains} → SameSizes m m1 → length m2.nodes.now ≡ length m1.nodes.now → m2.chain.now ≡ m1.chain.now → SameSizes m m2
wiped_sizes S n e = record { nodes = n ∙ S.nodes; chain = ap length e ∙ S.chain }
