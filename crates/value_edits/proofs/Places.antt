-- The part of the tree at a place.
use Rattle.std.proofs.Common.{◌≡◌, ℕ, suc, ◌-◌, ◌<◌, List, map, length, ap, ◌∙◌, arith}
use Rattle.node_chains.specs.Tree.{Tree, node, forest, tree, Under}
use Rattle.node_chains.proofs.Weights.{part, Leads}
use Rattle.node_table.specs.Held.{Datum, datum}
use Rattle.node_table.proofs.Inserts.{used_high, used_lev}
use Rattle.node_table.proofs.Sums.{parts, Parts}
use Rattle.node_chains.specs.Changes.{free_row}
use Rattle.node_table.specs.Edits.{nodes_in, kids, units_at, tree_of}
use Rattle.node_table.specs.declared.tables.Tables.{Tables}
use Rattle.value_edits.specs.Acted.{At, Way}

module _ {U : Type 0} (m : Tables U) where
  -- the entry at a place, and the tree there that is d deep
  abbrev pub data_at : ℕ → Datum U
  data_at = datum (nodes_in m) m.keys.now m.strings.now (units_at m)

  abbrev pub tree_at : ℕ → ℕ → Tree (Datum U)
  tree_at = tree data_at (kids m)

  module _ (o : ℕ) (A : At m o) (ps : List ℕ) (W : Way m o ps) where
    pub shallow : length ps < 17
    shallow = let e = used_lev m.sound.used ps W.steps W.reaches in omega (arith, A.deep)

    -- how deep the tree at o is read below it
    abbrev pub rest : ℕ
    rest = 16 - length ps

    led : Parts data_at (kids m) ps 17 (suc rest) 0
    led = parts data_at (kids m) ps 17 (suc rest) 0 (let s = shallow in omega arith) W.steps

    pub leads : Leads ps (tree_of m)
    leads = led.leads

    pub at_place : part ps (tree_of m) ≡ node (data_at o) (forest (map (tree_at rest) (kids m o)))
    at_place = led.is ∙ ap (tree_at (suc rest)) W.reaches

  -- a place in use is below the places' end, and some way leads there
  pub place_low : {o : ℕ} → Under (kids m) 0 o → o < free_row m.chains
  place_low u = used_high m.sound.used u

  pub way_of : {o : ℕ} → Under (kids m) 0 o → (ps : List ℕ) × Way m o ps
  way_of u = (u.0, record { steps = u.1; reaches = u.2 })
