-- The tables of an empty map.
use Rattle.std.proofs.Common.{◌≡◌, sym, refl, ap, ◌∙◌, arith}
use Rattle.node_chains.specs.Tree.{Tree, node, none, weight}
use Rattle.node_chains.specs.Changes.{free_row}
use Rattle.node_table.specs.Held.{Datum, empty_root}
use Rattle.node_table.specs.Counts.{bytes_in}
use Rattle.node_table.specs.Edits.{nodes_in, units_at, tree_of}
use Rattle.node_table.specs.declared.tables.Tables.{Tables}
use Rattle.node_table.proofs.Counting.{kept}
use Rattle.value_tree.specs.Proper.{Proper}

pub proper_root : {U : Type 0} → Proper (node (empty_root {U = U}) none)
proper_root = (record { units = λ h. refl; string = λ h. refl }, (λ h. refl), (λ h. tt), (λ h p q a b. absurd (omega arith)), tt)

pub no_bytes : {U : Type 0} (m : Tables U) → tree_of m ≡ node empty_root none → m.bytes ≡ 0
no_bytes {U} m e =
    let K = kept (free_row m.chains) m.bytes (nodes_in m) m.chains.starts.now m.chains.chain.now m.keys.now m.strings.now (units_at m) m.sound.used m.sound.dry m.sound.key_slots m.sound.string_slots in
    sym K.spelled ∙ ap (λ (t : Tree (Datum U)). weight t bytes_in) e
