-- What an edit of the tree at a place leaves of the value, and what its bounds refuse.
use Rattle.std.proofs.Common.{◌≡◌, ℕ, ◌+◌, ◌<◌, ◌≤◌, true, false, ◌&&◌, leb, List, length, Ok, Err, sym, refl, ap, ◌∙◌, subst, arith, length-take}
use Rattle.std.proofs.lemmas.Bool.Decides.{nat_tests}
use Rattle.types.specs.declared.error.Refusal.{Refusal}
use Rattle.types.specs.declared.error.Refusal.TheVariants.{ValueFull}
use Rattle.meaning.specs.Results.{provided, and_then}
use Rattle.meaning.specs.Patches.{Prop, Action}
use Rattle.meaning.specs.Values.{counts, fits}
use Rattle.meaning.specs.Application.{at, here}
use Rattle.packed_rows.specs.Rows.{used}
use Rattle.node_chains.specs.Tree.{Tree, update, weight}
use Rattle.node_chains.specs.declared.node.Item.{Item}
use Rattle.node_chains.proofs.Weights.{part}
use Rattle.node_table.specs.Held.{Datum}
use Rattle.node_table.specs.Values.{top, value_of, Follows, is_container}
use Rattle.node_table.specs.Counts.{units_in, bytes_in}
use Rattle.node_table.proofs.Bridges.{edits, refusals}
use Rattle.node_table.proofs.Counting.{kept, units_kept}
use Rattle.value_tree.specs.Acts.{Refuses}
use Rattle.value_tree.specs.Proper.{Proper}
use Rattle.value_tree.specs.Laws.{Recounted}
use Rattle.value_tree.proofs.Updates.{part_is}
use Rattle.value_tree.proofs.Propers.{proper_update}
use Rattle.value_tree.proofs.Weighing.{counts_is, counts_update}
use Rattle.node_chains.specs.Changes.{free_row}
use Rattle.node_table.specs.Edits.{nodes_in, kids, units_at, tree_of, Edited}
use Rattle.node_table.specs.declared.tables.Tables.{Tables}
use Rattle.value_memory.specs.Memory.{shown, Roomy, Good}
use Rattle.value_edits.specs.Acted.{At, Way, Here, Meant, Acted}
use Rattle.value_edits.proofs.Places.{leads, way_of}

-- the three bounds, and one of them passed
all_fit : (a b c : ℕ) → a ≤ 4096 → b ≤ 32768 → c ≤ 32768 → leb a 4096 && (leb b 32768 && leb c 32768) ≡ true
all_fit a b c x y z = grind (arith, nat_tests)

first_full : (a b c : ℕ) → 4096 < a → leb a 4096 && (leb b 32768 && leb c 32768) ≡ false
first_full a b c x = grind (arith, nat_tests)

second_full : (a b c : ℕ) → 32768 < b → leb a 4096 && (leb b 32768 && leb c 32768) ≡ false
second_full a b c x = grind (arith, nat_tests)

third_full : (a b c : ℕ) → 32768 < c → leb a 4096 && (leb b 32768 && leb c 32768) ≡ false
third_full a b c x = grind (arith, nat_tests)

-- what the value counts, by the numbers that the tables keep
pub record Counters {U : Type 0} (m : Tables U) : Type 0 where
  pub entries : (counts (shown m)).entry_count + length (kids m (free_row m.chains)) ≡ 4096
  pub units : (counts (shown m)).unit_count ≡ used m.begins.now
  pub bytes : (counts (shown m)).byte_count ≡ m.bytes

module _ {U : Type 0} (m : Tables U) where
  root_container : is_container (top (tree_of m)).content ≡ true
  root_container = ap (λ (y : Item). is_container y.content) m.sound.used.root

  root_key : length (top (tree_of m)).key ≡ 0
  root_key = let e = ap (λ (y : Item). y.key_len) m.sound.used.root in simp length-take (omega arith)

  pub counters : Roomy m → Proper (tree_of m) → Counters m
  counters R P =
      let C = counts_is (tree_of m) P root_container in
      let K = kept (free_row m.chains) m.bytes (nodes_in m) m.chains.starts.now m.chains.chain.now m.keys.now m.strings.now (units_at m) m.sound.used m.sound.dry m.sound.key_slots m.sound.string_slots in
      record {
        entries = omega (arith, C.entries, K.entries, R.nodes);
        units = C.units ∙ units_kept (free_row m.chains) m.bytes (nodes_in m) m.chains.starts.now m.chains.chain.now m.keys.now m.strings.now m.begins.now m.units.now m.sound.used m.sound.dry m.sound.spelled;
        bytes = omega (arith, C.bytes, K.spelled, root_key);
      }

  pub units_within : Roomy m → used m.begins.now ≤ 32768
  units_within R = omega (arith, m.sound.packed.within, R.units)

  pub good_fits : Roomy m → Proper (tree_of m) → m.bytes ≤ 32768 → fits (shown m) ≡ true
  good_fits R P b =
      let C = counters R P in
      all_fit (counts (shown m)).entry_count (counts (shown m)).unit_count (counts (shown m)).byte_count (omega (arith, C.entries)) (omega (arith, C.units, units_within R)) (omega (arith, C.bytes))

module _ {U : Type 0} {units : List ℕ → List U} {a : Action U} {g : Tree (Datum U) → Tree (Datum U)} {o : ℕ} {m : Tables U} (G : Good m) (A : At m o) where
  -- the same edit at the end of a path, by the two names of the part there
  module _ (M : Here m o (Meant units a g)) where
    told_edit : (path : List Prop) (ps : List ℕ) → Way m o ps → Follows path ps (tree_of m) → at path (here units a) (shown m) ≡ Ok (value_of (update ps g (tree_of m)))
    told_edit path ps W fl =
        let N = subst (Meant units a g) (part_is ps (tree_of m)) (M ps W) in
        edits path ps (tree_of m) (here units a) g fl N.keeps N.edits

    proper_after : (ps : List ℕ) → Way m o ps → Proper (update ps g (tree_of m))
    proper_after ps W = proper_update ps g (tree_of m) G.proper (leads m o A ps W) (M ps W).keeps.key (M ps W).proper

    recounted : (ps : List ℕ) → Way m o ps → Recounted (tree_of m) (update ps g (tree_of m)) (part ps (tree_of m)) (g (part ps (tree_of m)))
    recounted ps W = counts_update ps g (tree_of m) G.proper (proper_after ps W) (root_container m) (leads m o A ps W) (M ps W).keeps

    full : ((ps : List ℕ) → Way m o ps → fits (value_of (update ps g (tree_of m))) ≡ false) → Acted units a o m m (Err ValueFull)
    full over = record {
      good = G;
      told = λ path ps W fl. ap (λ x. and_then x (λ w. provided (fits w) ValueFull w)) (told_edit path ps W fl) ∙ ap (λ b. provided b ValueFull (value_of (update ps g (tree_of m)))) (over ps W);
      kept = λ e. refl;
    }

    -- refused since the value would have too many entries, units or bytes
    pub full_entries : Here m o (λ t. weight t (λ _. 1) + length (kids m (free_row m.chains)) < weight (g t) (λ _. 1)) → Acted units a o m m (Err ValueFull)
    full_entries h = full (λ ps W.
        let v = value_of (update ps g (tree_of m)) in
        let C = counters m G.room G.proper in
        first_full (counts v).entry_count (counts v).unit_count (counts v).byte_count (omega (arith, h ps W, (recounted ps W).entries, C.entries)))

    pub full_units : Here m o (λ t. 32768 + weight t units_in < used m.begins.now + weight (g t) units_in) → Acted units a o m m (Err ValueFull)
    full_units h = full (λ ps W.
        let v = value_of (update ps g (tree_of m)) in
        let C = counters m G.room G.proper in
        second_full (counts v).entry_count (counts v).unit_count (counts v).byte_count (omega (arith, h ps W, (recounted ps W).units, C.units)))

    pub full_bytes : Here m o (λ t. 32768 + weight t bytes_in < m.bytes + weight (g t) bytes_in) → Acted units a o m m (Err ValueFull)
    full_bytes h = full (λ ps W.
        let v = value_of (update ps g (tree_of m)) in
        let C = counters m G.room G.proper in
        third_full (counts v).entry_count (counts v).unit_count (counts v).byte_count (omega (arith, h ps W, (recounted ps W).bytes, C.bytes)))

    -- done, within the bound of bytes; entries and units have places at all only within theirs
    pub did : {m2 : Tables U} → Edited o g m m2 → Here m o (λ t. m.bytes + weight (g t) bytes_in ≤ 32768 + weight t bytes_in) → Acted units a o m m2 (Ok tt)
    did {m2} E h =
        let R : Roomy m2 = record { nodes = E.room.chains.nodes ∙ G.room.nodes; chain = E.room.chains.chain ∙ G.room.chain; units = E.room.units ∙ G.room.units } in
        let w = way_of m A.used in
        let e = E.changed w.0 w.1.steps w.1.reaches in
        let P : Proper (tree_of m2) = subst Proper (sym e) (proper_after w.0 w.1) in
        let C = counters m G.room G.proper in
        let C2 = counters m2 R P in
        let b : (counts (shown m2)).byte_count ≡ (counts (value_of (update w.0 g (tree_of m)))).byte_count = ap (λ (t : Tree (Datum U)). (counts (value_of t)).byte_count) e in
        let B : m2.bytes ≤ 32768 = omega (arith, h w.0 w.1, (recounted w.0 w.1).bytes, C.bytes, C2.bytes) in
        record {
          good = record { room = R; proper = P; within = B };
          told = λ path ps W fl.
              let q = ap (λ (t : Tree (Datum U)). value_of t) (E.changed ps W.steps W.reaches) in
              ap (λ x. and_then x (λ w. provided (fits w) ValueFull w)) (told_edit path ps W fl)
              ∙ ap (λ v. provided (fits v) ValueFull v) (sym q)
              ∙ ap (λ b. provided b ValueFull (shown m2)) (good_fits m2 R P B);
          kept = λ z. absurd (let y : ◌≡◌ {A = ℕ} 0 1 = cc in omega arith);
        }

module _ {U : Type 0} {units : List ℕ → List U} {a : Action U} {o : ℕ} {m : Tables U} (G : Good m) (A : At m o) where
  -- refused by the action itself
  pub refused : {r : Refusal} {m2 : Tables U} → Good m2 → tree_of m2 ≡ tree_of m → Here m o (Refuses units a r) → Acted units a o m m2 (Err r)
  refused {r} {m2} G2 e R = record {
    good = G2;
    told = λ path ps W fl.
        ap (λ x. and_then x (λ w. provided (fits w) ValueFull w))
        (refusals path ps (tree_of m) (here units a) r fl (subst (Refuses units a r) (part_is ps (tree_of m)) (R ps W)));
    kept = λ z. e;
  }
