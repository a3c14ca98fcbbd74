use Rattle.std.proofs.Common.{[], length, sym, ap, ◌∙◌, arith}
use Rattle.packed_rows.specs.Rows.{row}
use Rattle.node_chains.specs.Tree.{splice_kids}
use Rattle.node_chains.specs.Chains.{item_at}
use Rattle.node_chains.specs.Changes.{free_row}
use Rattle.node_chains.proofs.Sizes.{free_same, placing_same, slices_then}
use Rattle.node_table.specs.Held.{item_bytes, Used, Changed, Stands, held}
use Rattle.node_table.proofs.Inserts.{used_high, used_up}
use Rattle.node_table.proofs.Sums.{below_same}
use Rattle.node_table.proofs.Removes.{unlinked_shrinks, used_less, dry_less, changed_less}
use Rattle.node_table.proofs.Wipes.{wiped_at}
use Rattle.node_table.proofs.Steps.{rows_same, wiped_sizes}
use Rattle.node_table.proofs.Ways.{stands_less}
use Rattle.node_table.proofs.edits.cut_child.Goals as goal

pub unlink-requires : goal.unlink-requires
unlink-requires g c = record { inside = used_high c.requires.lawful c.requires.used; placed = used_up c.requires.lawful c.requires.used; child = c.requires.child }

pub wipe-requires : goal.wipe-requires
wipe-requires g c =
    let m = c.args.chains.now in
    let n = c.unlink.new.self in
    let F = free_same c.unlink.ensures.sizes in
    let a = c.free_count-from.ensures in
    let d = ap (λ i. length (row n.starts.now n.chain.now i)) F in
    record {
      inside = omega (arith, (unlinked_shrinks c.requires.lawful c.requires.child c.unlink.ensures.unlinked).longer);
      packed = c.requires.packed;
      rows = omega (arith, F, c.requires.rows);
      counted = c.requires.lawful.counted ∙ sym (rw F (below_same (free_row m) (λ i. item_bytes (item_at m.nodes.now i)) (λ i. item_bytes (item_at n.nodes.now i)) (λ x l. ap item_bytes (c.unlink.ensures.unlinked.items x))));
      small = c.requires.small;
    }

pub returns : goal.returns
returns g c =
    let m = c.args.chains.now in
    let M = placing_same c.unlink.ensures.sizes in
    let N = c.unlink.ensures.unlinked in
    let W = wiped_at (free_same c.unlink.ensures.sizes) c.free_count-from.ensures c.wipe.ensures.wiped in
    let R = c.wipe.ensures.rows in
    record {
      sizes = wiped_sizes {m2 = c.wipe.new.chains} c.unlink.ensures.sizes c.wipe.ensures.sizes R.1;
      slices = slices_then c.unlink.ensures.slices c.wipe.ensures.slices;
      lawful = rows_same c.wipe.new.chains R.0 R.1 (λ t s. Used (free_row m) c.wipe.new.chains.nodes.now t s c.wipe.new.bytes) (used_less c.requires.lawful c.requires.used c.requires.child M N W);
      packed = W.packed;
      dry = dry_less c.requires.lawful c.requires.used c.requires.child M N W c.requires.dry;
      spelled = W.spelled;
      changed = λ keys strings. rows_same c.wipe.new.chains R.0 R.1 (λ t s. Changed (row m.starts.now m.chain.now) c.args.o (splice_kids c.args.k 1 []) (held m.nodes.now m.starts.now m.chain.now keys strings (row c.args.begins.now c.args.units.now)) (held c.wipe.new.chains.nodes.now t s keys strings (row c.wipe.new.begins c.wipe.new.units)))
          (changed_less c.requires.lawful c.requires.used c.requires.child M N W keys strings);
      stands = rows_same c.wipe.new.chains R.0 R.1 (λ t s. Stands (row m.starts.now m.chain.now) (row t s) c.args.o) (stands_less c.requires.lawful c.requires.child N);
    }
