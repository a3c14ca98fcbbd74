use Rattle.std.proofs.Common.{◌≡◌, ◌<◌, length, get_or, ap, ◌∙◌, arith}
use Rattle.packed_rows.specs.Rows.{row}
use Rattle.node_chains.specs.Chains.{item_at}
use Rattle.node_chains.specs.Changes.{free_row}
use Rattle.node_chains.proofs.Sizes.{slices_then}
use Rattle.node_table.specs.Held.{item_bytes}
use Rattle.node_table.proofs.Wipes.{wipe_end, enough, wipe_more}
use Rattle.node_table.proofs.edits.wipe.Goals as goal

pub overflow_sub-bytes : goal.overflow_sub-bytes
overflow_sub-bytes g c =
    let m = c.args.chains.now in
    let I = c.loop-p.invariant in
    let e : c.child_at-c.result ≡ get_or (row m.starts.now m.chain.now (free_row m)) c.loop-p.p 0 =
    let a = c.child_at-c.ensures in let b = c.free_row-free.ensures in let d = I.starts in let h = I.chain in cc in
    let l : c.loop-p.p < length (row m.starts.now m.chain.now (free_row m)) =
    let a = ap length c.children-p-end.ensures in let b = ap (λ i. length (row m.starts.now m.chain.now i)) c.free_row-free.ensures in omega arith in
    let n : c.item_bytes.result ≡ item_bytes (item_at c.loop-p.chains.nodes.now c.child_at-c.result) = c.item_bytes.ensures ∙ ap item_bytes c.item.ensures in
    omega (arith, enough I.wiped c.child_at-c.result e l)

pub loop-p-preserved : goal.loop-p-preserved
loop-p-preserved g c =
    let m = c.args.chains.now in
    let I = c.loop-p.invariant in
    let e : c.child_at-c.result ≡ get_or (row m.starts.now m.chain.now (free_row m)) c.loop-p.p 0 =
    let a = c.child_at-c.ensures in let b = c.free_row-free.ensures in let d = I.starts in let h = I.chain in cc in
    let l : c.loop-p.p < length (row m.starts.now m.chain.now (free_row m)) =
    let a = ap length c.children-p-end.ensures in let b = ap (λ i. length (row m.starts.now m.chain.now i)) c.free_row-free.ensures in omega arith in
    record {
      slices = slices_then I.slices c.set_item.ensures.slices;
      starts = c.set_item.ensures.set.starts ∙ I.starts;
      chain = c.set_item.ensures.set.chain ∙ I.chain;
      wiped = wipe_more I.wiped c.child_at-c.result e l c.clear_units.ensures c.set_item.new.self.nodes.now c.item_bytes.result c.set_item.ensures.set.nodes (c.item_bytes.ensures ∙ ap item_bytes c.item.ensures) c.loop-p.auto.p;
    }

pub returns-clause-wiped : goal.returns-clause-wiped
returns-clause-wiped g c =
    let m = c.args.chains.now in
    let a = ap length c.children-p-end.ensures in
    let b = ap (λ i. length (row m.starts.now m.chain.now i)) c.free_row-free.ensures in
    wipe_end (omega (arith, c.loop-p-test.false, c.loop-p.auto.p-end, c.requires.inside)) c.loop-p.invariant.wiped
