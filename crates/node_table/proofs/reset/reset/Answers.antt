use Rattle.std.proofs.Common.{◌≡◌, ℕ, ◌<◌, length, get_or, ap, refl, arith}
use Rattle.packed_rows.specs.Rows.{row}
use Rattle.node_table.proofs.Resets.{laid_out, zero_rows, zero_packed, zero_spelled}
use Rattle.node_table.proofs.reset.reset.Goals as goal

pub returns : goal.returns
returns g c =
    let z : (j : ℕ) → j < length c.fill.new.self → get_or c.fill.new.self j 0 ≡ 0 = λ j l. c.fill.ensures.clones j 0 (omega arith) refl in
    let L = laid_out c.args.f c.fill_nodes.new.nodes c.fill_starts.new.starts c.fill_chain.new.chain (omega arith) (omega arith) (omega arith) c.fill_starts.ensures.zeros c.fill_starts.ensures.end (λ j h. c.fill_chain.ensures j (omega arith)) c.fill_nodes.ensures.taken c.fill_nodes.ensures.root c.fill_nodes.ensures.top {U = g.row.U.Denot} in
    record {
      lawful = L.used;
      room = omega (arith, ap length L.all);
      bare = L.bare;
      units = λ us. (zero_packed c.fill.new.self us (omega arith) z, zero_spelled c.args.f c.fill.new.self us (omega arith) z, zero_rows c.fill.new.self us z);
      empty = λ keys strings us. L.empty keys strings (row c.fill.new.self us) (zero_rows c.fill.new.self us z 0);
    }
