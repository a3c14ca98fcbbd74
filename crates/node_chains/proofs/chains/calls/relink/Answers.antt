use Rattle.std.proofs.Common.{◌-◌, length, get_or, ap, arith}
use Rattle.node_chains.proofs.Moves.{relinked}
use Rattle.node_chains.proofs.chains.calls.relink.Goals as goal

pub returns : goal.returns
returns c =
    let R = relinked (length c.args.nodes.now - 1) c.args.a c.args.k c.args.b c.args.at _ c.args.item c.args.nodes.now c.args.starts.now c.args.chain.now
    c.splice_row.new.starts c.splice_row.new.places c.splice_row-2.new.starts c.splice_row-2.new.places c.requires.lawful (omega arith) (omega arith) c.requires.child
    c.requires.apart.0 c.requires.apart.1 c.requires.placed.0 c.requires.placed.1 c.requires.position c.requires.bare c.requires.deep (ap (λ xs. get_or xs c.args.k 0) c.row_of.ensures)
    c.splice_row.auto.starts c.splice_row-2.auto.starts c.splice_row.ensures c.splice_row-2.ensures in
    record { lawful = R.0; moved = R.1 }
