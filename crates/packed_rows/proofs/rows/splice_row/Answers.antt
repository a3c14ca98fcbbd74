use Rattle.std.proofs.Common.{rules}
use Rattle.packed_rows.proofs.PackedRows.{row_spliced}
use Rattle.packed_rows.proofs.rows.splice_row.Goals as goal

pub returns : goal.returns
returns g c = search (rules, row_spliced)
