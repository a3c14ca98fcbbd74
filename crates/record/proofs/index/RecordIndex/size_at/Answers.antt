use Rattle.record.proofs.Held.{size_unread, size_read}
use Rattle.record.proofs.index.RecordIndex.size_at.Goals as goal

pub returns-in_err-size : goal.returns-in_err-size
returns-in_err-size c = absurd (size_unread c.args.self.now c.in_ok-row.ensures c.in_err-size.ensures)

pub returns : goal.returns
returns c = size_read c.args.self.now c.in_ok-row.ensures c.in_ok-size.ensures
