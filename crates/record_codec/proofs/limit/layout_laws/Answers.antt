use Rattle.record_codec.proofs.Records.{written_is_read, read_was_written, one_document}
use Rattle.record_codec.proofs.limit.layout_laws.Goals as goal

pub returns : goal.returns
returns c = record { written = written_is_read; read = read_was_written; one = one_document }
