-- A record and its document tell each other.
use Rattle.std.specs.Prelude.{◌≡◌, ℕ, ◌≤◌, true, List, length, Some}
use Rattle.types.specs.Limits.{limits}
use Rattle.meaning.specs.Documents.{Doc}
use Rattle.document.specs.Laws.{rises}
use Rattle.record_codec.specs.Codec.{Bytes}
use Rattle.record_codec.specs.Layout.{Writable, says, print}

-- What was written is read again.
abbrev pub WrittenIsRead : Type 0
WrittenIsRead = (d : Doc) → Writable d → rises d ≡ true → length (print d) ≤ limits.record_bytes → says (print d) ≡ Some d

-- What was read is what was written.
pub record Printed (bs : List ℕ) (d : Doc) : Type 0 where
  pub whole : bs ≡ print d
  pub writable : Writable d
  pub rising : rises d ≡ true
  pub short : length bs ≤ limits.record_bytes

abbrev pub ReadWasWritten : Type 0
ReadWasWritten = (bs : List ℕ) (d : Doc) → Bytes bs → says bs ≡ Some d → Printed bs d

-- Two documents with one record are one document.
abbrev pub OneDocument : Type 0
OneDocument = (d e : Doc) → Writable d → Writable e → print d ≡ print e → d ≡ e
