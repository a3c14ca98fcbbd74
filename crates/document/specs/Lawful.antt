-- A document with the proof of its laws.
use Rattle.std.specs.Prelude.{◌≡◌, true}
use Rattle.meaning.specs.Documents.{Doc, Lawful}
use Rattle.document.specs.Laws.{lawful}
use Rattle.document.specs.Judged.{test_is_laws}

pub record LawfulDoc : Type 0 where
  pub doc : Doc
  pub lawful : Lawful doc

-- A document that passed the test.
abbrev pub judged : (d : Doc) → lawful d ≡ true → LawfulDoc
judged d ok = record { doc = d; lawful = ((test_is_laws d).0 ok).0 }
