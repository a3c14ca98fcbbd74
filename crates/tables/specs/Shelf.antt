-- What shelf tables tell.
use Rattle.meaning.specs.Documents.{Doc}
use Rattle.tables.specs.declared.rows.TableRows.{TableRows}
use Rattle.tables.specs.Tables.{doc_of}

abbrev pub doc_told : TableRows → Doc
doc_told t = doc_of t.objects.now t.entries.now t.bytes.now
