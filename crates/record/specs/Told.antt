-- The plain document that an index tells.
use Rattle.std.specs.Prelude.{◌≡◌, ℕ, ◌<◌, true, List, [], ◌∷◌, is_some, slice_index}
use Rattle.types.specs.Identities.{root_id}
use Rattle.types.specs.declared.types.ObjType.TheVariants.{Map}
use Rattle.meaning.specs.Rows.{map_of}
use Rattle.meaning.specs.Documents.{Doc}
use Rattle.document.specs.Places.{Shaped}
use Rattle.record_codec.specs.Layout.{parsed, doc_of, print}
use Rattle.record_codec.proofs.Records.{parsed_shapes}

-- Its rows have the shapes of their kinds, as the layout has them.
abbrev pub told_by : (bs : List ℕ) → ((k : ℕ) → slice_index bs k < 256) → is_some (parsed bs) ≡ true → Shaped
told_by bs typed said = record { doc = doc_of bs; shapes = parsed_shapes bs typed said }

-- The document that has the root alone, an empty map, and its record.
abbrev pub bare_doc : Doc
bare_doc = record { ident = root_id; kind = Map; parent = root_id; row = map_of [] } ∷ []

abbrev pub bare_record : List ℕ
bare_record = print bare_doc
