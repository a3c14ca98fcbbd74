-- What opening a record answers.
use Rattle.std.specs.Prelude.{ℕ, cond, List, Some, None, Ok, Err, Option, Result}
use Rattle.types.specs.declared.error.Refusal.{Refusal}
use Rattle.types.specs.declared.error.Refusal.TheVariants.{InvalidLayout, UnlawfulRows}
use Rattle.meaning.specs.Documents.{Doc}
use Rattle.document.specs.Laws.{lawful}
use Rattle.record_codec.specs.Layout.{says}

-- The layout is judged first, then the rows.
abbrev pub judge : Option Doc → Result (Unit {0}) Refusal
judge None = Err InvalidLayout
judge (Some d) = cond (lawful d) (Ok tt) (Err UnlawfulRows)

abbrev pub opening : List ℕ → Result (Unit {0}) Refusal
opening bs = judge (says bs)
