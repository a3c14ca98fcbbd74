use Rattle.std.proofs.Common.{rules, tests, ◌∙◌}
use Rattle.std.proofs.lemmas.Iterator.{YieldsList-from_slice}
use Rattle.std.proofs.lemmas.Iterator.Search.{all_from_yields_List}
use Rattle.tables.specs.Tables.{entry_lies}
use Rattle.tables.proofs.Telling.{every_is}
use Rattle.tables.proofs.windows.entries_lie.Goals as goal

pub returns : goal.returns
returns c =
    all_from_yields_List (entry_lies c.args.bytes) _ _ _ c.all.ensures.ran (YieldsList-from_slice c.args.entries.now cc) (λ x b q k. search (rules, tests))
    ∙ every_is (entry_lies c.args.bytes) c.args.entries.now
