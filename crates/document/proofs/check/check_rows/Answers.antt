use Rattle.std.proofs.Common.{◌≡◌, Bool, true, Decides, rules, sym, ◌∙◌}
use Rattle.meaning.specs.Documents.{Doc, Lawful}
use Rattle.document.specs.Laws.{lawful, topped}
use Rattle.document.specs.Judged.{test_is_laws}
use Rattle.document.proofs.check.check_rows.Goals as goal

-- a test that answers as the laws' own decides them
decided : (d : Doc) (b : Bool) → b ≡ lawful d → Decides b (Lawful d × (topped d ≡ true))
decided d b e = (λ h. (test_is_laws d).0 (sym e ∙ h), λ h. e ∙ (test_is_laws d).1 h)

pub returns-in_default-clause-laws : goal.returns-in_default-clause-laws
returns-in_default-clause-laws g c = decided (g.R.Rows.shaped c.args.rows.now).doc _ (search rules)

pub returns-then-check_each_row-clause-laws : goal.returns-then-check_each_row-clause-laws
returns-then-check_each_row-clause-laws g c = decided (g.R.Rows.shaped c.args.rows.now).doc _ (search rules)

pub returns-else-check_each_row-clause-laws : goal.returns-else-check_each_row-clause-laws
returns-else-check_each_row-clause-laws g c = decided (g.R.Rows.shaped c.args.rows.now).doc _ (search rules)
