use Rattle.value_tree.proofs.Texts.{texts}
use Rattle.value_tree.proofs.text_edits_agree.Goals as goal

pub returns : goal.returns
returns g c = texts
