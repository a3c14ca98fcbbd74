use Rattle.std.proofs.Common.{◌∙◌, length, ap}
use Rattle.text_value.specs.Rfc3629.{code_points}
use Rattle.text_value.proofs.Starts.{leads_points}
use Rattle.text_value.proofs.code_point.count_points.Goals as goal

pub returns : goal.returns
returns c =
    c.count_leads.ensures
    ∙ (leads_points c.as_bytes.result.now c.as_bytes.ensures.utf8
    ∙ ap (λ xs. length (code_points xs)) c.as_bytes.ensures.value)
