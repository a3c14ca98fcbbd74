use Rattle.std.proofs.Common.{cond, rules, tests, arith}
use Rattle.std.proofs.lemmas.Iterator.{YieldsList-from_slice, YieldsList-from_map}
use Rattle.std.proofs.lemmas.Iterator.Consumers.{YieldsList-at, fits_by_from_yields_list}
use Rattle.std.proofs.lemmas.List.Sums.{count_by-le-length}
use Rattle.text_value.specs.Rfc3629.{leads}
use Rattle.text_value.proofs.code_point.count_leads.Goals as goal

pub sum-requires-clause-fits : goal.sum-requires-clause-fits
sum-requires-clause-fits c =
    fits_by_from_yields_list (λ b. cond (leads b) 1 0) c.args.bytes.now c.map.result _
    (YieldsList-from_map _ (λ b. cond (leads b) 1 0) (YieldsList-at c.map.ensures.source (YieldsList-from_slice c.args.bytes.now (cc))) c.map.ensures.closure (λ x r q k. search (rules, tests)))
    (omega (arith, count_by-le-length leads c.args.bytes.now, c.iter.ensures.bound))
