use Rattle.bag_stages.proofs.Common.{sym, ◌∙◌}
use Rattle.bag_stages.proofs.PartFaults.{supported_alone}
use Rattle.bag_stages.proofs.parts.unsupported.Goals as goal

pub returns-in-Some-from_name : goal.returns-in-Some-from_name
returns-in-Some-from_name c = λ alg h.
    supported_alone c.args.path.now c.in-Some.alg.now alg c.in-Some.ensures.0 c.in-Some-from_name.field-0
    c.in-Some.ensures.2 (sym c.from_name.ensures ∙ c.in-Some-from_name.is) h
