use Rattle.bag_stages.proofs.Common.{arith}
use Rattle.bag_stages.proofs.PartFaults.{textless_known}
use Rattle.bag_stages.proofs.parts.has_no_text.Goals as goal

pub returns-in-Some : goal.returns-in-Some
returns-in-Some c = λ bag known.
    grind (arith, textless_known bag c.args.tags.now c.in-Some.name c.args.path.now known c.in-Some.ensures)
