use Rattle.bag_faults.specs.Stage.{stage_number}
use Rattle.bag_checked.proofs.FirstFaults.{first_in_stage}
use Rattle.bag_checked.proofs.stages.check_stage.Goals as goal

pub returns-in-Some-clause-fault : goal.returns-in-Some-clause-fault
returns-in-Some-clause-fault c = λ other.
    first_in_stage c.args.facts.now (stage_number c.args.stage) c.in-Ok.faults.items c.in-Some.ensures.0 c.in-Some.fault
    (λ bag of. c.in-Ok.ensures.faults bag of other) c.in-Some.ensures.1
