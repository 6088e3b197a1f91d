use Rattle.bag_report.proofs.Common.{nothing_listed, fault_cmp}
use Rattle.bag_report.proofs.stages.profile_faults.Goals as goal

pub returns-in-None : goal.returns-in-None
returns-in-None c = λ bag facts deep. rw (c.in-None.is, c.new.ensures.items) (nothing_listed fault_cmp _ (λ f h. h))
