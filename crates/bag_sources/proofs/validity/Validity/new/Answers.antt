use Rattle.bag_sources.proofs.Common.{IfOk-weaker, option_copied}
use Rattle.bag_sources.proofs.Within.{all_faults, all_files}
use Rattle.bag_sources.proofs.validity.Validity.new.Goals as goal

pub returns-clause-faults : goal.returns-clause-faults
returns-clause-faults c =
    IfOk-weaker c.within.result _ _ (λ s is bag of full. all_faults bag (option_copied c.args.after) _ (is bag of full))
    (rw c.whole.ensures at c.within.ensures.faults)

pub returns-clause-todo : goal.returns-clause-todo
returns-clause-todo c =
    IfOk-weaker c.within.result _ _ (λ s is bag of full. all_files bag (option_copied c.args.after) _ (is bag of full))
    (rw c.whole.ensures at c.within.ensures.todo)
