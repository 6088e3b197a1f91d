use Rattle.bag_faults.proofs.Ascending.{same_lists}
use Rattle.bag_faults.proofs.Ordered.{fault_cmp_total}
use Rattle.bag_faults.proofs.laws.ascending_faults_are_one.Goals as goal

pub returns : goal.returns
returns c xs ys p q members =
    same_lists fault_cmp_total xs ys p q (λ f has. (members f).0 has) (λ f has. (members f).1 has)
