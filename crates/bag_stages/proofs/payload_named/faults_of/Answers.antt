use Rattle.bag_stages.proofs.Common.{[], IfOk-weaker, fault_cmp, nothing_listed}
use Rattle.bag_stages.proofs.PayloadNamed.{apart, nothing_wrong}
use Rattle.bag_stages.proofs.Sorted.{both_once, once_listed}
use Rattle.bag_stages.proofs.payload_named.faults_of.Goals as goal

pub returns-then-is_exact : goal.returns-then-is_exact
returns-then-is_exact c = λ bag facts deep.
    rw c.new.ensures.items
    (once_listed _ []
    (nothing_listed fault_cmp _
    (nothing_wrong bag c.args.alg ((c.is_exact.ensures bag facts deep).0 c.if-is_exact.true).1)))

pub returns : goal.returns
returns c = IfOk-weaker c.appended.result _ _
    (λ faults is bag facts deep.
    rw is
    (both_once _ _ c.in_ok-missing.missing.items c.in_ok-left_out.left_out.items (apart bag c.args.alg)
    (once_listed _ c.in_ok-missing.missing.items (c.in_ok-missing.ensures bag facts deep))
    (once_listed _ c.in_ok-left_out.left_out.items (c.in_ok-left_out.ensures bag facts deep))))
    c.appended.ensures
