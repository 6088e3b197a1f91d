use Rattle.bag_stages.proofs.Common.{Md5, IsWrong}
use Rattle.bag_stages.proofs.PayloadNamed.{told}
use Rattle.bag_stages.proofs.Sorted.{all_algs, no_alg_yet, one_alg_more}
use Rattle.bag_stages.proofs.payload_named.payload_faults.Goals as goal

pub loop-alg-init : goal.loop-alg-init
loop-alg-init c = λ bag facts deep. rw c.new-faults.ensures.items (no_alg_yet (IsWrong bag))

pub loop-alg-preserved : goal.loop-alg-preserved
loop-alg-preserved c = λ bag facts deep.
    rw c.in_ok-faults.ensures
    (one_alg_more (IsWrong bag) (told bag) c.loop-alg.alg-index Md5 c.loop-alg.faults.items c.in_ok-of_alg.of_alg.items
    c.loop-alg-test.true (c.loop-alg.invariant bag facts deep)
    (c.in_ok-of_alg.ensures bag facts deep))

pub returns : goal.returns
returns c = λ bag facts deep.
    all_algs (IsWrong bag) c.loop-alg.alg-index c.loop-alg.faults.items c.loop-alg-test.false
    (c.loop-alg.invariant bag facts deep)
