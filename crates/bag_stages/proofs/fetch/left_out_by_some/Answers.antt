use Rattle.bag_stages.proofs.Common.{Md5, IsFetchLeftOutByOne}
use Rattle.bag_stages.proofs.ByItem.{all_algs_listed, next_alg_listed, no_items}
use Rattle.bag_stages.proofs.FetchFaults.{less_not_in}
use Rattle.bag_stages.proofs.fetch.left_out_by_some.Goals as goal

pub loop-alg-init : goal.loop-alg-init
loop-alg-init c = λ bag facts deep at fetched. rw c.new-faults.ensures.items (no_items (IsFetchLeftOutByOne bag))

pub loop-alg-preserved : goal.loop-alg-preserved
loop-alg-preserved c = λ bag facts deep at fetched.
    rw c.in_ok-append.ensures.items
    (next_alg_listed (IsFetchLeftOutByOne bag) (less_not_in bag) c.loop-alg.alg-index Md5 c.loop-alg.faults.items
    c.in_ok-of_alg.of_alg.items c.loop-alg-test.true
    (c.loop-alg.invariant bag facts deep at fetched)
    (c.in_ok-of_alg.ensures bag facts deep at fetched))

pub returns : goal.returns
returns c = λ bag facts deep at fetched.
    all_algs_listed (IsFetchLeftOutByOne bag) (less_not_in bag) c.loop-alg.alg-index c.loop-alg.faults.items
    c.loop-alg-test.false (c.loop-alg.invariant bag facts deep at fetched)
