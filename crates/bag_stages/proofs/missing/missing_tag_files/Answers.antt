use Rattle.bag_stages.proofs.Common.{Tag, Md5, ap, Fault, IsMissing}
use Rattle.bag_stages.proofs.Sorted.{all_algs, no_alg_yet, once_listed, one_alg_more}
use Rattle.bag_stages.proofs.missing.missing_tag_files.Goals as goal

pub loop-alg-init : goal.loop-alg-init
loop-alg-init c = λ bag facts deep. rw c.new-faults.ensures.items (no_alg_yet (IsMissing bag Tag))

pub loop-alg-preserved : goal.loop-alg-preserved
loop-alg-preserved c = λ bag facts deep.
    rw c.in_ok-faults.ensures
    (one_alg_more (IsMissing bag Tag) (λ alg f h. ap (λ (x : Fault). x.alg) h.0)
    c.loop-alg.alg-index Md5 c.loop-alg.faults.items c.in_ok-of_alg.of_alg.items c.loop-alg-test.true
    (c.loop-alg.invariant bag facts deep)
    (once_listed _ c.in_ok-of_alg.of_alg.items (c.in_ok-of_alg.ensures bag facts deep)))

pub returns : goal.returns
returns c = λ bag facts deep.
    all_algs (IsMissing bag Tag) c.loop-alg.alg-index c.loop-alg.faults.items c.loop-alg-test.false
    (c.loop-alg.invariant bag facts deep)
