use Rattle.bag_renewed.proofs.AlgsMade.{all_passing, is_next, no_more, none_yet, one_more}
use Rattle.bag_renewed.proofs.Common.{◌≡◌, ◌∙◌, sym, algs, get_or}
use Rattle.bag_text.specs.declared.alg.Alg.TheVariants.{Md5}
use Rattle.bag_renewed.proofs.algorithms.passing.Goals as goal
use Rattle.bag_renewed.proofs.algorithms.passing.Goals.{then-test, else-test}

pub loop-alg-init : goal.loop-alg-init
loop-alg-init g c = λ p tells. c.empty-algs.ensures ∙ none_yet p

pub loop-alg-preserved : goal.loop-alg-preserved
loop-alg-preserved g c = λ p tells.
    let i = c.loop-alg.alg-index in
    let alg = get_or algs i Md5 in
    let is : c.test.result ≡ p alg = tells alg c.test.result c.test.ensures in
    elim c.if-test.branch [
      | then-test w ↦ one_more p i alg c.loop-alg-test.true (is_next i c.loop-alg-test.true) c.loop-alg.algs
          (c.loop-alg.invariant p tells) _ (sym is ∙ w.if-test.true) (w.algs-is ∙ w.with-algs.ensures.value)
      | else-test w ↦ w.algs-is ∙ no_more p i alg c.loop-alg-test.true (is_next i c.loop-alg-test.true)
          c.loop-alg.algs (c.loop-alg.invariant p tells) (sym is ∙ w.if-test.false)
    ]

pub returns : goal.returns
returns g c = λ p tells.
    all_passing p c.loop-alg.alg-index c.loop-alg.algs c.loop-alg-test.false (c.loop-alg.invariant p tells)
