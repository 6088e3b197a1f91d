use Rattle.bag_arguments.proofs.Common.{◌∙◌, sym, arith, take_all, fold_more, algs, name, Alg, app_of, flag_rule}
use Rattle.bag_words.proofs.Adding.{added, with_rules-map}
use Rattle.bag_arguments.proofs.command.with_alg_arguments.Goals as goal

pub loop-alg-preserved : goal.loop-alg-preserved
loop-alg-preserved c =
    added c.in_ok-extended.ensures c.alg_argument.ensures.global c.loop-alg.invariant c.alg_argument.ensures.rule
    ∙ sym (fold_more _ (app_of c.args.command) algs c.loop-alg.alg-index _ (omega arith))

pub returns : goal.returns
returns c =
    rw (
      take_all c.loop-alg.alg-index algs (omega arith),
      with_rules-map (λ (alg : Alg). flag_rule (name alg)) (app_of c.args.command) algs,
    ) at c.loop-alg.invariant
