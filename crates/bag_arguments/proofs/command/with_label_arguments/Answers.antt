use Rattle.bag_arguments.proofs.Common.{arith, take_all, fold_more, app_of, option_rule, label_option, Label}
use Rattle.bag_words.proofs.Adding.{added, with_rules-map}
use Rattle.bag_arguments.proofs.command.with_label_arguments.Goals as goal

pub loop-label-preserved : goal.loop-label-preserved
loop-label-preserved c = grind (arith, added, fold_more)

pub returns : goal.returns
returns c =
    rw (
      take_all c.loop-label.label-index c.args.labels.now (omega arith),
      with_rules-map (λ (label : Label). option_rule (label_option label)) (app_of c.args.command) c.args.labels.now,
    ) at
    c.loop-label.invariant
