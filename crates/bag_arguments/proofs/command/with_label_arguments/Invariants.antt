use Rattle.bag_arguments.proofs.Common.{◌≡◌, fold, take, App, app_of, with_rule, option_rule, label_option, Label}
use Rattle.bag_arguments.proofs.command.with_label_arguments.Given as goal

abbrev pub invariant-loop-label : goal.invariant-loop-label
invariant-loop-label l =
    app_of l.extended
    ≡ fold (λ (a : App) (label : Label). with_rule a (option_rule (label_option label))) (app_of l.initial.extended)
    (take l.label-index l.labels)
