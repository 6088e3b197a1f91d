use Rattle.bag_arguments.proofs.Common.{◌≡◌, fold, take, name, Alg, App, app_of, with_rule, flag_rule}
use Rattle.bag_arguments.proofs.command.with_alg_arguments.Given as goal

abbrev pub invariant-loop-alg : goal.invariant-loop-alg
invariant-loop-alg l =
    app_of l.extended
    ≡ fold (λ (a : App) (alg : Alg). with_rule a (flag_rule (name alg))) (app_of l.initial.extended)
    (take l.alg-index l.alg-items)
