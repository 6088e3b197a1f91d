use Rattle.bag_renew_cli.proofs.Common.{refl, IfOk-weaker, added}
use Rattle.bag_renew_cli.proofs.command.with_list_arguments.Goals as goal

pub returns : goal.returns
returns c =
    let one = added c.in_ok-arg.ensures c.option.ensures.global refl c.option.ensures.rule in
    let two = added c.in_ok-arg-2.ensures c.option-2.ensures.global one c.option-2.ensures.rule in
    let three = added c.in_ok-arg-3.ensures c.flag.ensures.global two c.flag.ensures.rule in
    IfOk-weaker c.arg-4.result _ _ (λ r h. added h c.flag-2.ensures.global three c.flag-2.ensures.rule)
    c.arg-4.ensures
