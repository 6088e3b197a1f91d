use Rattle.bag_renew_cli.proofs.Common.{refl, IfOk-weaker, added}
use Rattle.bag_renew_cli.proofs.command.with_manner_arguments.Goals as goal

pub returns : goal.returns
returns c =
    let one = added c.in_ok-arg.ensures c.flag.ensures.global refl c.flag.ensures.rule in
    let two = added c.in_ok-arg-2.ensures c.option.ensures.global one c.option.ensures.rule in
    let three = added c.in_ok-arg-3.ensures c.flag-2.ensures.global two c.flag-2.ensures.rule in
    IfOk-weaker c.arg-4.result _ _ (λ r h. added h c.operands.ensures.global three c.operands.ensures.rule)
    c.arg-4.ensures
