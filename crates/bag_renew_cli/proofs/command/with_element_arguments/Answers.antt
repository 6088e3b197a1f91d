use Rattle.bag_renew_cli.proofs.Common.{refl, IfOk-weaker, added}
use Rattle.bag_renew_cli.proofs.command.with_element_arguments.Goals as goal

pub returns : goal.returns
returns c =
    let one = added c.in_ok-arg.ensures c.several.ensures.global refl c.several.ensures.rule in
    let two = added c.in_ok-arg-2.ensures c.several-2.ensures.global one c.several-2.ensures.rule in
    IfOk-weaker c.arg-3.result _ _ (λ r h. added h c.several-3.ensures.global two c.several-3.ensures.rule)
    c.arg-3.ensures
