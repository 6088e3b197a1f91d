use Rattle.bag_arguments.proofs.Common.{refl, IfOk-weaker}
use Rattle.bag_words.proofs.Adding.{added}
use Rattle.bag_arguments.proofs.command.with_main_arguments.Goals as goal

pub returns : goal.returns
returns c =
    let one = added c.in_ok-arg.ensures c.flag.ensures.global refl c.flag.ensures.rule in
    let two = added c.in_ok-arg-2.ensures c.flag-2.ensures.global one c.flag-2.ensures.rule in
    IfOk-weaker c.arg-3.result _ _ (λ r h. added h c.operands.ensures.global two c.operands.ensures.rule)
    c.arg-3.ensures
