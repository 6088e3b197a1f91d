use Rattle.bag_arguments.proofs.Common.{refl, IfOk-weaker}
use Rattle.bag_words.proofs.Adding.{added}
use Rattle.bag_arguments.proofs.command.with_check_arguments.Goals as goal

pub returns : goal.returns
returns c =
    let one = added c.in_ok-arg.ensures c.check_flag.ensures.global refl c.check_flag.ensures.rule in
    let two = added c.in_ok-arg-2.ensures c.check_flag-2.ensures.global one c.check_flag-2.ensures.rule in
    let three = added c.in_ok-arg-3.ensures c.check_flag-3.ensures.global two c.check_flag-3.ensures.rule in
    let four = added c.in_ok-arg-4.ensures c.check_value.ensures.global three c.check_value.ensures.rule in
    let five = added c.in_ok-arg-5.ensures c.check_value-2.ensures.global four c.check_value-2.ensures.rule in
    let six = added c.in_ok-arg-6.ensures c.check_number.ensures.global five c.check_number.ensures.rule in
    IfOk-weaker c.arg-7.result _ _ (λ r h. added h c.check_flag-4.ensures.global six c.check_flag-4.ensures.rule)
    c.arg-7.ensures
