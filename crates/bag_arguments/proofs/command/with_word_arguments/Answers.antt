use Rattle.bag_arguments.proofs.Common.{refl, IfOk-weaker}
use Rattle.bag_words.proofs.Adding.{added}
use Rattle.bag_arguments.proofs.command.with_word_arguments.Goals as goal

pub returns : goal.returns
returns c =
    let one = added c.in_ok-arg.ensures c.check_value.ensures.global refl c.check_value.ensures.rule in
    let two = added c.in_ok-arg-2.ensures c.check_flag.ensures.global one c.check_flag.ensures.rule in
    IfOk-weaker c.arg-3.result _ _ (λ r h. added h c.check_flag-2.ensures.global two c.check_flag-2.ensures.rule)
    c.arg-3.ensures
