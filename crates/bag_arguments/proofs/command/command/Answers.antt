use Rattle.bag_arguments.proofs.Common.{◌∙◌, ap, IfOk-weaker, App, app_of_fields, without_program_name, with_rules}
use Rattle.bag_arguments.proofs.Common.{main_arguments, check_arguments, word_arguments, alg_arguments}
use Rattle.bag_arguments.proofs.Common.{label_arguments, command}
use Rattle.bag_arguments.proofs.command.command.Goals as goal

pub returns : goal.returns
unfolding command
returns c =
    let base =
    ap app_of_fields c.no_binary_name-command.ensures
    ∙ ap without_program_name
    (ap app_of_fields c.after_help.ensures ∙ ap app_of_fields c.about.ensures ∙ c.new.ensures.app) in
    let with_main = c.in_ok-command.ensures ∙ ap (λ (a : App). with_rules a main_arguments) base in
    let with_check =
    c.in_ok-command-2.ensures
    ∙ ap (λ (a : App). with_rules a check_arguments) (ap app_of_fields c.next_help_heading.ensures ∙ with_main)
    in
    let with_word = c.in_ok-command-3.ensures ∙ ap (λ (a : App). with_rules a word_arguments) with_check in
    let with_alg =
    c.in_ok-command-4.ensures
    ∙ ap (λ (a : App). with_rules a alg_arguments) (ap app_of_fields c.next_help_heading-2.ensures ∙ with_word)
    in
    IfOk-weaker c.with_label_arguments.result _ _
    (λ r h. h ∙ ap (λ (a : App). with_rules a label_arguments)
    (ap app_of_fields c.next_help_heading-3.ensures ∙ with_alg)) c.with_label_arguments.ensures
