use Rattle.bag_renew_cli.proofs.Common.{◌∙◌, ap, IfOk-weaker, App, app_of_fields, without_program_name, with_rules}
use Rattle.bag_renew_cli.proofs.Common.{manner_arguments, list_arguments, element_arguments, command}
use Rattle.bag_renew_cli.proofs.command.command.Goals as goal

pub returns : goal.returns
unfolding command
returns c =
    let base =
    ap app_of_fields c.no_binary_name-command.ensures
    ∙ ap without_program_name
    (ap app_of_fields c.after_help.ensures ∙ ap app_of_fields c.about.ensures ∙ c.new.ensures.app) in
    let with_manner =
    c.in_ok-command.ensures ∙ ap (λ (a : App). with_rules a manner_arguments) base in
    let with_list =
    c.in_ok-command-2.ensures
    ∙ ap (λ (a : App). with_rules a list_arguments) (ap app_of_fields c.next_help_heading.ensures ∙ with_manner)
    in
    IfOk-weaker c.with_element_arguments.result _ _
    (λ r h. h ∙ ap (λ (a : App). with_rules a element_arguments) with_list) c.with_element_arguments.ensures
