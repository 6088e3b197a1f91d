use Rattle.bag_renew_cli.proofs.Common.{command, rows_in}
use Rattle.bag_words.specs.declared.taking.Declined.TheVariants as declined
use Rattle.bag_renew_cli.proofs.Answering.{declined_answered, not_refused, plain, plans_not_refused, taken_answered}
use Rattle.bag_renew_cli.proofs.planning.renewal_of.Goals as goal

pub returns-in-Ok : goal.returns-in-Ok
returns-in-Ok c = record {
  planned =
      taken_answered _ c.in-Ok.matches c.plan_of_matches.result
      (c.in-Ok.ensures.taken command c.command.ensures plain) c.plan_of_matches.ensures;
  taken = λ _. plans_not_refused (rows_in c.in-Ok.matches) c.plan_of_matches.result c.plan_of_matches.ensures;
}

pub returns-in-Err-Help-clause-planned : goal.returns-in-Err-Help-clause-planned
returns-in-Err-Help-clause-planned c =
    rw c.plan_without_words.ensures
    (declined_answered _ (declined.Help c.in-Err-Help.text)
    (rw c.in-Err-Help.field-0-is at (c.in-Err-Help.ensures.taken command c.command.ensures plain)))

pub returns-in-Err-Refused-clause-planned : goal.returns-in-Err-Refused-clause-planned
returns-in-Err-Refused-clause-planned c =
    declined_answered _ (declined.Refused c.in-Err-Refused.text)
    (rw c.in-Err-Refused.field-0-is at (c.in-Err-Refused.ensures.taken command c.command.ensures plain))

pub returns-in-Err-Refused-clause-taken : goal.returns-in-Err-Refused-clause-taken
returns-in-Err-Refused-clause-taken c =
    not_refused _ c.in-Err-Refused.text
    (rw c.in-Err-Refused.field-0-is at (c.in-Err-Refused.ensures.memory command c.command.ensures))

pub returns-in-Err-Memory-clause-planned : goal.returns-in-Err-Memory-clause-planned
returns-in-Err-Memory-clause-planned c = declined_answered _ declined.Memory tt
