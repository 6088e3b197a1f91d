use Rattle.std.proofs.lemmas.Grind.{common_steps}
use Rattle.bag_arguments.proofs.Common.{arith, ◌≡◌, ◌≢◌, ◌==◌, List, [], Bool, false, map, length, Bor, Text}
use Rattle.bag_arguments.proofs.Common.{command}
use Rattle.bag_words.specs.declared.taking.Declined.TheVariants as declined
use Rattle.bag_arguments.proofs.Answering.{declined_answered, not_refused, plain, taken_answered}
use Rattle.bag_arguments.proofs.Limits.{limit_of}
use Rattle.bag_arguments.proofs.planning.plan_of.Goals as goal

some_words : (words : List (Bor Text)) (is_empty : Bool) → is_empty ≡ (length words == 0) → is_empty ≡ false
    → map (λ word. word.now) words ≢ []
some_words words is_empty is_not_empty e = grind (arith, common_steps)

pub plan_of_matches-requires : goal.plan_of_matches-requires
plan_of_matches-requires c = limit_of c.command.result c.in-Ok.matches c.command.ensures c.in-Ok.ensures.parsed

pub returns-in-Ok-clause-planned : goal.returns-in-Ok-clause-planned
returns-in-Ok-clause-planned c =
    taken_answered _ (some_words c.args.words.now c.is_empty.result c.is_empty.ensures c.if-is_empty.false)
    c.in-Ok.matches c.plan_of_matches.result (c.in-Ok.ensures.taken command c.command.ensures plain)
    c.plan_of_matches.ensures

pub returns-in-Err-Help-clause-planned : goal.returns-in-Err-Help-clause-planned
returns-in-Err-Help-clause-planned c =
    rw c.plan_without_words-in-Err-Help.ensures
    (declined_answered _ (some_words c.args.words.now c.is_empty.result c.is_empty.ensures c.if-is_empty.false)
    (declined.Help c.in-Err-Help.text)
    (rw c.in-Err-Help.field-0-is at (c.in-Err-Help.ensures.taken command c.command.ensures plain)))

pub returns-in-Err-Refused-clause-planned : goal.returns-in-Err-Refused-clause-planned
returns-in-Err-Refused-clause-planned c =
    declined_answered _ (some_words c.args.words.now c.is_empty.result c.is_empty.ensures c.if-is_empty.false)
    (declined.Refused c.in-Err-Refused.text)
    (rw c.in-Err-Refused.field-0-is at (c.in-Err-Refused.ensures.taken command c.command.ensures plain))

pub returns-in-Err-Refused-clause-taken : goal.returns-in-Err-Refused-clause-taken
returns-in-Err-Refused-clause-taken c =
    not_refused _ c.in-Err-Refused.text
    (rw c.in-Err-Refused.field-0-is at (c.in-Err-Refused.ensures.memory command c.command.ensures))

pub returns-in-Err-Memory-clause-planned : goal.returns-in-Err-Memory-clause-planned
returns-in-Err-Memory-clause-planned c =
    declined_answered _ (some_words c.args.words.now c.is_empty.result c.is_empty.ensures c.if-is_empty.false)
    declined.Memory tt
