use Rattle.bag_cli.proofs.Common.{arith, ℕ, List, Result, OutState, Refused, Writes, Says}
use Rattle.bag_cli.proofs.profile_refusal.say_fault.Goals as goal

-- what is said is written, or refused
says_of : (before after : OutState) (text : List ℕ) (result : Result (Unit {0}) Refused)
    → Writes before after text result → Says before after text
says_of before after text result writes = grind arith

pub returns-in-WrongShape : goal.returns-in-WrongShape
returns-in-WrongShape g c =
    rw (c.in-WrongShape.is, ← c.name.ensures)
    (says_of (g.E.Out.state c.args.err.now) (g.E.Out.state c.put_wrong_shape.new.err) _ c.put_wrong_shape.result
    c.put_wrong_shape.ensures)

pub returns-in-NotJson : goal.returns-in-NotJson
returns-in-NotJson g c = rw c.in-NotJson.is c.say_reason.ensures

pub returns-in-NoIdentifier : goal.returns-in-NoIdentifier
returns-in-NoIdentifier g c = rw c.in-NoIdentifier.is c.say_reason-in-NoIdentifier.ensures

pub returns-in-Memory : goal.returns-in-Memory
returns-in-Memory g c = rw c.in-Memory.is c.say_on.ensures
