use Rattle.bag_renew_cli.proofs.words_refusal.say_usage.Goals as goal

pub returns-in-NotAnElement : goal.returns-in-NotAnElement
returns-in-NotAnElement g c = rw c.in-NotAnElement.is (rw c.name.ensures at c.say_on-in-NotAnElement.ensures)

pub returns-in-NotAlgorithms : goal.returns-in-NotAlgorithms
returns-in-NotAlgorithms g c =
    rw c.in-NotAlgorithms.is (rw c.name-in-NotAlgorithms.ensures at c.say_on-in-NotAlgorithms.ensures)

pub returns-in-Memory : goal.returns-in-Memory
returns-in-Memory g c = rw c.in-Memory.is c.say_on-in-Memory.ensures
