use Rattle.bag_cli.proofs.making_line.put_not_made.Goals as goal

pub returns-in-NoAlgorithm : goal.returns-in-NoAlgorithm
returns-in-NoAlgorithm g c = rw c.in-NoAlgorithm.is c.put_not_done.ensures

pub returns-in-InTheWay : goal.returns-in-InTheWay
returns-in-InTheWay g c = rw c.in-InTheWay.is c.put_not_done-in-InTheWay.ensures

pub returns-in-Memory : goal.returns-in-Memory
returns-in-Memory g c = rw c.in-Memory.is c.put_not_done-in-Memory.ensures
