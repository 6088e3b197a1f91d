use Rattle.bag_report.proofs.ElementFaults.{no_elements}
use Rattle.bag_report.proofs.elements.elements_of.Goals as goal

pub returns-in-None : goal.returns-in-None
returns-in-None c = λ bag of deep. no_elements bag (c.in-None.ensures bag of deep)
