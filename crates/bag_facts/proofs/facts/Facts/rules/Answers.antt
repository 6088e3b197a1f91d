use Rattle.bag_facts.proofs.Common.{◌∙◌}
use Rattle.bag_facts.proofs.RulesRead.{rules_told, rules_untold}
use Rattle.bag_facts.proofs.facts.Facts.rules.Goals as goal

pub returns-in-Some : goal.returns-in-Some
returns-in-Some c = λ bag facts.
    c.rules_declared.ensures ∙ rules_told bag c.in-Some.declaration.now (c.in-Some.ensures bag facts)

pub returns-in-None : goal.returns-in-None
returns-in-None c = λ bag facts. rules_untold bag (c.in-None.ensures bag facts)
