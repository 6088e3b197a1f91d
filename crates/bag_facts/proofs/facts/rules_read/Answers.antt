use Rattle.bag_facts.proofs.Common.{inl, inr, refl}
use Rattle.bag_facts.proofs.facts.rules_read.Goals as goal

pub returns-in-Some : goal.returns-in-Some
returns-in-Some c = inr (
  c.in-Some.file.now,
  c.in-Some.ensures.0,
  c.in-Some.ensures.1,
  rw c.as_slice.ensures.value at c.declared_rules.ensures,
)

pub returns-in-None : goal.returns-in-None
returns-in-None c = inl (c.in-None.ensures, refl)
