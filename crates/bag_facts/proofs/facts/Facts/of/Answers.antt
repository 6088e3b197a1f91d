use Rattle.bag_facts.proofs.facts.Facts.of.Goals as goal

pub returns-clause-tags : goal.returns-clause-tags
returns-clause-tags c = (
  c.rules_read-rules.result,
  rw c.as_slice.ensures.value at c.rules_read-rules.ensures,
  c.in_ok-parse_all.ensures,
)
