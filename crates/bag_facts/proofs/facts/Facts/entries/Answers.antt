use Rattle.bag_facts.proofs.Common.{arith}
use Rattle.bag_facts.proofs.Entries.{entries_read, nothing_read}
use Rattle.bag_facts.proofs.facts.Facts.entries.Goals as goal

pub returns-in-Some-clause-entries : goal.returns-in-Some-clause-entries
returns-in-Some-clause-entries c = λ bag facts deep. grind (arith, entries_read)

pub returns-in-None-clause-entries : goal.returns-in-None-clause-entries
returns-in-None-clause-entries c = λ bag facts deep. grind (arith, nothing_read)
