use Rattle.bag_facts.proofs.Common.{AreParsed}
use Rattle.bag_facts.proofs.facts.parse_all.Given as goal

abbrev pub invariant-loop-file : goal.invariant-loop-file
invariant-loop-file l = AreParsed l.fn.rules l.yielded l.tags
