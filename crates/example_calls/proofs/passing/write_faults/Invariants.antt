use Rattle.bag_tree.specs.Tree.{Keeps}
use Rattle.bag_sources.specs.Steps.{state}
use Rattle.example_calls.proofs.passing.write_faults.Given as goal

abbrev pub invariant-loop : goal.invariant-loop
invariant-loop g l = Keeps (state g.T.Tree g.S.Source l.initial.walk) (state g.T.Tree g.S.Source l.walk)
