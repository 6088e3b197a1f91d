use Rattle.bag_program.proofs.Common.{◌≤◌, visits_of}
use Rattle.bag_program.proofs.Turns.{Looped}
use Rattle.bag_program.proofs.one_by_one.in_turn.Given as goal

abbrev pub invariant-loop-name : goal.invariant-loop-name
invariant-loop-name g l = record {
  most : l.greatest ≤ 3;
  turns :
      Looped (g.T.Turn.last l.each) (g.T.Turn.whole l.each) l.names (visits_of l.fn.visits)
      (g.O.Out.state l.fn.out) l.name-index (g.O.Out.state l.out) (visits_of l.visits) l.greatest;
}
