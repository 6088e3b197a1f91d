use Rattle.bag_walk.proofs.Common.{ap}
use Rattle.bag_walk.proofs.PartRuns.{part_faults}
use Rattle.bag_walk.proofs.part_run.run_part.Goals as goal

pub returns-clause-run : goal.returns-clause-run
returns-clause-run g c =
    let then = c.lines_of_part-tree in
    record {
      keeps = then.ensures.keeps;
      untouched = λ none. ap g.T.Tree.state (then.ensures.untouched none);
      segment = then.result.1.segment;
      opens = then.ensures.opens;
      stopped = then.ensures.stopped;
      unlooked = then.ensures.unlooked;
      no_failure = then.ensures.no_failure;
      plain = then.ensures.plain;
      stop = then.ensures.stop;
      lines = g.W.Out.state then.new.out;
      wrote = then.ensures.unseen;
      faults = part_faults _ _ _ _ _ _ _ then.ensures.of_one_bag;
      of_one_bag = then.ensures.of_one_bag;
      listed = then.result.1.listed;
      counts = then.ensures.listed;
      closes = rw c.part_outcome-ending.ensures at c.close_part-outcome.ensures;
    }
