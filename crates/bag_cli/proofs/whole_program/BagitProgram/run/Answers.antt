use Rattle.bag_cli.proofs.Common.{arith, [], refl, sym, append-nil, Err, visits_of}
use Rattle.bag_cli.proofs.whole_program.BagitProgram.run.Goals as goal

pub returns-in-Ok : goal.returns-in-Ok
returns-in-Ok g c = grind arith

pub returns-in-Err : goal.returns-in-Err
returns-in-Err g c = (
  [],
  sym (append-nil (visits_of c.args.visits.now)),
  record {
    planned = Err c.in-Err.refused;
    is_planned = c.in-Err.ensures.planned;
    taken = c.in-Err.ensures.taken;
    done = (c.refuse_words.ensures.status, refl, refl);
  },
)
