use Rattle.bag_facts.proofs.StoppingAmong.{stop_of_refusal}
use Rattle.bag_make.proofs.summed.append_summed.Goals as goal

pub returns-in-Err-clause-stop : goal.returns-in-Err-clause-stop
returns-in-Err-clause-stop g c =
    stop_of_refusal c.args.entry.now (g.T.Tree.state c.args.tree.now) (g.T.Tree.state c.digest_file.new.tree)
    c.in-Err.cause c.of_file.result
    c.in-Err.ensures.refused c.in-Err.ensures.answered c.in-Err.ensures.refused_at
    (rw c.in-Ok.ensures at c.of_file.ensures)
