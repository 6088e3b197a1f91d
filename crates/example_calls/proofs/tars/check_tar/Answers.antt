use Rattle.std.proofs.Common.{subst, sym}
use Rattle.bag_tar.specs.Tar.{IsTarOf}
use Rattle.example_calls.proofs.tars.check_tar.Goals as goal

pub returns-in-Ok-clause-bag : goal.returns-in-Ok-clause-bag
returns-in-Ok-clause-bag g c h =
    subst (IsTarOf (g.B.Archive.state c.args.archive).bytes) (sym c.run-tree.ensures.run.keeps.bag)
    (c.in-Ok.ensures.bag h)
