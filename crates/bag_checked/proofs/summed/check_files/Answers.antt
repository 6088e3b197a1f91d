use Rattle.bag_checked.proofs.Common.{subst}
use Rattle.std.specs.Prelude.{IfErr, IfOk}
use Rattle.bag_checked.specs.InTurn.{OpensFirstToRead}
use Rattle.bag_checked.specs.OneReading.{AreLeftUnchecked}
use Rattle.bag_checked.specs.Summed.{AreGivenAndChecked, to_read}
use Rattle.bag_checked.proofs.summed.check_files.Goals as goal

pub returns-clause-checked : goal.returns-clause-checked
returns-clause-checked g c =
    subst (λ files. IfOk c.check_each.result (λ checked.
    AreGivenAndChecked (g.T.Tree.state c.args.tree.now) (g.T.Tree.state c.check_each.new.tree) c.args.facts.now
    (to_read c.args.with_payload files) c.args.algs
    checked.summed.items checked.info))
    c.files.ensures c.check_each.ensures.checked

pub returns-clause-unchecked : goal.returns-clause-unchecked
returns-clause-unchecked g c =
    subst (λ files. IfErr c.check_each.result (AreLeftUnchecked c.args.facts.now (to_read c.args.with_payload files)
    (g.T.Tree.state c.args.tree.now) (g.T.Tree.state c.check_each.new.tree)))
    c.files.ensures c.check_each.ensures.unchecked

pub returns-clause-opens : goal.returns-clause-opens
returns-clause-opens g c =
    subst (λ files. OpensFirstToRead c.args.with_payload files (g.T.Tree.state c.args.tree.now)
    (g.T.Tree.state c.check_each.new.tree))
    c.files.ensures c.check_each.ensures.opens
