use Rattle.bag_tree.proofs.ChangingFiles.{lasts_by, lasts_resumed_by, outlasts_by, resumed_by}
use Rattle.bag_tree.proofs.changing_files.change_files.Goals as goal

pub returns-clause-any_moment : goal.returns-clause-any_moment
returns-clause-any_moment g c =
    outlasts_by c.args.beside.now c.args.changes.now (g.T.Tree.state c.args.tree.now)
    (g.T.Tree.state c.change_each.new.tree) c.requires.beside c.change_each.result c.change_each.ensures.changed
    c.change_each.ensures.stopped

pub returns-clause-lasting : goal.returns-clause-lasting
returns-clause-lasting g c =
    lasts_by c.args.beside.now c.args.changes.now (g.T.Tree.state c.args.tree.now)
    (g.T.Tree.state c.change_each.new.tree) c.requires.beside c.change_each.result c.change_each.ensures.changed

pub returns-clause-resumed : goal.returns-clause-resumed
returns-clause-resumed g c =
    resumed_by c.args.beside.now c.args.changes.now (g.T.Tree.state c.args.tree.now)
    (g.T.Tree.state c.change_each.new.tree) c.requires.beside c.change_each.result c.change_each.ensures.changed
    c.change_each.ensures.stopped

pub returns-clause-resumed_lasting : goal.returns-clause-resumed_lasting
returns-clause-resumed_lasting g c =
    lasts_resumed_by c.args.beside.now c.args.changes.now (g.T.Tree.state c.args.tree.now)
    (g.T.Tree.state c.change_each.new.tree) c.requires.beside c.change_each.result c.change_each.ensures.changed
