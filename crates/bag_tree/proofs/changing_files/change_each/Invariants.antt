use Rattle.bag_tree.proofs.Common.{take}
use Rattle.bag_tree.specs.ChangeFiles.{HasChanged}
use Rattle.bag_tree.proofs.changing_files.change_each.Given as goal

abbrev pub invariant-loop-place : goal.invariant-loop-place
invariant-loop-place g l = let state = g.T.Tree.state
    in HasChanged l.beside (take l.place l.changes) (state l.fn.tree) (state l.tree)
