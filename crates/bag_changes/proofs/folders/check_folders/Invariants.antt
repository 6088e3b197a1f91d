use Rattle.bag_changes.proofs.Common.{◌≡◌, ℕ, List, Contains, IsTrue, false, has_folder}
use Rattle.bag_tree.specs.Tree.{NothingFailed}
use Rattle.bag_changes.specs.Folders.{OpensNothing}
use Rattle.bag_changes.proofs.folders.check_folders.Given as goal

abbrev pub invariant-loop-name : goal.invariant-loop-name
invariant-loop-name g l =
    OpensNothing (g.T.Tree.state l.fn.tree) (g.T.Tree.state l.tree)
    × NothingFailed (g.T.Tree.state l.fn.tree) (g.T.Tree.state l.tree)
    × (IsTrue (g.T.Tree.state l.fn.tree).honest → (name : List ℕ) → Contains l.yielded name
    → has_folder (g.T.Tree.state l.fn.tree).bag name ≡ false)
