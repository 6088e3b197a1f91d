-- What is done where folders are made bags, and the exit status.
use Rattle.std.specs.Prelude.{ℕ, List}
use Rattle.bag_tree.specs.Tree.{TreeState}
use Rattle.bag_program.specs.FolderDeeds.{AreDoneWith, TreeDeed}
use Rattle.bag_program.specs.InTurn.{Deed}
use Rattle.bag_cli.specs.Making.{IsMaking}
use Rattle.bag_arguments.specs.declared.plan.Plan.{Plan}

-- a folder was made a bag by a plan, or wasn't, and that was reported
abbrev pub IsMakingBy : Plan → TreeDeed
IsMakingBy plan name = IsMaking name plan.algs plan.info plan.quiet

-- the makings of the folders of these names in the trees that they name, one after the other
abbrev pub AreMakingsOf : Plan → (List ℕ → TreeState) → List (List ℕ) → Deed
AreMakingsOf plan = AreDoneWith (IsMakingBy plan)
