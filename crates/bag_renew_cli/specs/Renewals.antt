-- What is done with the bags of a plan, and the exit status.
use Rattle.std.specs.Prelude.{ℕ, List}
use Rattle.bag_tree.specs.Tree.{TreeState}
use Rattle.bag_store.specs.FileTree.{tree_state}
use Rattle.bag_program.specs.FolderDeeds.{AreDoneWith, TreeDeed}
use Rattle.bag_program.specs.InTurn.{Deed}
use Rattle.bag_program.specs.Deeds.{Below, IsSaid}
use Rattle.bag_renew_cli.specs.Printing.{IsPrinting}
use Rattle.bag_renew_cli.specs.Renewing.{IsDryRun, IsRenewing}
use Rattle.bag_renew_cli.specs.declared.plan.BagAction.{BagAction}
use Rattle.bag_renew_cli.specs.declared.plan.BagAction.TheVariants.{Renew, DryRun, Print}
use Rattle.bag_renew_cli.specs.declared.plan.RenewAction.{RenewAction}
use Rattle.bag_renew_cli.specs.declared.plan.RenewAction.TheVariants.{Help, Bags}
use Rattle.bag_renew_cli.specs.declared.plan.RenewPlan.{RenewPlan}

-- this was done with a bag by a plan, and reported under its name
abbrev pub IsDone : RenewPlan → BagAction → TreeDeed
IsDone plan Renew name = IsRenewing name plan.renewal plan.quiet
IsDone plan DryRun name = IsDryRun name plan.renewal plan.quiet
IsDone plan (Print alg) name = IsPrinting alg

-- it was done with the folders of these names in the trees that they name, one after the other
abbrev pub AreDone : RenewPlan → BagAction → (List ℕ → TreeState) → List (List ℕ) → Deed
AreDone plan action = AreDoneWith (IsDone plan action)

-- it was done with the folders of a plan, on disks that hold this below each base folder
abbrev pub AreDoneOn : Below → RenewPlan → BagAction → Deed
AreDoneOn below plan action =
    AreDone plan action (λ name. tree_state (below name) 0) plan.directories

-- this was done for a plan, on disks that hold this below each base folder
abbrev pub IsDoneBy : RenewAction → Below → RenewPlan → Deed
IsDoneBy (Help text) below plan before after visits n = IsSaid text before after visits n
IsDoneBy (Bags action) below plan before after visits n =
    AreDoneOn below plan action before after visits n

-- what a plan says was done, on disks that hold this below each base folder
abbrev pub IsPerformed : Below → RenewPlan → Deed
IsPerformed below plan before after visits n =
    IsDoneBy plan.action below plan before after visits n
