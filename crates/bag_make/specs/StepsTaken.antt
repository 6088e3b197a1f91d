-- What taking steps promises.
use Rattle.std.specs.Prelude.{◌≢◌, IsTrue, Result, MatchResult, ⊤}
use Rattle.bag_text.specs.Path.{is_base_name}
use Rattle.bag_tree.specs.Asked.{Adds}
use Rattle.bag_tree.specs.Tree.{TreeState}
use Rattle.bag_tree.specs.declared.tree_fault.TreeFault.{TreeFault}
use Rattle.bag_tree.specs.Changes.{AppliesStep}
use Rattle.bag_make.specs.declared.step.Step.{Step}
use Rattle.bag_make.specs.declared.step.Step.TheVariants.{MakeFolder, MoveIn, Rename, Create}
use Rattle.bag_make.specs.Steps.{new_folder, change, more, StepAsks, RefusedAsks}

-- its names are names in the base folder, and the folder for the files isn't moved into itself
abbrev pub IsStep : Step → Type 0
IsStep MakeFolder = ⊤
IsStep (MoveIn top) = IsTrue (is_base_name top) × (top ≢ new_folder)
IsStep Rename = ⊤
IsStep (Create name bytes) = IsTrue (is_base_name name)

-- what a step asked of a device that notes what it does
abbrev pub HasAsked : Step → TreeState → TreeState → Result (Unit {0}) TreeFault → Type 0
HasAsked step old new result =
    IsTrue old.noted → MatchResult result
    (λ _. Adds (StepAsks step) old.trail new.trail)
    (λ _. Adds (RefusedAsks step) old.trail new.trail)

-- the step was taken
abbrev pub HasDone : Step → TreeState → TreeState → Type 0
HasDone step old new = AppliesStep (change step) (more step) old new
