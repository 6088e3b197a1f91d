-- Making a folder a bag, and what is reported of it.
use Rattle.std.specs.Prelude.{ℕ, Bool, List, Result}
use Rattle.bag_text.specs.declared.alg.Alg.{Alg}
use Rattle.bag_tree.specs.Out.{OutState}
use Rattle.bag_tree.specs.Tree.{TreeState}
use Rattle.bag_tree.specs.declared.out.Refused.{Refused}
use Rattle.bag_tags.specs.Element.{NewElement}
use Rattle.bag_make.specs.WholeMaking.{IsMake}
use Rattle.bag_make.specs.declared.fault.MakeFault.{MakeFault}
use Rattle.bag_program.specs.FolderDeeds.{Reports}
use Rattle.bag_cli.specs.MakingLine.{line, making_status}

-- the line was written, or the output refused it
abbrev pub ReportsMaking : List ℕ → Result (Unit {0}) MakeFault → Bool
    → OutState → OutState → Result ℕ Refused → Type 0
ReportsMaking name made quiet = Reports (line name made quiet) (making_status made)

-- the folder was made a bag, or it wasn't, and that was reported under this name
pub record IsMaking (name : List ℕ) (algs : List Alg) (info : List NewElement) (quiet : Bool)
    (old new : TreeState) (before after : OutState) (reported : Result ℕ Refused) : Type 0 where
  pub made : Result (Unit {0}) MakeFault
  pub make : IsMake algs info old new made
  pub reports : ReportsMaking name made quiet before after reported
