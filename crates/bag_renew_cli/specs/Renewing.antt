-- What is done with one bag, and what is reported of it.
use Rattle.std.specs.Prelude.{ℕ, Bool, List, Result, IfErr, IfOk}
use Rattle.bag_tree.specs.Out.{OutState}
use Rattle.bag_tree.specs.Tree.{Keeps, TreeState}
use Rattle.bag_tree.specs.declared.file_change.FileChange.{FileChange}
use Rattle.bag_tree.specs.declared.out.Refused.{Refused}
use Rattle.bag_program.specs.FolderDeeds.{Reports}
use Rattle.bag_changes.specs.Openings.{OpensBefore, OpensForRenewal}
use Rattle.bag_changes.specs.Reading.{MayRefuseReading}
use Rattle.bag_renew.specs.Renew.{HasPlanned, IsRenewal}
use Rattle.bag_changes.specs.declared.fault.RenewFault.{RenewFault}
use Rattle.bag_renewed.specs.declared.renewal.Renewal.{Renewal}
use Rattle.bag_renew_cli.specs.PlannedLines.{planned_lines}
use Rattle.bag_renew_cli.specs.RenewalLine.{line, renewal_status}

abbrev pub ReportsRenewal : List ℕ → Result (Unit {0}) RenewFault → Bool
    → OutState → OutState → Result ℕ Refused → Type 0
ReportsRenewal name renewed quiet = Reports (line name renewed quiet) (renewal_status renewed)

-- the bag was renewed, or it wasn't, and that was reported under this name
pub record IsRenewing (name : List ℕ) (renewal : Renewal) (quiet : Bool)
    (old new : TreeState) (before after : OutState) (reported : Result ℕ Refused) : Type 0 where
  pub renewed : Result (Unit {0}) RenewFault
  pub is_renewal : IsRenewal renewal old new renewed
  pub reports : ReportsRenewal name renewed quiet before after reported

abbrev pub ReportsPlan : List ℕ → Result (List FileChange) RenewFault → Bool
    → OutState → OutState → Result ℕ Refused → Type 0
ReportsPlan name planned quiet = Reports (planned_lines name planned quiet) (renewal_status planned)

-- what would be put and removed, or why nothing is, was reported under this name; the bag stays as
-- it is, and files are opened as for a renewal
pub record IsDryRun (name : List ℕ) (renewal : Renewal) (quiet : Bool)
    (old new : TreeState) (before after : OutState) (reported : Result ℕ Refused) : Type 0 where
  pub planned : Result (List FileChange) RenewFault
  pub keeps : Keeps old new
  pub is_planned : IfOk planned (HasPlanned renewal old new)
  pub refused : IfErr planned (MayRefuseReading renewal old new)
  pub opens : OpensForRenewal renewal old new
  pub opens_before : IfErr planned (OpensBefore old new)
  pub reports : ReportsPlan name planned quiet before after reported
