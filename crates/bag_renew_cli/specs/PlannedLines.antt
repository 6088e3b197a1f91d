-- The lines that say what a renewal would put and remove.
use Rattle.std.specs.Prelude.{ℕ, Bool, List, [], ◌++◌, Result, codes, if◌then◌else◌}
use Rattle.std.specs.declared.result.Result.TheVariants.{Ok, Err}
use Rattle.std.specs.List.{flat_map}
use Rattle.bag_faults.specs.FaultLine.{field}
use Rattle.bag_tree.specs.declared.file_change.FileChange.{FileChange}
use Rattle.bag_tree.specs.declared.file_change.FileChange.TheVariants.{Put, Remove}
use Rattle.bag_changes.specs.declared.fault.RenewFault.{RenewFault}
use Rattle.bag_renew_cli.specs.RenewalLine.{not_renewed_line, reason}

-- the line that says this of a file of the bag of this name, with its end
abbrev pub file_line : List ℕ → List ℕ → List ℕ → List ℕ
file_line name what file = (field name ++ what) ++ (field file ++ codes "\n")

-- what a change would do
abbrev pub change_line : List ℕ → FileChange → List ℕ
change_line name (Put file bytes) = file_line name (codes " would put ") file
change_line name (Remove file) = file_line name (codes " would remove ") file

-- the lines of changes, one after another
abbrev pub change_lines : List ℕ → List FileChange → List ℕ
change_lines name changes = flat_map (change_line name) changes

-- the lines of a plan, of which a quiet one has none; or why there is no plan
abbrev pub planned_lines : List ℕ → Result (List FileChange) RenewFault → Bool → List ℕ
planned_lines name (Ok changes) quiet = if quiet then [] else change_lines name changes
planned_lines name (Err fault) quiet = not_renewed_line name (reason fault)
