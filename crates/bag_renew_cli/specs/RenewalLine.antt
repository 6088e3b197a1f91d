-- The line that says how renewing a bag went, and the exit status.
use Rattle.std.specs.Prelude.{ℕ, Bool, List, ◌++◌, Result, codes}
use Rattle.std.specs.declared.result.Result.TheVariants.{Ok, Err}
use Rattle.bag_faults.specs.FaultLine.{fault_line, field}
use Rattle.bag_faults.specs.declared.fault.Fault.{Fault}
use Rattle.bag_changes.specs.declared.fault.RenewFault.{RenewFault}
use Rattle.bag_changes.specs.declared.fault.RenewFault.TheVariants as why
use Rattle.bag_program.specs.EndedLine.{done_line, not_done_line, refusal}

-- what is said of a path
abbrev pub about_path : List ℕ → List ℕ → List ℕ
about_path path said = field path ++ said

-- the bag has this fault
abbrev pub faulty : Fault → List ℕ
faulty fault = codes "fault " ++ fault_line fault

-- why a bag wasn't renewed
abbrev pub reason : RenewFault → List ℕ
reason (why.Faulty fault) = faulty fault
reason why.BadValue = codes "bad value"
reason why.NoAlgorithm = codes "no algorithm"
reason (why.InTheWay path) = about_path path (codes " in the way")
reason (why.Unnameable path) = about_path path (codes " can't be named")
reason (why.Outdated path) = about_path path (codes " would be out of date")
reason (why.Unlisted path) = about_path path (codes " would be in no manifest")
reason why.Fetch = codes "fetch.txt"
reason (why.ReadStopped stop) = refusal (codes "read") stop.path stop.cause
reason why.Memory = codes "out of memory"
reason (why.PutRefused file cause) = refusal (codes "put") file cause
reason (why.RemoveRefused file cause) = refusal (codes "remove") file cause

-- the bag of this name wasn't renewed, for this reason
abbrev pub not_renewed_line : List ℕ → List ℕ → List ℕ
not_renewed_line name why = not_done_line name (codes " not renewed: ") why

-- the line with its end; nothing of a quiet renewal where the bag was renewed
abbrev pub line : List ℕ → Result (Unit {0}) RenewFault → Bool → List ℕ
line name (Ok _) quiet = done_line name (codes " renewed") quiet
line name (Err fault) quiet = not_renewed_line name (reason fault)

-- the exit status, also of what would be done
abbrev pub renewal_status : {T : Type 0} → Result T RenewFault → ℕ
renewal_status (Ok _) = 0
renewal_status (Err (why.Faulty fault)) = 1
renewal_status (Err fault) = 3
