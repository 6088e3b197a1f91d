-- The line that says how making a bag went, and the exit status.
use Rattle.std.specs.Prelude.{ℕ, Bool, List, ◌++◌, Result, codes, decimal}
use Rattle.std.specs.declared.result.Result.TheVariants.{Ok, Err}
use Rattle.bag_tree.specs.Tree.{cause_word}
use Rattle.bag_tree.specs.declared.tree_fault.TreeFault.{TreeFault}
use Rattle.bag_make.specs.declared.fault.MakeFault.{MakeFault}
use Rattle.bag_make.specs.declared.fault.MakeFault.TheVariants.{NoAlgorithm, InTheWay, BadValue}
use Rattle.bag_make.specs.declared.fault.MakeFault.TheVariants.{ReadStopped, Memory, StepRefused}
use Rattle.bag_program.specs.EndedLine.{done_line, not_done_line, refusal}

-- the step that was refused, from 1, and the cause
abbrev pub refused_step : ℕ → TreeFault → List ℕ
refused_step place cause = codes "step " ++ (decimal place ++ (codes " " ++ cause_word cause))

-- why a bag wasn't made
abbrev pub reason : MakeFault → List ℕ
reason NoAlgorithm = codes "no algorithm"
reason InTheWay = codes ".bagit-new is there"
reason BadValue = codes "bad value"
reason (ReadStopped stop) = refusal (codes "read") stop.path stop.cause
reason Memory = codes "out of memory"
reason (StepRefused place cause) = refused_step place cause

-- the bag of this name was made; nothing of a quiet making
abbrev pub made_line : List ℕ → Bool → List ℕ
made_line name quiet = done_line name (codes " made") quiet

-- the bag of this name wasn't made, for this reason
abbrev pub not_made_line : List ℕ → List ℕ → List ℕ
not_made_line name why = not_done_line name (codes " not made: ") why

-- the line with its end
abbrev pub line : List ℕ → Result (Unit {0}) MakeFault → Bool → List ℕ
line name (Ok _) quiet = made_line name quiet
line name (Err fault) quiet = not_made_line name (reason fault)

-- the exit status
abbrev pub making_status : Result (Unit {0}) MakeFault → ℕ
making_status (Ok _) = 0
making_status (Err fault) = 3
