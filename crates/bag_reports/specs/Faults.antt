-- Lines of faults that are written in order, in several reports one after the other.
use Rattle.std.specs.Prelude.{ℕ, ◌≡◌, ◌≢◌, ◌++◌, List, [], ◌∷◌, Option, None, Some, ⊤, length}
use Rattle.std.specs.Io.KnownBytes.{Appends}
use Rattle.std.specs.List.{concat}
use Rattle.std.specs.declared.cmp.Ordering.TheVariants.{Less}
use Rattle.bag_tree.specs.Out.{IsCut, OutState}
use Rattle.bag_faults.specs.FaultOrder.{fault_cmp}
use Rattle.bag_faults.specs.LineOf.{IsFault, IsLineOf}
use Rattle.bag_faults.specs.declared.fault.Fault.{Fault}
use Rattle.bag_reports.specs.Input.{HasNoEnd, HoldsAhead}
use Rattle.bag_reports.specs.Reports.{ReportsState}
use Rattle.bag_reports.specs.declared.refusal.Cause.{Cause}
use Rattle.bag_reports.specs.declared.refusal.Cause.TheVariants.{Output}
use Rattle.bag_walk.specs.Ending.{written}

-- a fault stands after the last one, if there is one
abbrev pub IsAfter : Option Fault → Fault → Type 0
IsAfter None f = ⊤
IsAfter (Some g) f = fault_cmp g f ≡ Less

-- each of these is a fault, and stands after the one before it, the first after the last one
abbrev pub AreAfter : Option Fault → List Fault → Type 0
AreAfter last [] = ⊤
AreAfter last (f ∷ rest) = IsFault f × IsAfter last f × AreAfter (Some f) rest

-- the last of these, or the last one before them where there are none
abbrev pub last_of : Option Fault → List Fault → Option Fault
last_of last [] = last
last_of last (f ∷ rest) = last_of (Some f) rest

-- these n faults stand in order after the last one, and their lines were written
pub record WritesFaults (last new_last : Option Fault) (before after : OutState) (n : ℕ)
    (faults : List Fault) : Type 0 where
  pub in_order : AreAfter last faults
  pub last_is : new_last ≡ last_of last faults
  pub count : n ≡ length faults
  pub wrote : Appends before.taken after.taken (concat (written faults))

-- a line, without its end, that is no fault's
pub record IsOther (line : List ℕ) : Type 0 where
  pub plain : HasNoEnd line
  pub other : (f : Fault) → ¬ (IsLineOf line f)

-- the open report holds the lines of these faults, and then this line and what stands after it
abbrev pub AreAhead : ReportsState → List ℕ → List Fault → List ℕ → List ℕ → Type 0
AreAhead state passed faults line rest =
    HoldsAhead state passed (concat (written faults) ++ (line ++ 10 ∷ rest))

-- After a refusal the output has the lines of some faults, which stand in order after the last one:
-- all of these lines, or a proper prefix of them where it refused itself.
pub record LeavesLines (cause : Cause) (last : Option Fault) (before after : OutState) : Type 0 where
  pub faults : List Fault
  pub in_order : AreAfter last faults
  pub whole : cause ≢ Output → Appends before.taken after.taken (concat (written faults))
  pub cut : cause ≡ Output → IsCut before.taken after.taken (concat (written faults))
