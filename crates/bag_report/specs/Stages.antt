-- What a stage finds, whether or not it is asked for.
use Rattle.std.specs.Prelude.{ℕ, ◌≡◌, Bool, true, Option, List}
use Rattle.bag_text.specs.Code.{stage}
use Rattle.bag_text.specs.declared.code.Code.TheVariants.{NameClash}
use Rattle.bag_tree.specs.Bag.{Bag}
use Rattle.bag_faults.specs.declared.fault.Fault.{Fault}
use Rattle.bag_profile.specs.Profile.{Profile}
use Rattle.bag_report.specs.Report.{Is, Check, IsReported, check_with}
use Rattle.bag_text.specs.Order.{IsListOf}
use Rattle.bag_faults.specs.FaultOrder.{fault_cmp}
use Rattle.bag_facts.specs.declared.facts.Facts.{Facts}

-- a fault of the bag that this stage looks for: a clash of names only where clashes are
abbrev pub IsFoundAt : Bool → Bag → Option Profile → ℕ → Fault → Type 0
IsFoundAt clashes bag profile k f =
    Is bag profile f × (stage f.code ≡ k) × (f.code ≡ NameClash → clashes ≡ true)

-- the part of the report that is of one stage
abbrev pub IsStageOf : Check → ℕ → List Fault → Type 0
IsStageOf check k faults = IsListOf fault_cmp (λ f. IsReported check f × (stage f.code ≡ k)) faults

-- a bag, checked against a profile with the options with which its facts were read
abbrev pub check_of_facts : Bag → Option Profile → Facts → Check
check_of_facts bag profile facts = check_with bag profile facts.options
