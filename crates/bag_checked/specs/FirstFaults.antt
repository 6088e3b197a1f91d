-- The first fault of a bag.
use Rattle.std.specs.Prelude.{ℕ, ◌≡◌, ◌≢◌, ◌<◌, Bool, None, true}
use Rattle.std.specs.declared.cmp.Ordering.TheVariants.{Less}
use Rattle.bag_text.specs.Code.{stage}
use Rattle.bag_text.specs.declared.code.Code.TheVariants.{PayloadSumDiffers}
use Rattle.bag_tree.specs.Bag.{Bag}
use Rattle.bag_facts.specs.FactsOfBag.{IsFactsOf}
use Rattle.bag_faults.specs.FaultOrder.{fault_cmp}
use Rattle.bag_tree.specs.Stop.{IsOutOfMemory}
use Rattle.bag_facts.specs.declared.facts.Facts.{Facts}
use Rattle.bag_faults.specs.declared.fault.Fault.{Fault}
use Rattle.bag_report.specs.Report.{IsReported}
use Rattle.bag_report.specs.Stages.{check_of_facts}
use Rattle.bag_report.specs.Valid.{IsFaultOf}
use Rattle.bag_checked.specs.declared.checked.Unchecked.{Unchecked}
use Rattle.bag_checked.specs.declared.checked.Unchecked.TheVariants.{Faulty, Stopped}

-- it is one of these faults, and the first in the order of a report: none of them is less
pub record IsFirst (Member : Fault → Type 0) (fault : Fault) : Type 0 where
  pub member : Member fault
  pub none_less : (f : Fault) → Member f → fault_cmp f fault ≢ Less

-- a file of the payload has another digest than a manifest gives
abbrev pub IsDamage : Fault → Type 0
IsDamage f = f.code ≡ PayloadSumDiffers

-- a fault of the bag that is looked for: damage of the payload only where the payload is read
abbrev pub IsLookedFor : Bag → Bool → Fault → Type 0
IsLookedFor bag with_payload f = IsFaultOf bag f × (IsDamage f → with_payload ≡ true)

-- a fault of the bag, by no profile
abbrev pub IsFaultBy : Facts → Bag → Fault → Type 0
IsFaultBy facts bag f = IsReported (check_of_facts bag None facts) f

-- a bag whose facts these are has no fault of a stage
abbrev pub HasNoneAt : Facts → ℕ → Type 0
HasNoneAt facts k =
    (bag : Bag) → IsFactsOf bag facts → (f : Fault) → IsFaultBy facts bag f → stage f.code ≡ k → ⊥

-- nor one of the stages before one
abbrev pub HasNoneBefore : Facts → ℕ → Type 0
HasNoneBefore facts k =
    (bag : Bag) → IsFactsOf bag facts → (f : Fault) → IsFaultBy facts bag f → stage f.code < k → ⊥

-- the fault is the first of this stage
abbrev pub IsFirstOfStage : Facts → ℕ → Fault → Type 0
IsFirstOfStage facts k fault =
    (bag : Bag) → IsFactsOf bag facts
    → IsFirst (λ f. IsFaultBy facts bag f × (stage f.code ≡ k)) fault

-- the first fault of this stage was found, or memory ran out
abbrev pub IsFoundAt : Facts → ℕ → Unchecked → Type 0
IsFoundAt facts k (Stopped stop) = IsOutOfMemory stop
IsFoundAt facts k (Faulty fault) = IsFirstOfStage facts k fault

-- the first fault of all was found, which is of a stage that opens no payload file; or memory ran
-- out
abbrev pub IsFoundFirst : Facts → Unchecked → Type 0
IsFoundFirst facts (Stopped stop) = IsOutOfMemory stop
IsFoundFirst facts (Faulty fault) =
    (bag : Bag) → IsFactsOf bag facts
    → (stage fault.code < 7) × IsFirst (IsFaultBy facts bag) fault

-- the bag has no fault of the stages that open no payload file
abbrev pub HasNoEarlyFault : Bag → Type 0
HasNoEarlyFault bag = (f : Fault) → IsFaultOf bag f → stage f.code < 7 → ⊥
