-- What is left of a bag's completeness above a cursor.
use Rattle.std.specs.Prelude.{ℕ, ◌≡◌, true, List, Option}
use Rattle.bag_text.specs.Code.{stage}
use Rattle.bag_text.specs.Order.{IsListOf}
use Rattle.bag_faults.specs.FaultOrder.{fault_cmp}
use Rattle.bag_facts.specs.declared.facts.Facts.{Facts}
use Rattle.bag_faults.specs.declared.fault.Fault.{Fault}
use Rattle.bag_profile.specs.Profile.{Profile}
use Rattle.bag_report.specs.Report.{Check, IsReported, is_above}
use Rattle.bag_sources.specs.FactsOf.{ForCheckOf}

-- one of these faults, above a cursor
abbrev pub IsAbove : Option Fault → (Fault → Type 0) → Fault → Type 0
IsAbove after IsOne f = IsOne f × (is_above after f ≡ true)

-- these are those of this kind that stand above a cursor, in their order
abbrev pub AreAbove : Option Fault → (Fault → Type 0) → List Fault → Type 0
AreAbove after IsOne faults = IsListOf fault_cmp (IsAbove after IsOne) faults

-- the part of a report that is of one stage and above a cursor
abbrev pub IsStageAbove : Check → ℕ → Option Fault → List Fault → Type 0
IsStageAbove check k after faults =
    AreAbove after (λ f. IsReported check f × (stage f.code ≡ k)) faults

-- of each bag of which these facts were read, and by any profile or none: the part of its report
-- that is of stage 6 and above a cursor
abbrev pub AreOfStageSix : Facts → Option Fault → List Fault → Type 0
AreOfStageSix facts after faults = (profile : Option Profile)
    → ForCheckOf facts profile (λ check. IsStageAbove check 6 after faults)
