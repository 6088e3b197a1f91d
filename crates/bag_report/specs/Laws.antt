-- Laws about reports, and of stage 8: its faults are of it, and each bag has a list of them.
use Rattle.std.specs.Prelude.{◌≡◌, List, Option}
use Rattle.bag_text.specs.Code.{stage}
use Rattle.bag_tree.specs.Bag.{Bag}
use Rattle.bag_faults.specs.declared.fault.Fault.{Fault}
use Rattle.bag_profile.specs.Profile.{Profile}
use Rattle.bag_stages.specs.HasList.{HasList}
use Rattle.bag_report.specs.ConformanceStage.{IsOfConformance}
use Rattle.bag_report.specs.Report.{Check, IsReport}

-- the law: every bag has a report, whatever is asked for
abbrev pub EachBagHasAReport : Type 0
EachBagHasAReport = (check : Check) → (report : List Fault) × IsReport check report

-- the law: a bag has one report
abbrev pub ReportIsOne : Type 0
ReportIsOne = (check : Check) (one other : List Fault) → IsReport check one → IsReport check other
    → one ≡ other

-- the law: every bag and every profile have a list of these faults
abbrev pub ConformanceFaultsAreListed : Type 0
ConformanceFaultsAreListed = (bag : Bag) (profile : Option Profile)
    → HasList (IsOfConformance bag profile)

-- the law: these faults are of the eighth stage
abbrev pub ConformanceFaultsAreOfStageEight : Type 0
ConformanceFaultsAreOfStageEight =
    (bag : Bag) (profile : Option Profile) (f : Fault) → IsOfConformance bag profile f
    → stage f.code ≡ 8
