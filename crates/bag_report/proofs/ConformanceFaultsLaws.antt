-- The faults of a bag and a profile are of the eighth stage, and a list has them.
use Rattle.bag_report.proofs.Conforming.{arith, ◌≡◌, None, Some, refl, Code, ProfileIdentifier, Payload, Tag, Bag}
use Rattle.bag_report.proofs.Conforming.{Fault, Profile, nothing, same_set, either, IsOfElements, IsOfKind}
use Rattle.bag_report.proofs.Conforming.{IsOfTagFiles, IsOfWhole, ConformanceFaultsAreListed}
use Rattle.bag_report.proofs.Conforming.{ConformanceFaultsAreOfStageEight}
use Rattle.bag_text.specs.Code.{stage}
use Rattle.bag_report.specs.ConformanceStage.{ConformanceHolds, IsOfProfile}
use Rattle.bag_report.proofs.ConformanceLists.{elements_listed, kind_listed, tag_files_listed, whole_listed}
use Rattle.bag_report.proofs.Parts.{IsOfBothKinds, IsOfSome, of_some, is_of_some}

module _ (bag : Bag) (profile : Profile) (f : Fault) where
  holds_stage : (c : Code) → ConformanceHolds bag profile f c → stage c ≡ 8
  unfolding ConformanceHolds
  holds_stage ProfileIdentifier h = refl
  holds_stage _ h = grind arith

  of_stage_eight : IsOfProfile bag profile f → stage f.code ≡ 8
  unfolding IsOfProfile
  of_stage_eight h = holds_stage f.code h

pub conformance_faults_are_of_stage_eight : ConformanceFaultsAreOfStageEight
conformance_faults_are_of_stage_eight bag None f h = absurd h
conformance_faults_are_of_stage_eight bag (Some profile) f h = of_stage_eight bag profile f h

pub conformance_faults_are_listed : ConformanceFaultsAreListed
conformance_faults_are_listed bag None = nothing _ (λ f h. h)
conformance_faults_are_listed bag (Some profile) =
    same_set (IsOfSome bag profile) (IsOfProfile bag profile) (of_some bag profile) (is_of_some bag profile)
    (either _ (IsOfWhole bag profile)
    (either _ (IsOfTagFiles bag profile)
    (either (IsOfElements bag profile) (IsOfBothKinds bag profile) (elements_listed bag profile)
    (either (λ f. IsOfKind bag profile f Payload) (λ f. IsOfKind bag profile f Tag) (kind_listed bag profile Payload)
    (kind_listed bag profile Tag)))
    (tag_files_listed bag profile))
    (whole_listed bag profile))
