-- Every bag has a report.
use Rattle.bag_report.proofs.Common.{filter, Option, same_members, Bag, fault_cmp, Fault, fault_cmp_total}
use Rattle.bag_report.proofs.Common.{fault_cmp_same, kept, passed, IsOfCompleteness, IsOfConformance}
use Rattle.bag_report.proofs.Common.{conformance_faults_are_listed, Profile, IsOfDeclaration, IsOfFetch, IsOfManifests}
use Rattle.bag_report.proofs.Common.{IsOfMetadata, IsOfParts, IsOfValidity, Check, asks, IsReported, Is}
use Rattle.bag_stages.proofs.CompletenessList.{completeness_faults_are_listed}
use Rattle.bag_stages.specs.HasList.{HasList}
use Rattle.bag_stages.proofs.DeclarationList.{declaration_faults_are_listed}
use Rattle.bag_stages.proofs.FetchFaultsList.{fetch_faults_are_listed}
use Rattle.bag_stages.proofs.HasLists.{either}
use Rattle.bag_stages.proofs.ManifestsList.{manifest_faults_are_listed}
use Rattle.bag_stages.proofs.MetadataList.{metadata_faults_are_listed}
use Rattle.bag_stages.proofs.PartsList.{part_faults_are_listed}
use Rattle.bag_stages.proofs.ValidityList.{validity_faults_are_listed}
use Rattle.bag_report.proofs.AscendingList.{ascending_list}
use Rattle.bag_report.specs.Laws.{EachBagHasAReport}

-- the faults of a bag, stage by stage
faults_are_listed : (bag : Bag) (profile : Option Profile) → HasList (Is bag profile)
unfolding Is
faults_are_listed bag profile =
    either (IsOfDeclaration bag) _ (declaration_faults_are_listed bag)
    (either (IsOfParts bag) _ (part_faults_are_listed bag)
    (either (IsOfMetadata bag) _ (metadata_faults_are_listed bag)
    (either (IsOfFetch bag) _ (fetch_faults_are_listed bag)
    (either (IsOfManifests bag) _ (manifest_faults_are_listed bag)
    (either (IsOfCompleteness bag) _ (completeness_faults_are_listed bag)
    (either (IsOfValidity bag) (IsOfConformance bag profile) (validity_faults_are_listed bag)
    (conformance_faults_are_listed bag profile)))))))

-- those that are asked for
reported_are_listed : (check : Check) → HasList (IsReported check)
reported_are_listed check =
    let all = faults_are_listed check.bag check.profile in
    let is_asked = λ (f : Fault). asks check.options f.code in (
      filter is_asked all.0,
      λ f. (
        λ c. let k = kept is_asked all.0 f c in ((all.1 f).0 k.1, k.0),
        λ h. passed is_asked all.0 f h.1 ((all.1 f).1 h.0),
      ),
    )

pub each_bag_has_a_report : EachBagHasAReport
each_bag_has_a_report check =
    let listed = reported_are_listed check in
    let report = ascending_list fault_cmp fault_cmp_total fault_cmp_same listed.0 in (
      report.0,
      same_members fault_cmp _ (IsReported check) report.0 (λ f c. (listed.1 f).0 c) (λ f h. (listed.1 f).1 h)
          report.1,
    )
