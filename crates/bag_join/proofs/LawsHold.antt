-- The laws.
use Rattle.std.proofs.Common.{◌≡◌, ℕ, zero, suc, ◌++◌, List, refl, ap, ◌∙◌}
use Rattle.bag_tree.specs.declared.listing.FileEntry.{FileEntry}
use Rattle.bag_faults.specs.declared.fault.Fault.{Fault}
use Rattle.bag_sources.proofs.Parts.{parts_join}
use Rattle.bag_sources.specs.Parts.{first_parts, part_of}
use Rattle.bag_join.specs.Join.{all_faults}
use Rattle.bag_join.specs.Laws.{faults_of_parts, ClosesAsOneCheck, PartsOfReportJoin}
use Rattle.bag_join.proofs.Joined.{faults_joined}

same_parts : (files : List FileEntry) (parts : ℕ) (report : List Fault) (k : ℕ)
    → all_faults (faults_of_parts files parts report k) ≡ first_parts files parts report k
same_parts files parts report zero = refl
same_parts files parts report (suc k) =
    faults_joined (faults_of_parts files parts report k) (part_of files (record { number = k; of = parts }) report)
    ∙ ap (λ front. front ++ part_of files (record { number = k; of = parts }) report)
    (same_parts files parts report k)

pub parts_of_report_join : PartsOfReportJoin
parts_of_report_join files parts report ordered some sorted =
    same_parts files parts report parts ∙ parts_join files parts report ordered some sorted

pub closes_as_one_check : ClosesAsOneCheck
closes_as_one_check request zero deep loud = rw (loud, deep) refl
closes_as_one_check request (suc n) deep loud = refl
