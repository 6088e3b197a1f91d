use Rattle.bag_stages.proofs.DeclarationList.{declaration_faults_are_listed}
use Rattle.bag_stages.proofs.PartsList.{part_faults_are_listed}
use Rattle.bag_stages.proofs.MetadataList.{metadata_faults_are_listed}
use Rattle.bag_stages.proofs.FetchFaultsList.{fetch_faults_are_listed}
use Rattle.bag_stages.proofs.ManifestsList.{manifest_faults_are_listed}
use Rattle.bag_stages.proofs.CompletenessList.{completeness_faults_are_listed}
use Rattle.bag_stages.proofs.ValidityList.{validity_faults_are_listed}
use Rattle.bag_stages.proofs.laws.faults_are_listed.Goals as goal

pub returns-clause-declaration : goal.returns-clause-declaration
returns-clause-declaration c = declaration_faults_are_listed

pub returns-clause-parts : goal.returns-clause-parts
returns-clause-parts c = part_faults_are_listed

pub returns-clause-metadata : goal.returns-clause-metadata
returns-clause-metadata c = metadata_faults_are_listed

pub returns-clause-fetch : goal.returns-clause-fetch
returns-clause-fetch c = fetch_faults_are_listed

pub returns-clause-manifests : goal.returns-clause-manifests
returns-clause-manifests c = manifest_faults_are_listed

pub returns-clause-completeness : goal.returns-clause-completeness
returns-clause-completeness c = completeness_faults_are_listed

pub returns-clause-validity : goal.returns-clause-validity
returns-clause-validity c = validity_faults_are_listed
