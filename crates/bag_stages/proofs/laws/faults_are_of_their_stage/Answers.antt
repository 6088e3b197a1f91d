use Rattle.bag_stages.proofs.DeclarationFaults.{declaration_of_stage_one}
use Rattle.bag_stages.proofs.PartFaults.{parts_of_stage_two}
use Rattle.bag_stages.proofs.MetadataFaults.{metadata_of_stage_three}
use Rattle.bag_stages.proofs.FetchFaults.{fetch_of_stage_four}
use Rattle.bag_stages.proofs.ManifestFaults.{manifests_of_stage_five}
use Rattle.bag_stages.proofs.CompletenessFaults.{completeness_of_stage_six}
use Rattle.bag_stages.proofs.ValidityFaults.{validity_of_stage_seven}
use Rattle.bag_stages.proofs.laws.faults_are_of_their_stage.Goals as goal

pub returns-clause-declaration : goal.returns-clause-declaration
returns-clause-declaration c = declaration_of_stage_one

pub returns-clause-parts : goal.returns-clause-parts
returns-clause-parts c = parts_of_stage_two

pub returns-clause-metadata : goal.returns-clause-metadata
returns-clause-metadata c = metadata_of_stage_three

pub returns-clause-fetch : goal.returns-clause-fetch
returns-clause-fetch c = fetch_of_stage_four

pub returns-clause-manifests : goal.returns-clause-manifests
returns-clause-manifests c = manifests_of_stage_five

pub returns-clause-completeness : goal.returns-clause-completeness
returns-clause-completeness c = completeness_of_stage_six

pub returns-clause-validity : goal.returns-clause-validity
returns-clause-validity c = validity_of_stage_seven
