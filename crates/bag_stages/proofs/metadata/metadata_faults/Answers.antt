use Rattle.bag_stages.proofs.Common.{◌≡◌, ◌∷◌, [], no_oxum, ◌∙◌, ap, IfOk-weaker, IsMetadataOf, bag_info_txt, file}
use Rattle.bag_stages.proofs.Common.{listed_oxum, rules_in}
use Rattle.bag_stages.proofs.InFile.{not_there, read_bytes}
use Rattle.bag_stages.proofs.MetadataFaults.{missing_listed}
use Rattle.bag_stages.proofs.ListedSize.{listed_size}
use Rattle.bag_stages.proofs.metadata.metadata_faults.Goals as goal

pub returns-in-Some : goal.returns-in-Some
returns-in-Some c = IfOk-weaker c.faults_of.result _ _
    (λ faults are bag of deep.
    are bag c.in_ok-path.ensures
    (ap listed_oxum c.files.ensures ∙ listed_size bag c.args.facts.now.listing of.ordered of.listing)
    (read_bytes (IsMetadataOf (rules_in bag)) (file bag bag_info_txt) c.in-Some.metadata.now
    (c.in-Some.ensures bag of deep)))
    c.faults_of.ensures

pub returns : goal.returns
returns c = IfOk-weaker c.no_oxum.result _ _
    (λ faults is bag of deep.
    let one : faults.items ≡ no_oxum c.in_ok-path.path ∷ [] = is in
    rw (one, c.in_ok-path.ensures)
    (missing_listed bag
    (not_there (IsMetadataOf (rules_in bag)) (file bag bag_info_txt) (c.in-None.ensures bag of deep))))
    c.no_oxum.ensures
