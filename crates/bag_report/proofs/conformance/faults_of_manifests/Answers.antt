use Rattle.bag_report.proofs.Conforming.{Payload, Tag, IsOfKind}
use Rattle.bag_report.proofs.FaultSets.{both_all}
use Rattle.bag_report.proofs.conformance.faults_of_manifests.Goals as goal

pub returns : goal.returns
returns c = λ bag facts deep.
    both_all (λ f. IsOfKind bag c.args.profile.now f Payload) (λ f. IsOfKind bag c.args.profile.now f Tag)
    c.in_ok-faults.faults.items c.in_ok-manifest_faults.field-0.items c.append.new.self.items
    c.in_ok-append.ensures.items (c.in_ok-faults.ensures bag facts deep)
    (c.in_ok-manifest_faults.ensures bag facts deep)
