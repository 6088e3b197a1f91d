use Rattle.bag_report.proofs.FaultSets.{both_all}
use Rattle.bag_report.proofs.Manifests.{HasOther, Lacks}
use Rattle.bag_report.proofs.manifest_names.manifest_faults.Goals as goal

pub returns : goal.returns
returns c = λ bag facts deep.
    both_all (Lacks bag c.args.profile.now c.args.kind) (HasOther bag c.args.profile.now c.args.kind)
    c.in_ok-faults.faults.items c.in_ok-other_manifests.field-0.items c.append.new.self.items
    c.in_ok-append.ensures.items (c.in_ok-faults.ensures bag facts) (c.in_ok-other_manifests.ensures bag facts)
