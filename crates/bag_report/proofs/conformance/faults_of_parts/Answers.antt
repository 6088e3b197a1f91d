use Rattle.bag_report.proofs.Parts.{parts_all}
use Rattle.bag_report.proofs.conformance.faults_of_parts.Goals as goal

pub returns : goal.returns
returns c = λ bag facts deep.
    parts_all bag c.args.profile.now c.in_ok-faults.faults.items c.in_ok-faults_of_manifests.field-0.items
    c.in_ok-tag_file_faults.field-0.items c.in_ok-whole_faults.field-0.items
    c.append.new.self.items c.append-2.new.self.items c.append-3.new.self.items
    c.in_ok-append.ensures.items c.in_ok-append-2.ensures.items c.in_ok-append-3.ensures.items
    (c.in_ok-faults.ensures bag facts deep) (c.in_ok-faults_of_manifests.ensures bag facts deep)
    (c.in_ok-tag_file_faults.ensures bag facts deep) (c.in_ok-whole_faults.ensures bag facts deep)
