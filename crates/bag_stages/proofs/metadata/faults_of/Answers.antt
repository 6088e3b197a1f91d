use Rattle.bag_stages.proofs.MetadataFaults.{metadata_listed}
use Rattle.bag_stages.proofs.metadata.faults_of.Goals as goal

pub returns : goal.returns
returns c = λ bag at size said.
    metadata_listed bag c.args.metadata.now c.in_ok-faults.faults.items c.in_ok-of_lines.of_lines.items
    c.sort_unstable.new.self.items said
    (rw (c.as_slice.ensures, at, size) at c.in_ok-faults.ensures)
    (rw (c.as_slice-2.ensures, at) at c.in_ok-of_lines.ensures)
    (rw c.in_ok-append.ensures.items at c.sort_unstable.ensures.permutation) c.sort_unstable.ensures.sorted
