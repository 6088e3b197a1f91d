use Rattle.bag_stages.proofs.PartFaults.{parts_listed}
use Rattle.bag_stages.proofs.parts.parts_faults.Goals as goal

pub returns : goal.returns
returns c = λ bag facts deep.
    rw (c.in_ok-append.ensures.items, c.in_ok-faults.ensures)
    (parts_listed bag c.args.facts.now c.has_payload_manifest.result facts
    (rw c.files-files.ensures at c.has_payload_manifest.ensures.listed)
    (rw c.files-files.ensures at c.has_payload_manifest.ensures.not_listed)
    c.in_ok-of_files.of_files.items deep
    (rw (c.files-files.ensures, c.as_slice.ensures) at (c.in_ok-of_files.ensures bag)))
