use Rattle.bag_stages.proofs.Common.{IfOk-weaker}
use Rattle.bag_stages.proofs.PathFaults.{no_missing, read_missing}
use Rattle.bag_stages.proofs.missing.missing_of.Goals as goal

pub returns-in-Some : goal.returns-in-Some
returns-in-Some c = IfOk-weaker c.missing_in.result _ _
    (λ faults list bag facts deep.
    read_missing bag c.args.kind c.args.alg c.in-Some.manifest.now c.missing_code-code.result c.as_slice.result.now
    c.files-files.result.now faults.items
    (c.in-Some.ensures bag facts deep) c.missing_code-code.ensures c.as_slice.ensures
    (rw c.files-files.ensures facts.listing.files)
    (λ ordered. list ordered (rw c.files-files.ensures facts.ordered.ascending)))
    c.missing_in.ensures

pub returns-in-None : goal.returns-in-None
returns-in-None c = λ bag facts deep.
    rw c.new.ensures.items (no_missing bag c.args.kind c.args.alg (c.in-None.ensures bag facts deep))
