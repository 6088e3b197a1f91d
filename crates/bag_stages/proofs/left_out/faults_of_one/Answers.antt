use Rattle.bag_stages.proofs.Common.{IfOk-weaker}
use Rattle.bag_stages.proofs.PathFaults.{no_unlisted, read_unlisted}
use Rattle.bag_stages.proofs.left_out.faults_of_one.Goals as goal

pub returns-in-Some : goal.returns-in-Some
returns-in-Some c = IfOk-weaker c.left_out_of.result _ _
    (λ faults list bag facts deep.
    read_unlisted bag c.args.alg c.in-Some.manifest.now c.files-files.result.now faults.items
    (c.in-Some.ensures bag facts deep) (rw c.files-files.ensures facts.listing.files)
    (λ ordered. list ordered (rw c.files-files.ensures facts.ordered.ascending)))
    c.left_out_of.ensures

pub returns-in-None : goal.returns-in-None
returns-in-None c = λ bag facts deep.
    rw c.new.ensures.items (no_unlisted bag c.args.alg (c.in-None.ensures bag facts deep))
