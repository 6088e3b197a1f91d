use Rattle.bag_stages.proofs.Common.{IfOk-weaker}
use Rattle.bag_stages.proofs.FetchFaults.{no_manifest_listed, read_manifest_listed}
use Rattle.bag_stages.proofs.fetch.left_out_by_one.Goals as goal

pub returns-in-Some : goal.returns-in-Some
returns-in-Some c = IfOk-weaker c.left_out_of.result _ _
    (λ faults list bag facts deep at fetched.
    read_manifest_listed bag c.args.alg c.in-Some.manifest.now c.args.path.now c.args.entries.now faults.items
    (c.in-Some.ensures bag facts deep) at fetched list)
    c.left_out_of.ensures

pub returns-in-None : goal.returns-in-None
returns-in-None c = λ bag facts deep at fetched.
    rw c.new.ensures.items (no_manifest_listed bag c.args.alg (c.in-None.ensures bag facts deep))
