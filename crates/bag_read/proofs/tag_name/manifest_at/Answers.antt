use Rattle.bag_read.proofs.TagPaths.{manifest_by, no_manifest_by}
use Rattle.bag_read.proofs.tag_name.manifest_at.Goals as goal

pub returns-in_err-alg : goal.returns-in_err-alg
returns-in_err-alg c = rw c.from_residual-in_err-alg.ensures
    (no_manifest_by c.args.kind c.args.path.now c.in_ok-manifest_alg.field-0.now c.in_ok-manifest_alg.ensures.alg.1
    c.in_err-alg.ensures)

pub returns : goal.returns
returns c = manifest_by c.args.kind c.args.path.now c.in_ok-manifest_alg.field-0.now c.in_ok-alg.alg
    c.in_ok-manifest_alg.ensures.alg.1 c.in_ok-alg.ensures
