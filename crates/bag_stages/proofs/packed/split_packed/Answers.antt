use Rattle.bag_stages.proofs.Common.{arith}
use Rattle.bag_stages.proofs.UnpackedAgain.{split_bytes}
use Rattle.bag_stages.proofs.packed.split_packed.Goals as goal

pub returns : goal.returns
returns c = rw c.alg_ranked.ensures
    (split_bytes c.args.bytes.now c.split_at.result.0.now c.split_at.result.1.now c.min-count.result
    c.in-len2-up.len_at_least (omega (arith, c.min-count.ensures, c.from.ensures)) c.split_at.ensures.front
    c.split_at.ensures.back)
