use Rattle.bag_text.proofs.Common.{arith}
use Rattle.bag_text.proofs.PathReading.{plain_first, plain_next, plain_end}
use Rattle.bag_text.proofs.path.is_plain.Goals as goal

pub loop-place-init : goal.loop-place-init
loop-place-init c = plain_first c.args.bytes.now (search arith)

pub loop-place-preserved : goal.loop-place-preserved
loop-place-preserved c =
    plain_next c.loop-place.plain c.args.bytes.now c.loop-place.place c.loop-place.auto.place c.loop-place-test.true
    c.loop-place.invariant

pub returns : goal.returns
returns c =
    plain_end c.loop-place.plain c.args.bytes.now c.loop-place.place c.loop-place.auto.place c.loop-place-test.false
    (search arith) c.loop-place.invariant
