use Rattle.bag_entries.proofs.Common.{arith, refl, encode_with}
use Rattle.bag_entries.proofs.HexDigits.{pair_read}
use Rattle.bag_entries.proofs.digest.read_pairs.Goals as goal

pub loop-k-init : goal.loop-k-init
unfolding encode_with
loop-k-init c = refl

pub loop-k-preserved : goal.loop-k-preserved
loop-k-preserved c =
    let high = c.value.ensures in
    let low = c.value-in-loop-k.ensures in
    pair_read c.args.digits.now c.loop-k.bytes c.loop-k.k c.value.result c.value-in-loop-k.result (omega arith)
    (omega arith) high.small low.small high.digit low.digit c.loop-k.invariant
