use Rattle.bag_sources.proofs.Common.{arith}
use Rattle.bag_sources.proofs.Parts.{one_weighed}
use Rattle.bag_sources.proofs.part.weight_of.Goals as goal

pub loop-file-preserved : goal.loop-file-preserved
loop-file-preserved c =
    grind (
      arith,
      one_weighed c.args.files.now c.loop-file.file-index c.file-item.result c.loop-file.weight_of
          c.loop-file-test.true c.file-item.is c.loop-file.invariant.0,
    )
