use Rattle.std.proofs.Common.{arith}
use Rattle.bag_tags.proofs.SummedTexts.{sums_more}
use Rattle.bag_tags.proofs.summed.sum_texts.Goals as goal

pub loop-file-preserved : goal.loop-file-preserved
loop-file-preserved c = grind (arith, sums_more)
