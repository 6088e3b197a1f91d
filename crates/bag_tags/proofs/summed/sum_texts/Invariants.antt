use Rattle.std.proofs.Common.{take}
use Rattle.bag_tags.specs.Summed.{AreSummed}
use Rattle.bag_tags.proofs.summed.sum_texts.Given as goal

abbrev pub invariant-loop-file : goal.invariant-loop-file
invariant-loop-file l = AreSummed l.fn.algs (take l.file-index l.files) l.summed.items
