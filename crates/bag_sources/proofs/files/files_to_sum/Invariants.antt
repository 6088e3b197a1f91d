use Rattle.bag_sources.proofs.Common.{◌≡◌, take, option_copied, Bag, IsFactsOf, AreToSum}
use Rattle.bag_faults.specs.declared.options.Depth.TheVariants as depth_of
use Rattle.bag_sources.specs.Parts.{files_within}
use Rattle.bag_sources.proofs.files.files_to_sum.Given as goal

abbrev pub invariant-loop-file : goal.invariant-loop-file
invariant-loop-file l =
    (bag : Bag) → IsFactsOf bag l.facts → l.facts.options.depth ≡ depth_of.Full
    → AreToSum bag (option_copied l.after) (files_within l.bounds (take l.file-index l.file-items)) l.files.items
