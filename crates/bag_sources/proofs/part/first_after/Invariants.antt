use Rattle.bag_sources.proofs.Parts.{ComesTo}
use Rattle.bag_sources.proofs.part.first_after.Given as goal

abbrev pub invariant-loop-file : goal.invariant-loop-file
invariant-loop-file l = ComesTo l.least l.files l.file-index l.before
