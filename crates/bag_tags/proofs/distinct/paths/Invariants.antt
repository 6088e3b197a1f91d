use Rattle.bag_tags.proofs.Common.{◌≡◌, take, lent_texts}
use Rattle.bag_tags.specs.Writable as spec
use Rattle.bag_tags.proofs.distinct.paths.Given as goal

abbrev pub invariant-loop-entry : goal.invariant-loop-entry
invariant-loop-entry l = lent_texts l.paths.items ≡ spec.paths (take l.entry-index l.entries)
