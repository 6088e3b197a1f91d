use Rattle.bag_changes.proofs.Common.{◌≡◌, map}
use Rattle.bag_changes.specs.Composing.{summed_of}
use Rattle.bag_changes.proofs.named.listed.Given as goal

abbrev pub invariant-loop-path : goal.invariant-loop-path
invariant-loop-path l = l.files.items ≡ map summed_of l.yielded
