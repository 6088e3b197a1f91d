use Rattle.bag_changes.proofs.Common.{◌≡◌, map, put}
use Rattle.bag_changes.proofs.composing.puts.Given as goal

abbrev pub invariant-loop-file : goal.invariant-loop-file
invariant-loop-file l = l.changes.items ≡ map put l.yielded
