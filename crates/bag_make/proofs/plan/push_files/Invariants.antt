use Rattle.bag_make.proofs.Common.{◌≡◌, ◌++◌, map, new_file}
use Rattle.bag_make.proofs.plan.push_files.Given as goal

abbrev pub invariant-loop-file : goal.invariant-loop-file
invariant-loop-file l = l.steps.items ≡ l.fn.steps.items ++ map new_file l.yielded
