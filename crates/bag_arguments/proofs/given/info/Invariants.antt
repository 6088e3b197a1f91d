use Rattle.bag_arguments.proofs.Common.{◌≡◌, take, filter_map, found_of, rows_of, element}
use Rattle.bag_arguments.proofs.given.info.Given as goal

abbrev pub invariant-loop-label : goal.invariant-loop-label
invariant-loop-label l = l.items ≡ filter_map (element (rows_of (found_of l.matches))) (take l.label-index l.labels)
