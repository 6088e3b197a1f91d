use Rattle.bag_arguments.proofs.Common.{◌≡◌, [], fold, take, name, found_of, rows_of, is_given}
use Rattle.bag_arguments.proofs.Reading.{with_if}
use Rattle.bag_arguments.proofs.given.named_algs.Given as goal

abbrev pub invariant-loop-alg : goal.invariant-loop-alg
invariant-loop-alg l = l.set
    ≡ fold (with_if (λ alg. is_given (rows_of (found_of l.matches)) (name alg))) [] (take l.alg-index l.alg-items)
