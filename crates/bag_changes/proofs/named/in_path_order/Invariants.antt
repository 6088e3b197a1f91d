use Rattle.bag_changes.proofs.Common.{Alg, File, List}
use Rattle.std.proofs.Common.{vec_len}
use Rattle.bag_checked.specs.Summed.{AreSummedBy}
use Rattle.bag_changes.proofs.InPathOrder.{IsPutFrom}
use Rattle.bag_changes.proofs.named.in_path_order.Given as goal

abbrev pub invariant-loop-one : goal.invariant-loop-one
invariant-loop-one l =
    (algs : List Alg) (of : List File) → AreSummedBy algs of l.fn.files.items
    → IsPutFrom algs of l.files.items l.by_path.entries

abbrev pub decreases-loop-one : goal.decreases-loop-one
decreases-loop-one l = vec_len l.files
