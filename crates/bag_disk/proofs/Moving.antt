-- What stands where, after something was moved with all that is below it.
use Rattle.bag_disk.proofs.Common.{arith}
use Rattle.bag_tree.proofs.Moving.{moves_all}
use Rattle.bag_tree.proofs.Within.{within_cases}
use Rattle.bag_disk.specs.WritableDisk.{MovedNodesAreThere}
use Rattle.bag_disk.proofs.DiskPaths.{none_below_no_folder}

pub nodes_move : MovedNodesAreThere
nodes_move nodes from to disk free =
    moves_all nodes from to (λ path within. grind (arith, within_cases, none_below_no_folder))
