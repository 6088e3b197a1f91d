use Rattle.bag_disk.proofs.Common.{vec_len, Nodes, AreFolders, AreThere}
use Rattle.bag_disk.proofs.limit.with_folders.Given as goal

abbrev pub invariant-loop-path : goal.invariant-loop-path
invariant-loop-path l = (nodes : Nodes) → AreThere nodes l.fn.files.items → AreFolders nodes l.fn.folders.items
    → AreThere nodes l.found.items × AreFolders nodes l.folders.items

abbrev pub decreases-loop-path : goal.decreases-loop-path
decreases-loop-path l = vec_len l.folders
