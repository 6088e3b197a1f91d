-- How a tree in memory is seen.
use Rattle.bag_tree.specs.Tree.{TreeState}
use Rattle.bag_tree.specs.Bag.{Bag}
use Rattle.bag_memory.specs.Memory.{memory_state_after}
use Rattle.bag_memory.specs.MemoryTree.{bag_of_files, unread_rest}
use Rattle.bag_memory.specs.declared.memory_tree.MemoryTree.{MemoryTree}

-- the files and folders of a tree in memory
abbrev pub memory_bag : MemoryTree → Bag
memory_bag tree = bag_of_files tree.files.entries tree.folders.keys

-- what a tree in memory means
abbrev pub state_of_memory : MemoryTree → TreeState
state_of_memory tree =
    memory_state_after (memory_bag tree) tree.openings tree.gave.what
    (unread_rest (memory_bag tree) tree.open tree.at)
    tree.at tree.last
