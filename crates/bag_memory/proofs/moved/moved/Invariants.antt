use Rattle.bag_memory.proofs.Common.{◌≡◌, empty, file_map, with_renamed}
use Rattle.bag_memory.proofs.moved.moved.Given as goal

abbrev pub invariant-loop-path : goal.invariant-loop-path
invariant-loop-path l = with_renamed l.from l.to (file_map l.moved.entries) l.path-iterator
    ≡ with_renamed l.from l.to empty l.files.entries
