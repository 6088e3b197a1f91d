use Rattle.bag_stages.proofs.Common.{take, entry_paths, paths_of}
use Rattle.bag_stages.proofs.PayloadNamed.{AreBefore}
use Rattle.bag_stages.proofs.payload_named.are_named.Given as goal

abbrev pub invariant-loop-file : goal.invariant-loop-file
invariant-loop-file l = AreBefore (entry_paths l.entries) (paths_of (take l.file-index l.files)) (entry_paths l.rest)
