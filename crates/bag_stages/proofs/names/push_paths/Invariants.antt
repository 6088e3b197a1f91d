use Rattle.bag_stages.proofs.Common.{◌≡◌, ◌++◌, take, entry_paths, texts_of}
use Rattle.bag_stages.proofs.names.push_paths.Given as goal

abbrev pub invariant-loop-entry : goal.invariant-loop-entry
invariant-loop-entry l = texts_of l.names.items
    ≡ texts_of l.initial.names.items ++ entry_paths (take l.entry-index l.entries)
