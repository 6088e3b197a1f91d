use Rattle.bag_stages.proofs.Common.{◌≡◌, take, filter, is_payload_path, paths_of, texts_of}
use Rattle.bag_stages.proofs.names.payload_files.Given as goal

abbrev pub invariant-loop-entry : goal.invariant-loop-entry
invariant-loop-entry l = texts_of l.names.items ≡ filter is_payload_path (paths_of (take l.entry-index l.files))
