use Rattle.bag_changes.proofs.Common.{◌≡◌, ◌++◌, map, take, tag_path, Manifest}
use Rattle.bag_changes.proofs.folders.push_manifest_names.Given as goal

abbrev pub invariant-loop-alg : goal.invariant-loop-alg
invariant-loop-alg l =
    l.names.items
    ≡ l.fn.names.items ++ map (λ alg. tag_path (Manifest l.kind alg)) (take l.alg-index l.alg-items)
