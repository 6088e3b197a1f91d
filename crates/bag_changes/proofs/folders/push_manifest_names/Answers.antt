use Rattle.bag_changes.proofs.Common.{◌∙◌, ◌++◌, ap, map, algs, tag_path, Manifest}
use Rattle.std.proofs.lemmas.List.{take_all}
use Rattle.bag_changes.specs.Reserved.{manifest_names}
use Rattle.bag_changes.proofs.folders.push_manifest_names.Goals as goal

pub returns : goal.returns
unfolding manifest_names
returns c =
    c.loop-alg.invariant
    ∙ ap (λ some. c.args.names.now.items ++ map (λ alg. tag_path (Manifest c.args.kind alg)) some)
    (take_all c.loop-alg.alg-index algs c.loop-alg-test.false)
