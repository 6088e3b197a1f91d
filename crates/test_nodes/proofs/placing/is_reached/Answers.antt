use Rattle.std.proofs.Common.{refl, ap, sym, ◌∙◌, take, drop, ◌+◌}
use Rattle.std.proofs.lemmas.Bool.{false≢true}
use Rattle.bag_disk.specs.Disk.{is_folder_node}
use Rattle.bag_disk.proofs.DiskPaths.{at_slash}
use Rattle.test_nodes.proofs.placing.is_reached.Goals as goal

pub returns-then-not-is_folder : goal.returns-then-not-is_folder
returns-then-not-is_folder c =
    let path = c.args.path.now in
    let end = c.loop-end.end in
    let cut = at_slash path (take end path) end c.loop-end-test.true c.if-path-end-eq-SLASH.true refl in (
      λ no. absurd (false≢true no),
      λ reached.
          sym c.if-not-is_folder.true ∙ c.is_folder.ensures
          ∙ ap is_folder_node (reached (take end path) (drop (end + 1) path) cut),
    )
