use Rattle.test_nodes.proofs.Placed.{disk_from_placed, placed_from_disk}
use Rattle.test_nodes.proofs.placing.are_placed.Goals as goal

pub returns : goal.returns
returns c =
    let held = c.args.nodes.now.entries in (
      λ is. disk_from_placed held (c.are_all_placed.ensures.placed.0 is),
      λ disk.
          c.are_all_placed.ensures.placed.1 (placed_from_disk held c.are_all_placed.ensures.found disk),
    )
