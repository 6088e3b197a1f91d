use Rattle.bag_disk.proofs.Common.{arith}
use Rattle.bag_disk.proofs.DiskSteps.{looks_at_first, walk_begun}
use Rattle.bag_disk.proofs.FoundPaths.{base_folder_alone, is_folder_path}
use Rattle.bag_disk.proofs.Refusals.{not_counted}
use Rattle.bag_disk.proofs.listing.walk.Goals as goal

pub loop-folder-init : goal.loop-folder-init
loop-folder-init g c = grind (arith, looks_at_first, walk_begun, base_folder_alone)

pub list_folder-requires : goal.list_folder-requires
list_folder-requires g c = is_folder_path c.loop-folder.walk.folders.items c.pop.new.self.items c.in-Some.folder
    c.in-Some.ensures.items c.loop-folder.invariant.2.1

pub returns-clause-paths : goal.returns-clause-paths
returns-clause-paths g c = c.loop-folder.invariant.2.0

pub returns-in-Err-TooMany-clause-failures : goal.returns-in-Err-TooMany-clause-failures
returns-in-Err-TooMany-clause-failures g c = grind (arith, not_counted)
