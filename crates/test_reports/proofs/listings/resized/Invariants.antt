use Rattle.std.proofs.Common.{◌≡◌}
use Rattle.bag_disk.specs.FolderWalk.{walked_paths}
use Rattle.test_reports.proofs.listings.resized.Given as goal

abbrev pub invariant-loop-file : goal.invariant-loop-file
invariant-loop-file g l = walked_paths l.resized ≡ walked_paths l.yielded
