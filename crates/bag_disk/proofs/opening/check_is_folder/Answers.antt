use Rattle.bag_disk.proofs.Common.{arith, false≢true}
use Rattle.bag_disk.proofs.DiskPaths.{no_path}
use Rattle.bag_disk.proofs.Plain.{other_seen}
use Rattle.bag_disk.proofs.opening.check_is_folder.Goals as goal

pub returns-then-not-is_path-clause-refused : goal.returns-then-not-is_path-clause-refused
returns-then-not-is_path-clause-refused g c = λ honest reached there. grind (arith, false≢true, no_path)

pub returns-in-Ok-Other-clause-refused : goal.returns-in-Ok-Other-clause-refused
returns-in-Ok-Other-clause-refused g c = λ honest reached. grind (arith, other_seen)
