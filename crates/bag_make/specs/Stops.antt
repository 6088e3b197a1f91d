-- Why the files of a folder can't be read.
use Rattle.std.specs.Prelude.{◌≡◌, ◌≢◌, ◌⊎◌, true, false, IsTrue, map}
use Rattle.bag_text.specs.Path.{is_path}
use Rattle.bag_tree.specs.Bag.{files_of}
use Rattle.bag_tree.specs.Tree.{TreeState}
use Rattle.bag_tree.specs.declared.tree_fault.Stop.{Stop}
use Rattle.bag_tree.specs.declared.tree_fault.TreeFault.TheVariants.{Memory}
use Rattle.bag_facts.specs.Stops.{IsOfListing, MayRefuseFacts, ReportsAnswer}
use Rattle.bag_facts.specs.StopsAmong.{IsRefusedAmong}
use Rattle.bag_make.specs.Plan.{is_in_the_way}

-- A file was refused. Of an honest tree it is the one of its bag at which reading had come, and
-- nothing is in the way.
abbrev pub IsOfFolder : TreeState → TreeState → Stop → Type 0
IsOfFolder old new stop =
    (is_path stop.path ≡ true)
    × (IsTrue old.honest
    → IsRefusedAmong (map (λ e. e.0) (files_of old.bag)) old new stop.path
    × (is_in_the_way old.bag ≡ false))

-- A stop names the cause, which is the tree's own answer, and the file that was refused; none where
-- it was the listing.
pub record MayStopMaking (old new : TreeState) (stop : Stop) : Type 0 where
  pub cause : MayRefuseFacts old new stop.cause
  pub not_memory : stop.cause ≢ Memory
  pub answered : ReportsAnswer new stop
  pub path : IsOfListing old new stop ⊎ IsOfFolder old new stop
