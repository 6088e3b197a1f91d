-- Why reading a bag, and checking and summing its files, stops.
use Rattle.std.specs.Prelude.{◌≡◌, ◌⊎◌, ◌++◌, true, Bool, IsTrue, List}
use Rattle.bag_text.specs.Bytes.{Path}
use Rattle.bag_text.specs.Path.{is_path}
use Rattle.bag_tree.specs.Bag.{Bag, HasFile}
use Rattle.bag_tree.specs.Tree.{MayReportMemory, TreeState}
use Rattle.bag_tree.specs.declared.listing.FileEntry.{FileEntry}
use Rattle.bag_tree.specs.declared.tree_fault.Stop.{Stop}
use Rattle.bag_tree.specs.declared.tree_fault.TreeFault.TheVariants.{Memory}
use Rattle.bag_tree.specs.Stop.{IsOutOfMemory}
use Rattle.bag_facts.specs.Stops.{IsOfListing, MayRefuseFacts, ReportsAnswer}
use Rattle.bag_facts.specs.StopsAmong.{IsRefusedAmong, StopsAmong}
use Rattle.bag_facts.specs.Wanted.{AreWanted, ForListing, paths_of}
use Rattle.bag_report.specs.Valid.{full}
use Rattle.bag_checked.specs.Summed.{to_read}
use Rattle.bag_checked.specs.declared.checked.Unchecked.{Unchecked}
use Rattle.bag_checked.specs.declared.checked.Unchecked.TheVariants.{Faulty, Stopped}

-- so it is where a file wasn't checked to its end
abbrev pub StopsChecking : List FileEntry → TreeState → TreeState → Unchecked → Type 0
StopsChecking files old new (Stopped stop) = StopsAmong files old new stop
StopsChecking files old new (Faulty fault) = Unit {0}

-- what is opened of listed files, in this order: the tag files that are wanted, and then those that
-- are to be read
abbrev pub AreOpened : Bool → List FileEntry → List Path → Type 0
AreOpened with_payload files paths =
    (tags : List Path) × AreWanted full files tags
    × (paths ≡ tags ++ paths_of (to_read with_payload files))

-- The stop is at a file, of an honest tree's bag: the one that was refused, when those that are
-- opened before it had been, each once, and no other.
pub record IsOfFile (with_payload : Bag → Bool) (old new : TreeState) (stop : Stop) : Type 0 where
  pub named : is_path stop.path ≡ true
  pub there : IsTrue old.honest → HasFile old.bag stop.path
  -- whether the payload is to be read
  pub reads : Bool
  pub reads_is : IsTrue old.honest → reads ≡ with_payload old.bag
  pub in_turn : ForListing old (λ files. (paths : List Path) × AreOpened reads files paths
      × IsRefusedAmong paths old new stop.path)

-- A stop names the cause, which is the tree's own answer but for out of memory, and the file that
-- was refused. It names none when out of memory, and where it was the listing that was refused. Out
-- of memory is reported only where the tree reported it or refused nothing.
pub record MayStop (with_payload : Bag → Bool) (old new : TreeState) (stop : Stop) : Type 0 where
  pub cause : MayRefuseFacts old new stop.cause
  pub answered : ReportsAnswer new stop
  pub path : IsOutOfMemory stop ⊎ IsOfListing old new stop ⊎ IsOfFile with_payload old new stop
  pub out_of_memory : stop.cause ≡ Memory → MayReportMemory old new

-- so it is where a bag, with its payload, wasn't read to its end
abbrev pub MayStopUnchecked : TreeState → TreeState → Unchecked → Type 0
MayStopUnchecked old new (Stopped stop) = MayStop (λ bag. true) old new stop
MayStopUnchecked old new (Faulty fault) = Unit {0}
