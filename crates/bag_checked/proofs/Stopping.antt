-- Checking files stopped at one of them, or when out of memory.
use Rattle.bag_checked.proofs.Common.{◌∷◌, inl, inr, ℕ, List, [], Option, refl}
use Rattle.bag_facts.proofs.StoppingAmong.{stop_of_memory}
use Rattle.bag_tree.specs.Stop.{IsOutOfMemory}
use Rattle.bag_tree.proofs.Calm.{nothing_asked}
use Rattle.bag_tree.specs.Tree.{NothingFailed, TreeState}
use Rattle.bag_tree.specs.declared.listing.FileEntry.{FileEntry}
use Rattle.bag_tree.specs.declared.tree_fault.Stop.{Stop}
use Rattle.bag_stages.specs.Expected.{Expected}
use Rattle.bag_checked.specs.Checked.{DiffersFirst}
use Rattle.bag_checked.specs.OneReading.{IsLeftUnchecked}
use Rattle.bag_checked.specs.Stops.{StopsChecking}
use Rattle.bag_checked.specs.Summed.{IsNoMemory}
use Rattle.bag_checked.specs.declared.checked.Unchecked.{Unchecked}
use Rattle.bag_checked.specs.declared.checked.Unchecked.TheVariants.{Faulty, Stopped}

-- out of memory stops it
pub stops_for_memory : (files : List FileEntry) (old new : TreeState) (e : Unchecked) → IsNoMemory e
    → NothingFailed old new → StopsChecking files old new e
stops_for_memory files old new (Stopped stop) h no_failure = stop_of_memory files old new stop h (inr no_failure)
stops_for_memory files old new (Faulty fault) h no_failure = absurd h

-- so it does where a file's digests are compared
pub stop_of_difference : (files : List FileEntry) (old new : TreeState) (path : List ℕ) (expected : List Expected)
    (sums : List (Option (List ℕ))) (e : Unchecked) → DiffersFirst path expected sums e → NothingFailed old new
    → StopsChecking files old new e
stop_of_difference files old new path expected sums (Stopped stop) h no_failure =
    stop_of_memory files old new stop h (inr no_failure)
stop_of_difference files old new path expected sums (Faulty fault) h no_failure = tt

-- before it is opened
pub left_for_memory : (entry : FileEntry) (expected : List Expected) (state : TreeState) (stop : Stop)
    → IsOutOfMemory stop → IsLeftUnchecked entry expected state state (Stopped stop)
left_for_memory entry expected state stop memory = record {
  opens = inl refl;
  differs = tt;
  stopped = stop_of_memory (entry ∷ []) state state stop memory (inr (nothing_asked state));
}
