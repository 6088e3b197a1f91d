-- What a source of faults of validity holds.
use Rattle.std.specs.Prelude.{◌≡◌, false, List, [], ◌++◌, Contains, Option, IsTrue}
use Rattle.std.specs.List.Sorted.{IsStrictlySortedBy}
use Rattle.bag_text.specs.Bytes.{Path}
use Rattle.bag_text.specs.Order.{IsListOf}
use Rattle.bag_text.specs.Text.{text_cmp}
use Rattle.bag_tree.specs.Bag.{Bag}
use Rattle.bag_tree.specs.Tree.{Keeps, NothingFailed, TreeState}
use Rattle.bag_tree.specs.FileReads.{IsEntryOf}
use Rattle.bag_tree.specs.declared.tree_fault.Stop.{Stop}
use Rattle.bag_faults.specs.FaultOrder.{fault_cmp}
use Rattle.bag_faults.specs.declared.fault.Fault.{Fault}
use Rattle.bag_stages.specs.SummedFiles.{IsSummed}
use Rattle.bag_sources.specs.Filling.{MayStopAnyway, MayStopFilling}
use Rattle.bag_sources.specs.Source.{Sees}
use Rattle.bag_sources.specs.SourceOpenings.{NoFaultBeforeStop, Opens, OpensAgain}
use Rattle.bag_sources.specs.SourceOpenings.{OpensNoFileEarly, StopsAtNext}
use Rattle.bag_sources.specs.declared.to_sum.ToSum.{ToSum}
use Rattle.bag_sources.specs.ToSum.{faults_of_files, paths_to_sum}
use Rattle.bag_sources.specs.Openings.{is_passed}

-- these are files of the bag, in path order
pub record AreFilesOf (bag : Bag) (files : List ToSum) : Type 0 where
  pub in_order : IsStrictlySortedBy text_cmp (paths_to_sum files)
  pub entries : (to_sum : ToSum) → Contains files to_sum → IsEntryOf bag to_sum.file

-- these are the files whose digests are compared and that a cursor hasn't passed, in path order
abbrev pub AreSummedAhead : Bag → Option Fault → List Path → Type 0
AreSummedAhead bag after paths =
    IsListOf text_cmp (λ path. IsSummed bag path × (is_passed after path ≡ false)) paths

-- by what a tree is and the files that are still to be opened
module _ (state : TreeState) (pending : List ToSum) where
  -- so it is for each bag that the tree shows
  abbrev pub ForBagSeen : (Bag → Type 0) → Type 0
  ForBagSeen Holds = (bag : Bag) → Sees state (paths_to_sum pending) bag → Holds bag

  -- and of which these are files
  abbrev pub ForFilesSeen : (Bag → Type 0) → Type 0
  ForFilesSeen Holds = ForBagSeen (λ bag. AreFilesOf bag pending → Holds bag)

  -- if the tree is honest, they are files of its bag
  abbrev pub AreOfHonest : Type 0
  AreOfHonest = IsTrue state.honest → AreFilesOf state.bag pending

-- the faults that were found ascend, and are less than those of the files that are left
pub record IsOfBag (bag : Bag) (after : Option Fault) (pending : List ToSum)
    (found : List Fault) : Type 0 where
  pub files : AreFilesOf bag pending
  pub ascends : IsStrictlySortedBy fault_cmp (found ++ faults_of_files bag after pending)

-- Files are gone through from the first on, by a cursor, until these are left.
module _ (after : Option Fault) (before left : List ToSum) (old new : TreeState) where
  -- Whatever the end, the tree keeps its bag, those that are left are files of the bag as all were,
  -- and no file was opened before which a fault stands.
  pub record GoesThrough : Type 0 where
    pub keeps : Keeps old new
    pub files : (bag : Bag) → AreFilesOf bag before → AreFilesOf bag left
    pub none_early : ForFilesSeen old before (λ bag.
        OpensNoFileEarly (faults_of_files bag after before) old new)

  -- These faults are those of the last that was opened, and of those before it there are none.
  -- Where these are none, no file is left.
  pub record FindsFaults (faults : List Fault) : Type 0 where
    pub no_failure : NothingFailed old new
    pub opens : Opens (paths_to_sum before) (paths_to_sum left) old new
    pub ended : faults ≡ [] → left ≡ []
    pub found : ForBagSeen old before (λ bag.
        faults ++ faults_of_files bag after left ≡ faults_of_files bag after before)

  -- It stopped at the first that is left, or when out of memory: those before it had no faults.
  pub record StopsAtFile (stop : Stop) : Type 0 where
    pub again : OpensAgain (paths_to_sum before) (paths_to_sum left) old new
    pub reached : StopsAtNext (paths_to_sum before) old new stop
    pub waits : ForFilesSeen old before (λ bag.
        NoFaultBeforeStop (faults_of_files bag after before) stop.path)
    pub same : ForBagSeen old before (λ bag.
        faults_of_files bag after left ≡ faults_of_files bag after before)
    pub may_stop : AreOfHonest old before → MayStopFilling (paths_to_sum left) old new stop
    pub may_stop_anyway : MayStopAnyway (paths_to_sum left) old new stop
