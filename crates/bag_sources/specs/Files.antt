-- The choice of the files whose digests are to be compared.
use Rattle.std.specs.Prelude.{◌≡◌, false, List, Option, Contains, MatchOption}
use Rattle.bag_text.specs.Bytes.{Path}
use Rattle.bag_text.specs.Order.{IsListOf}
use Rattle.bag_text.specs.Text.{text_cmp}
use Rattle.bag_tree.specs.Bag.{Bag}
use Rattle.bag_tree.specs.declared.listing.FileEntry.{FileEntry}
use Rattle.bag_faults.specs.FaultOrder.{fault_cmp}
use Rattle.bag_faults.specs.declared.fault.Fault.{Fault}
use Rattle.bag_facts.specs.Wanted.{paths_of}
use Rattle.bag_stages.specs.SummedFiles.{IsNamed}
use Rattle.bag_stages.specs.SumFaults.{IsFaultOfFile}
use Rattle.bag_sources.specs.ToSum.{faults_in, paths_to_sum}
use Rattle.bag_sources.specs.Openings.{is_passed}
use Rattle.bag_sources.specs.declared.to_sum.ToSum.{ToSum}

-- a manifest names the path, and a cursor hasn't passed it
abbrev pub IsNamedAhead : Bag → Option Fault → Path → Type 0
IsNamedAhead bag after path = IsNamed bag path × (is_passed after path ≡ false)

-- the faults that its digests have are those of the file in the bag
abbrev pub HasItsFaults : Bag → ToSum → Type 0
HasItsFaults bag to_sum =
    IsListOf fault_cmp (IsFaultOfFile bag to_sum.file.path) (faults_in bag to_sum)

-- the file, where it is ahead of a cursor
abbrev pub IsToSum : Bag → Option Fault → FileEntry → Option ToSum → Type 0
IsToSum bag after file chosen =
    MatchOption chosen (¬ (IsNamedAhead bag after file.path))
    (λ to_sum. (to_sum.file ≡ file) × IsNamedAhead bag after file.path × HasItsFaults bag to_sum)

-- these are the files, among some, that are ahead of a cursor
pub record AreToSum (bag : Bag) (after : Option Fault) (files : List FileEntry)
    (chosen : List ToSum) : Type 0 where
  pub paths : IsListOf text_cmp
      (λ path. Contains (paths_of files) path × IsNamedAhead bag after path) (paths_to_sum chosen)
  pub listed : (to_sum : ToSum) → Contains chosen to_sum → Contains files to_sum.file
  pub faults : (to_sum : ToSum) → Contains chosen to_sum → HasItsFaults bag to_sum
