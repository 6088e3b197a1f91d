-- Which files are opened where a bag is checked, also where it is refused.
use Rattle.std.specs.Prelude.{ℕ, ◌≡◌, ◌≢◌, ◌<◌, ◌++◌, All, Bool, IsTrue, List, [], map, take, true}
use Rattle.std.specs.List.Sorted.{IsStrictlySortedBy}
use Rattle.bag_text.specs.Code.{stage}
use Rattle.bag_text.specs.Text.{text_cmp}
use Rattle.bag_facts.specs.Wanted.{IsWanted, OpensFirstOf, OpensWanted, paths_of}
use Rattle.bag_faults.specs.declared.fault.Fault.{Fault}
use Rattle.bag_tree.specs.Bag.{Bag, IsBag, files_of}
use Rattle.bag_tree.specs.Tree.{TreeState}
use Rattle.bag_tree.specs.declared.listing.FileEntry.{FileEntry}
use Rattle.bag_report.specs.Valid.{full}
use Rattle.bag_checked.specs.FirstFaults.{HasNoEarlyFault}
use Rattle.bag_checked.specs.Summed.{files_to_read, to_read}
use Rattle.bag_checked.specs.declared.checked.Unchecked.{Unchecked}
use Rattle.bag_checked.specs.declared.checked.Unchecked.TheVariants.{Faulty, Stopped}

-- the first of the listed files that are to be read were opened, each once and in their order, and
-- no other file
abbrev pub OpensFirstToRead : Bool → List FileEntry → TreeState → TreeState → Type 0
OpensFirstToRead with_payload files old new =
    OpensFirstOf (paths_of (to_read with_payload files)) old new

-- Tag files were read, each once at most and in path order, and then the first of the files of a
-- bag that are to be read were opened, each once and in path order; but none before the bag was
-- ready for it. The bag is an honest tree's own.
pub record OpensInTurn (with_payload : Bag → Bool) (IsReady : Bag → Type 0) (old new : TreeState)
    : Type 0 where
  pub tags : List (List ℕ)
  pub read : List (List ℕ)
  pub opened : new.openings ≡ (old.openings ++ tags) ++ read
  pub tags_in_order : IsStrictlySortedBy text_cmp tags
  pub wanted : All (IsWanted full) tags
  pub read_in_order : IsStrictlySortedBy text_cmp read
  pub bag : Bag
  pub is_bag : IsBag bag
  pub own : IsTrue old.honest → bag ≡ old.bag
  pub first : (count : ℕ)
      × (read ≡ take count (map (λ e. e.0) (files_to_read (with_payload bag) (files_of bag))))
  pub ready : read ≢ [] → IsReady bag

-- a fault of a stage that opens no payload file
abbrev pub IsEarly : Fault → Type 0
IsEarly f = stage f.code < 7

-- where the manifests of further algorithms are made, so it is with all files
abbrev pub OpensAllInTurn : TreeState → TreeState → Type 0
OpensAllInTurn old new = OpensInTurn (λ bag. true) HasNoEarlyFault old new

-- where a fault of such a stage is told only tag files were opened, each once at most
abbrev pub OpensBeforeFiles : TreeState → TreeState → Unchecked → Type 0
OpensBeforeFiles old new (Stopped stop) = Unit {0}
OpensBeforeFiles old new (Faulty fault) = IsEarly fault → OpensWanted full old new

-- a file's digest differs, if it isn't a stop
abbrev pub IsOfSeventh : Unchecked → Type 0
IsOfSeventh (Stopped stop) = Unit {0}
IsOfSeventh (Faulty fault) = stage fault.code ≡ 7
