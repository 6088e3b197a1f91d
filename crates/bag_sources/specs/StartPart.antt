-- A walk over a part of a report that was started.
use Rattle.std.specs.Prelude.{ℕ, ◌≡◌, ◌<◌, false, true, List, Option, Result, Ok, Err, IsTrue}
use Rattle.bag_text.specs.Bytes.{Path}
use Rattle.bag_text.specs.Code.{stage}
use Rattle.bag_text.specs.Order.{IsListOf}
use Rattle.bag_text.specs.Text.{text_cmp}
use Rattle.bag_tree.specs.Bag.{Bag, IsBag}
use Rattle.bag_tree.specs.Tree.{TreeState}
use Rattle.bag_tree.specs.declared.listing.FileEntry.{FileEntry}
use Rattle.bag_tree.specs.declared.tree.Tree as Tree
use Rattle.bag_tree.specs.declared.tree_fault.Stop.{Stop}
use Rattle.bag_faults.specs.FaultOrder.{fault_cmp}
use Rattle.bag_faults.specs.Part.{Part}
use Rattle.bag_facts.specs.declared.facts.Facts.{Facts}
use Rattle.bag_faults.specs.declared.fault.Fault.{Fault}
use Rattle.bag_faults.specs.declared.options.Options.{Options}
use Rattle.bag_profile.specs.Profile.{Profile}
use Rattle.bag_report.specs.Report.{Check, check_with}
use Rattle.bag_stages.specs.SummedFiles.{IsSummed}
use Rattle.bag_sources.specs.FactsOf.{ForBagOf, ForCheckOf}
use Rattle.bag_sources.specs.Openings.{IsToOpen, is_passed}
use Rattle.bag_sources.specs.Parts.{AreFilesIn, bounds_of, is_file_within, is_within}
use Rattle.bag_sources.specs.Start.{StartsWith}
use Rattle.bag_sources.specs.Steps.{IsAhead}
use Rattle.bag_sources.specs.declared.part.Bounds.{Bounds}
use Rattle.bag_sources.specs.declared.part.Listed.{Listed}
use Rattle.bag_sources.specs.declared.source.Source as Source
use Rattle.bag_sources.specs.declared.steps.Steps.{Steps}

-- one of these faults, between two bounds
abbrev pub IsWithin : Bounds → (Fault → Type 0) → Fault → Type 0
IsWithin bounds IsOne f = IsOne f × (is_within bounds f ≡ true)

-- a fault of the report that stands above a cursor and between two bounds
abbrev pub IsAheadWithin : Check → Option Fault → Bounds → Fault → Type 0
IsAheadWithin check after bounds = IsWithin bounds (IsAhead check after)

-- what is still to be given is what stands there
abbrev pub IsReportWithin : Check → Option Fault → Bounds → List Fault → Type 0
IsReportWithin check after bounds faults =
    IsListOf fault_cmp (IsAheadWithin check after bounds) faults

-- the part of it that is of one stage
abbrev pub IsStageWithin : Check → ℕ → Option Fault → Bounds → List Fault → Type 0
IsStageWithin check k after bounds faults =
    IsListOf fault_cmp (λ f. IsAheadWithin check after bounds f × (stage f.code ≡ k)) faults

-- and that of the stages before that of digests
abbrev pub AreEarlyWithin : Check → Option Fault → Bounds → List Fault → Type 0
AreEarlyWithin check after bounds faults =
    IsListOf fault_cmp (λ f. IsAheadWithin check after bounds f × (stage f.code < 7)) faults

-- these are the files between two bounds whose digests are compared and that a cursor hasn't
-- passed, in path order
abbrev pub AreSummedWithin : Bag → Option Fault → Bounds → List Path → Type 0
AreSummedWithin bag after bounds paths =
    IsListOf text_cmp (λ path. (IsSummed bag path × (is_passed after path ≡ false))
    × (is_file_within bounds path ≡ true)) paths

-- and that the check needs
abbrev pub AreToOpenWithin : Check → Option Fault → Bounds → List Path → Type 0
AreToOpenWithin check after bounds paths =
    IsListOf text_cmp (λ path. IsToOpen check after path × (is_file_within bounds path ≡ true))
    paths

-- These sources hold the faults of a bag of which these are the facts, above a cursor and between
-- two bounds: what is left of them is what stands there, and the files that they open are those
-- still to be opened.
pub record AreSourcesWithin {T S : Type 0} (source : Source.Ghosts S T) (facts : Facts)
    (profile : Option Profile) (after : Option Fault) (bounds : Bounds) (sources : S) : Type 0 where
  pub of : ForBagOf facts (λ bag. source.is_of bag sources)
  pub stands : ForCheckOf facts profile (λ check.
      IsReportWithin check after bounds (source.remaining check.bag sources))
  pub files : ForCheckOf facts profile (λ check.
      AreToOpenWithin check after bounds (source.todo sources))

-- A walk over a part has given nothing yet: what its source holds is of a bag that was seen, which
-- is an honest tree's. What is left is the report of that bag above the cursor, and the files still
-- to be opened are in path order those that it needs, of both what stands between the bounds of the
-- part, which the files of that bag give.
pub record IsPartStarted (old : TreeState) (profile : Option Profile) (options : Options)
    (after : Option Fault) (part : Part) (IsOf : Bag → Type 0) (left : Bag → List Fault)
    (todo : List Path) : Type 0 where
  pub seen : Bag
  pub is_bag : IsBag seen
  pub honest : IsTrue old.honest → seen ≡ old.bag
  pub of : IsOf seen
  pub listing : List FileEntry
  pub listed : AreFilesIn seen listing
  pub stands : IsReportWithin (check_with seen profile options) after (bounds_of listing part)
      (left seen)
  pub files : AreToOpenWithin (check_with seen profile options) after (bounds_of listing part) todo

-- what a tree means when a walk over a part was started, or when it came back
abbrev pub state_after_part : {T S : Type 0} → Tree.Ghosts T
    → Result (Steps T S × Listed) (T × Stop) → TreeState
state_after_part tree (Ok begun) = tree.state begun.0.tree
state_after_part tree (Err refused) = tree.state refused.0

-- a walk over a part was started, and has those of the part still to give
abbrev pub StartsPart : {T S : Type 0} → Tree.Ghosts T → Source.Ghosts S T
    → TreeState → Option Profile → Options → Option Fault → Part → Steps T S → Type 0
StartsPart tree source old profile options after part =
    StartsWith (IsPartStarted old profile options after part) tree source old options
