-- A walk that was started.
use Rattle.std.specs.Prelude.{ℕ, ◌≡◌, ◌≢◌, ◌⊎◌, ◌<◌, false, true, List, [], filter, Option, Result}
use Rattle.std.specs.Prelude.{Ok, Err, IsTrue}
use Rattle.bag_text.specs.Bytes.{Path}
use Rattle.bag_text.specs.Code.{stage}
use Rattle.bag_text.specs.Order.{IsListOf}
use Rattle.bag_text.specs.Path.{is_payload_path}
use Rattle.bag_text.specs.Text.{text_cmp}
use Rattle.bag_text.specs.declared.alg.Alg.{Alg}
use Rattle.bag_read.specs.declared.kind.Kind.TheVariants.{Payload}
use Rattle.bag_tree.specs.Bag.{Bag, HasFile, IsBag}
use Rattle.bag_tree.specs.Tree.{NothingFailed, TreeState}
use Rattle.bag_tree.specs.declared.tree.Tree as Tree
use Rattle.bag_tree.specs.declared.tree_fault.Stop.{Stop}
use Rattle.bag_faults.specs.FaultOrder.{fault_cmp}
use Rattle.bag_facts.specs.TagReader.{MayStopReading, OpensAll, OpensFirst}
use Rattle.bag_facts.specs.Wanted.{ForListing, OpensUpTo}
use Rattle.bag_faults.specs.declared.fault.Fault.{Fault}
use Rattle.bag_faults.specs.declared.options.Depth.TheVariants.{Full}
use Rattle.bag_faults.specs.declared.options.Options.{Options}
use Rattle.bag_profile.specs.Profile.{Profile}
use Rattle.bag_report.specs.Report.{Check, check_with}
use Rattle.bag_stages.specs.TagFiles.{Names}
use Rattle.bag_sources.specs.declared.source.Source as Source
use Rattle.bag_sources.specs.declared.steps.Steps.{Steps}
use Rattle.bag_sources.specs.Steps.{left, to_open, IsAhead, IsReportAfter}
use Rattle.bag_sources.specs.Openings.{is_passed, AreToOpen}

-- the part of a report that is of the stages before this one and above a cursor
abbrev pub AreAheadBefore : Check → ℕ → Option Fault → List Fault → Type 0
AreAheadBefore check k after faults =
    IsListOf fault_cmp (λ f. IsAhead check after f × (stage f.code < k)) faults

-- and of the payload one that a payload manifest names (RFC 8493, 2.1.3)
abbrev pub IsListedToOpen : Check → Option Fault → Path → Type 0
IsListedToOpen check after path =
    (check.options.depth ≡ Full) × (is_payload_path path ≡ true) × HasFile check.bag path
    × ((alg : Alg) × Names check.bag Payload alg path) × (is_passed after path ≡ false)

abbrev pub AreListedToOpen : Check → Option Fault → List Path → Type 0
AreListedToOpen check after files = IsListOf text_cmp (IsListedToOpen check after) files

-- A walk has given nothing yet: what its source holds is of a bag that was seen, which is an honest
-- tree's; what is left is the report of that bag above the cursor, and the files still to be opened
-- are in path order those that it needs.
pub record IsStarted (old : TreeState) (profile : Option Profile) (options : Options)
    (after : Option Fault) (IsOf : Bag → Type 0) (left : Bag → List Fault)
    (todo : List Path) : Type 0 where
  pub seen : Bag
  pub is_bag : IsBag seen
  pub honest : IsTrue old.honest → seen ≡ old.bag
  pub of : IsOf seen
  pub stands : IsReportAfter (check_with seen profile options) after (left seen)
  pub files : AreToOpen (check_with seen profile options) after todo
  pub payload : AreListedToOpen (check_with seen profile options) after
      (filter is_payload_path todo)

-- all the tag files that are to be read were opened
abbrev pub OpensAllListed : Options → TreeState → TreeState → Type 0
OpensAllListed options old new = ForListing old (λ files. OpensAll options files old new)

-- no file was opened, or the first of them were
abbrev pub OpensNoneOrFirst : Options → TreeState → TreeState → Type 0
OpensNoneOrFirst options old new =
    (new.openings ≡ old.openings) ⊎ ForListing old (λ files. OpensFirst options files old new)

-- where a file was refused, they were opened up to that one
abbrev pub OpensUpToRefused : Options → Stop → TreeState → TreeState → Type 0
OpensUpToRefused options stop old new =
    stop.path ≢ [] → ForListing old (λ files. OpensUpTo options files stop.path old new)

-- what a tree means when a walk over it was started, or when it came back
abbrev pub state_after : {T S : Type 0} → Tree.Ghosts T → Result (Steps T S) (T × Stop) → TreeState
state_after tree (Ok walk) = tree.state walk.tree
state_after tree (Err refused) = tree.state refused.0

-- A walk was started: nothing was refused, all the tag files that are to be read were opened, and
-- of an honest tree it is known that only files and folders stand there. It has given nothing yet,
-- and its source holds what it has still to give.
pub record StartsWith {T S : Type 0}
    (Holds : (Bag → Type 0) → (Bag → List Fault) → List Path → Type 0) (tree : Tree.Ghosts T)
    (source : Source.Ghosts S T) (old : TreeState) (options : Options) (walk : Steps T S)
    : Type 0 where
  pub no_failure : NothingFailed old (tree.state walk.tree)
  pub plain : IsTrue old.honest → IsTrue old.plain
  pub opened : OpensAllListed options old (tree.state walk.tree)
  pub shown : walk.is_shown ≡ false
  pub started : Holds (λ bag. source.is_of bag walk.source) (λ bag. left source bag walk)
      (to_open source walk)

-- a walk was started, and has all faults of the report above the cursor still to give
abbrev pub Starts : {T S : Type 0} → Tree.Ghosts T → Source.Ghosts S T
    → TreeState → Option Profile → Options → Option Fault → Steps T S → Type 0
Starts tree source old profile options after =
    StartsWith (IsStarted old profile options after) tree source old options

-- Or none was, and the tree comes back: of the tag files the first were opened, and where a file
-- was refused those up to it; and it stopped as reading the facts may.
pub record IsNotStarted {T : Type 0} (tree : Tree.Ghosts T) (options : Options) (old : TreeState)
    (refused : T × Stop) : Type 0 where
  pub opened_first : OpensNoneOrFirst options old (tree.state refused.0)
  pub refused_at : OpensUpToRefused options refused.1 old (tree.state refused.0)
  pub stop : MayStopReading options old (tree.state refused.0) refused.1
