-- A walk over the faults of a source.
use Rattle.std.specs.Prelude.{◌≡◌, ◌⊎◌, Bool, true, List, [], Option, None, Some, Result, Ok}
use Rattle.std.specs.Prelude.{Err, IfErr, IfOk, IsTrue, MatchResult, OnErr, OnOk, if◌then◌else◌}
use Rattle.std.specs.Borrow.{Bor}
use Rattle.std.specs.Option.{option_copied}
use Rattle.std.specs.declared.cmp.Ordering.TheVariants.{Less}
use Rattle.bag_text.specs.Bytes.{Path}
use Rattle.bag_text.specs.Order.{IsListOf}
use Rattle.bag_tree.specs.Bag.{Bag}
use Rattle.bag_tree.specs.Tree.{TreeState, Keeps, NothingFailed}
use Rattle.bag_tree.specs.declared.tree.Tree as Tree
use Rattle.bag_tree.specs.declared.tree_fault.Stop.{Stop}
use Rattle.bag_faults.specs.FaultOrder.{fault_cmp}
use Rattle.bag_faults.specs.declared.fault.Fault.{Fault}
use Rattle.bag_report.specs.Report.{Check, IsReported, is_above}
use Rattle.bag_sources.specs.SourceOpenings.{NoFaultBeforeStop, Opens, OpensAgain}
use Rattle.bag_sources.specs.SourceOpenings.{OpensNoFileEarly, StillWait, StopsAtNext}
use Rattle.bag_sources.specs.Source.{rest_of, Sees}
use Rattle.bag_sources.specs.Filling.{first_of, MayStopAnyway, MayStopFilling}
use Rattle.bag_sources.specs.declared.source.Source as Source
use Rattle.bag_sources.specs.declared.steps.Steps.{Steps}

-- the fault at which a walk stands: the one that its source has found, where it was given
abbrev pub shown_by : Bool → Option Fault → Option Fault
shown_by is_shown found = if is_shown then found else None

-- the faults that are still to be given: those that are left, without the one that was given
abbrev pub to_give : Option Fault → List Fault → List Fault
to_give None faults = faults
to_give (Some f) faults = rest_of faults

-- a fault of the report that stands above a position
abbrev pub IsAhead : Check → Option Fault → Fault → Type 0
IsAhead check position f = IsReported check f × (is_above position f ≡ true)

-- what is still to be given is what stands above this position
abbrev pub IsReportAfter : Check → Option Fault → List Fault → Type 0
IsReportAfter check position faults = IsListOf fault_cmp (IsAhead check position) faults

-- it is the least fault above the position, or none stands above it
abbrev pub IsNextOf : Check → Option Fault → Option Fault → Type 0
IsNextOf check position None = (f : Fault) → ¬ (IsAhead check position f)
IsNextOf check position (Some f) =
    IsAhead check position f
    × ((g : Fault) → IsAhead check position g → (f ≡ g) ⊎ (fault_cmp f g ≡ Less))

-- the position after what was given: that, or where none was given the one before it
abbrev pub next_position : Option Fault → Option Fault → Option Fault
next_position position None = position
next_position position (Some f) = Some f

-- The least fault above the position was given, and is the position now; or none is above it, and
-- the position stays.
abbrev pub Gives : Check → Option Fault → Option Fault → List Fault → Type 0
Gives check position given faults =
    IsNextOf check position given × IsReportAfter check (next_position position given) faults

-- whether a call was refused, whatever it gives
abbrev pub went : {A : Type 0} → Result A Stop → Result (Unit {0}) Stop
went (Ok x) = Ok tt
went (Err stop) = Err stop

-- A step of a walk may stop so: at one of the files that were to be opened, after those before it,
-- or when out of memory. More is said where the source is of an honest tree's bag.
pub record MayStopStep (todo : List Path) (old : TreeState) (IsOf : Type 0) (stop : Stop)
    : Type 0 where
  pub new : TreeState
  pub left : List Path
  pub keeps : Keeps old new
  pub opened : OpensAgain todo left old new
  pub anyway : MayStopAnyway left old new stop
  pub refused : IsOf → MayStopFilling left old new stop

-- of a walk over a source
module _ {T S : Type 0} (source : Source.Ghosts S T) where
  -- the fault at which it stands
  abbrev pub shown : Steps T S → Option Fault
  shown walk = shown_by walk.is_shown (source.found walk.source)

  -- the faults that it has still to give of a bag
  abbrev pub left : Bag → Steps T S → List Fault
  left bag walk = to_give (shown walk) (source.remaining bag walk.source)

  -- the files that it may still open, the next one first
  abbrev pub to_open : Steps T S → List Path
  to_open walk = source.todo walk.source

  -- where it gives no fault any more, it has no file to open
  abbrev pub IsDone : Steps T S → Type 0
  IsDone walk = shown walk ≡ None → to_open walk ≡ []

-- of a walk over a tree and a source
module _ {T S : Type 0} (tree : Tree.Ghosts T) (source : Source.Ghosts S T) where
  -- what its tree means
  abbrev pub state : Steps T S → TreeState
  state walk = tree.state walk.tree

  -- its source is of this bag, and its tree shows it
  abbrev pub IsOver : Bag → Steps T S → Type 0
  IsOver bag walk = source.is_of bag walk.source × Sees (state walk) (to_open source walk) bag

  -- so it is for each bag that the walk is over
  abbrev pub ForEachBag : Steps T S → (Bag → Type 0) → Type 0
  ForEachBag walk Holds =
      (bag : Bag) → source.is_of bag walk.source → Sees (state walk) (to_open source walk) bag
      → Holds bag

  -- if its tree is honest, its source is of that tree's bag
  abbrev pub WalkIsOfHonest : Steps T S → Type 0
  WalkIsOfHonest walk = IsTrue (state walk).honest → source.is_of (state walk).bag walk.source

  -- it opened the first of its files, each once and in their order, and no other
  abbrev pub OpensNext : Steps T S → Steps T S → Type 0
  OpensNext old new = Opens (to_open source old) (to_open source new) (state old) (state new)

  -- the same, but that it may open the last of them again
  abbrev pub MayReopenLast : Steps T S → Steps T S → Type 0
  MayReopenLast old new =
      OpensAgain (to_open source old) (to_open source new) (state old) (state new)

  -- it stopped when out of memory, or at a file of its own when those before it had been opened
  abbrev pub IsStoppedInTurn : Steps T S → Steps T S → Stop → Type 0
  IsStoppedInTurn old new stop = StopsAtNext (to_open source old) (state old) (state new) stop

  -- no fault that it has to give stands before the file at which it stopped
  abbrev pub StopsBeforeRemaining : Steps T S → Stop → Type 0
  StopsBeforeRemaining old stop =
      ForEachBag old (λ bag. NoFaultBeforeStop (left source bag old) stop.path)

  -- no fault that it has to give stands before a file that it opened
  abbrev pub WalkOpensNoFileEarly : Steps T S → Steps T S → Type 0
  WalkOpensNoFileEarly old new =
      ForEachBag old (λ bag. OpensNoFileEarly (left source bag old) (state old) (state new))

  -- The first fault that it had to give is the one at which it stands, and no more to be given;
  -- after a refusal it stands at none, and has the same faults to give as before.
  abbrev pub GivesFirst : Steps T S → Steps T S → Result (Unit {0}) Stop → Type 0
  GivesFirst old new result = ForEachBag old (λ bag.
      let before = left source bag old in
      let after = left source bag new in
      source.is_of bag new.source × MatchResult result
      (λ _. (shown source new ≡ first_of before) × (after ≡ rest_of before))
      (λ _. (shown source new ≡ None) × (after ≡ before)))

  -- a step from here may stop so: over an honest tree of its bag, and over any
  abbrev pub MayStopHere : Steps T S → Steps T S → Stop → Type 0
  MayStopHere old new stop =
      WalkIsOfHonest old → MayStopFilling (to_open source new) (state old) (state new) stop

  abbrev pub MayStopOverAny : Steps T S → Steps T S → Stop → Type 0
  MayStopOverAny old new stop = MayStopAnyway (to_open source new) (state old) (state new) stop

  -- One step of a walk. It goes to the least fault of the report above its position, which becomes
  -- the position; after a refusal the position is the same. It opens the first of the files that
  -- were to be opened, each once, of which after a refusal the last may be left too. A file before
  -- which a fault stands that was to be given waits on.
  pub record GoesOn (old new : Steps T S) (answer : Result (Unit {0}) Stop) : Type 0 where
    pub keeps : Keeps (state old) (state new)
    pub no_failure : OnOk answer (NothingFailed (state old) (state new))
    pub over : (bag : Bag) → IsOver bag old → source.is_of bag new.source
    pub position : (check : Check) (position : Option Fault)
        → IsOver check.bag old → IsReportAfter check position (left source check.bag old)
        → MatchResult answer
        (λ _. Gives check position (shown source new) (left source check.bag new))
        (λ _. IsReportAfter check position (left source check.bag new))
    pub opens : OnOk answer (OpensNext old new)
    pub again : OnErr answer (MayReopenLast old new)
    pub ended : OnOk answer (IsDone source new)
    pub waits : (bag : Bag) (files : List Path) → IsOver bag old
        → StillWait files (left source bag old) (to_open source old)
        → StillWait files (left source bag old) (to_open source new)
    pub stop : IfErr answer (MayStopHere old new)
    pub anyway : IfErr answer (MayStopOverAny old new)

  -- a step from here may stop so, whatever it leaves
  abbrev pub MayStopNext : Steps T S → Stop → Type 0
  MayStopNext old stop = MayStopStep (to_open source old) (state old) (WalkIsOfHonest old) stop

  -- the fault at which the walk stands after a step is lent
  abbrev pub LendsNext : Steps T S → Steps T S → Result (Option (Bor Fault)) Stop → Type 0
  LendsNext old new answer =
      GoesOn old new (went answer) × IfOk answer (λ given. option_copied given ≡ shown source new)

  -- the least fault above the position, where it was given
  abbrev pub LendsLeast : Steps T S → Result (Option (Bor Fault)) Stop → Type 0
  LendsLeast old answer = (check : Check) (position : Option Fault)
      → source.is_of check.bag old.source → Sees (state old) (to_open source old) check.bag
      → IsReportAfter check position (left source check.bag old)
      → IfOk answer (λ given. IsNextOf check position (option_copied given))
