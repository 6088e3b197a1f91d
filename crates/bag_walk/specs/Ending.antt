-- What is written of faults that are shown, and how a run may end.
use Rattle.std.specs.Prelude.{zero, suc, ⊤, ℕ, ◌<◌, ◌≡◌, ◌≢◌, true, List, [], ◌∷◌, ◌++◌}
use Rattle.std.specs.Prelude.{length, map, slice_get, take, codes}
use Rattle.std.specs.Prelude.{Option, Some, None, if◌then◌else◌, nat_le, unwrap_or}
use Rattle.std.specs.List.{concat}
use Rattle.std.specs.Io.KnownBytes.{Appends}
use Rattle.bag_tree.specs.Out.{OutState}
use Rattle.bag_tree.specs.declared.tree_fault.Stop.{Stop}
use Rattle.bag_faults.specs.FaultLine.{fault_line}
use Rattle.bag_faults.specs.declared.fault.Fault.{Fault}
use Rattle.bag_walk.specs.Closing.{closing}
use Rattle.bag_walk.specs.declared.outcome.Outcome.{Outcome}
use Rattle.bag_walk.specs.declared.outcome.Outcome.TheVariants.{Clean, Faults, Stopped}
use Rattle.bag_walk.specs.declared.outcome.Outcome.TheVariants.{Rest, Unread, Unwritten}
use Rattle.bag_walk.specs.declared.outcome.Request.{Request}

-- a fault's line with its end
abbrev pub written_line : Fault → List ℕ
written_line f = fault_line f ++ codes "\n"

-- each fault's line with its end
abbrev pub written : List Fault → List (List ℕ)
written faults = map written_line faults

-- the lines of a run that shows these faults and ends so
abbrev pub lines_of_run : Request → List Fault → Outcome → List (List ℕ)
lines_of_run request shown outcome = written shown ++ closing request outcome ∷ []

-- the bytes are n whole lines of these and a proper part of the next
abbrev pub IsCutAt : ℕ → List (List ℕ) → List ℕ → Type 0
IsCutAt n lines bytes =
    (part more : List ℕ) × (slice_get lines n ≡ Some (part ++ more)) × (more ≢ [])
    × (bytes ≡ concat (take n lines) ++ part)

-- the output took all of these lines
abbrev pub TookAll : List (List ℕ) → OutState → OutState → Type 0
TookAll lines before after = Appends before.taken after.taken (concat lines)

-- or it refused, and took n whole lines of them and a proper part of the next
abbrev pub TookPart : ℕ → List (List ℕ) → OutState → OutState → Type 0
TookPart n lines before after = (after.has_refused ≡ true)
    × ((bytes : List ℕ) × IsCutAt n lines bytes × Appends before.taken after.taken bytes)

-- The run wrote all of its text and answered so; or the output refused, and took n whole lines of
-- that text and a proper part of the next.
abbrev pub Wrote : Request → List Fault → Outcome → OutState → OutState → Outcome → Type 0
Wrote request shown ending before after (Unwritten n) =
    TookPart n (lines_of_run request shown ending) before after
Wrote request shown ending before after outcome =
    (outcome ≡ ending) × TookAll (lines_of_run request shown ending) before after

abbrev pub limit_of : Request → ℕ
limit_of request = unwrap_or request.limit 18446744073709551615

-- How a run may end that shows n faults, if the output takes all: at the limit, at the end of the
-- report, or at a stop.
abbrev pub MayEnd : Request → ℕ → (Stop → Type 0) → Outcome → Type 0
MayEnd request n Stops Clean = (n ≡ 0) × (0 < limit_of request) × (request.after ≡ None)
MayEnd request n Stops (Faults m) =
    (m ≡ n) × (0 < n) × (n < limit_of request) × (request.after ≡ None)
MayEnd request n Stops (Stopped m) = (m ≡ n) × (n ≡ limit_of request)
MayEnd request n Stops (Rest m) =
    (m ≡ n) × (n < limit_of request) × ((cursor : Fault) × (request.after ≡ Some cursor))
MayEnd request n Stops (Unread m stop) = (m ≡ n) × (n < limit_of request) × Stops stop
MayEnd request n Stops (Unwritten m) = ⊥

-- the run comes to the end of its report
abbrev pub ReachesEnd : Outcome → Type 0
ReachesEnd Clean = ⊤
ReachesEnd (Faults n) = ⊤
ReachesEnd (Rest n) = ⊤
ReachesEnd (Stopped n) = ⊥
ReachesEnd (Unread n stop) = ⊥
ReachesEnd (Unwritten n) = ⊥

-- the run ended by no refusal of the tree
abbrev pub IsAnswered : Outcome → Type 0
IsAnswered Clean = ⊤
IsAnswered (Faults n) = ⊤
IsAnswered (Stopped n) = ⊤
IsAnswered (Rest n) = ⊤
IsAnswered (Unread n stop) = ⊥
IsAnswered (Unwritten n) = ⊥

-- the outcome at the end of the report
abbrev pub ended : Option Fault → ℕ → Outcome
ended None zero = Clean
ended None (suc n) = Faults (suc n)
ended (Some cursor) n = Rest n

-- the outcome where nothing is refused; the faults are those above the cursor
abbrev pub ideal : Request → List Fault → Outcome
ideal request faults =
    if nat_le (limit_of request) (length faults) then Stopped (limit_of request)
    else ended request.after (length faults)
