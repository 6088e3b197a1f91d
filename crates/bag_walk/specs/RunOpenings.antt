-- What a run opens.
use Rattle.std.specs.Prelude.{ℕ, ◌≡◌, ◌≢◌, ◌++◌, ◌∷◌, ◌⊎◌, ◌-◌, ◌<◌, ◌≤◌, List, [], Option}
use Rattle.std.specs.Prelude.{All, IsTrue, true, false, drop, filter, length, min}
use Rattle.std.specs.List.Sorted.{IsStrictlySortedBy}
use Rattle.bag_text.specs.Bytes.{Path}
use Rattle.bag_text.specs.Code.{stage}
use Rattle.bag_text.specs.Order.{IsListOf}
use Rattle.bag_text.specs.Path.{is_payload_path}
use Rattle.bag_text.specs.Text.{text_cmp}
use Rattle.bag_tree.specs.Bag.{Bag}
use Rattle.bag_tree.specs.Tree.{TreeState, IsRefusedAt}
use Rattle.bag_faults.specs.FaultOrder.{fault_cmp}
use Rattle.bag_faults.specs.declared.fault.Fault.{Fault}
use Rattle.bag_facts.specs.Wanted.{AreWanted, ForListing, IsWanted, OpensUpTo, OpensWanted}
use Rattle.bag_faults.specs.declared.options.Depth.TheVariants.{Full}
use Rattle.bag_faults.specs.declared.options.Options.{Options}
use Rattle.bag_profile.specs.Profile.{Profile}
use Rattle.bag_stages.specs.LeftOut.{IsNamedBySome}
use Rattle.bag_stages.specs.SummedFiles.{IsSummed}
use Rattle.bag_report.specs.Report.{above}
use Rattle.bag_walk.specs.Closing.{count_of}
use Rattle.bag_walk.specs.Ending.{limit_of}
use Rattle.bag_walk.specs.declared.outcome.Outcome.{Outcome}
use Rattle.bag_walk.specs.declared.outcome.Request.{Request}
use Rattle.bag_sources.specs.Openings.{NoFaultBefore, AreToOpen, is_passed}
use Rattle.bag_walk.specs.Run.{check_of, ForReportAsked, IsAsked}
use Rattle.bag_walk.specs.Stops.{IfRunUnread}

-- Tag files were read, each once at most and in path order, and then at depth Full files were
-- summed, each once at most and in path order: files that are there and that manifests name, where
-- the tree is honest.
pub record OpensInRun (options : Options) (old new : TreeState) : Type 0 where
  pub read : List Path
  pub summed : List Path
  pub opened : new.openings ≡ old.openings ++ (read ++ summed)
  pub read_in_order : IsStrictlySortedBy text_cmp read
  pub wanted : All (IsWanted options) read
  pub summed_in_order : IsStrictlySortedBy text_cmp summed
  pub only_at_full : options.depth ≢ Full → summed ≡ []
  pub are_summed : IsTrue old.honest → All (IsSummed old.bag) summed

-- Of the payload those files were opened that payload manifests name, each once at most and in path
-- order, and no other; below depth Full none (RFC 8493, 2.1.2).
pub record OpensNamed (options : Options) (old new : TreeState) : Type 0 where
  pub paths : List Path
  pub opened : new.openings ≡ old.openings ++ paths
  pub in_order : IsStrictlySortedBy text_cmp (filter is_payload_path paths)
  pub only_at_full : options.depth ≢ Full → filter is_payload_path paths ≡ []
  pub are_named : IsTrue old.honest
      → All (λ path. is_payload_path path ≡ true → IsNamedBySome old.bag path) paths

-- of the payload no file was opened that the cursor has passed: none before the file of a fault of
-- the seventh stage, and where it is of a later stage none
abbrev pub OpensNonePassed : Option Fault → TreeState → TreeState → Type 0
OpensNonePassed after old new =
    (opened : List (List ℕ)) → new.openings ≡ old.openings ++ opened
    → All (λ path. is_passed after path ≡ false) (filter is_payload_path opened)

-- How many faults were written when a run last looked for one: all that it wrote, but at most the
-- limit less 1, since it looks for none once it has written as many as its limit.
abbrev pub written_before : Request → Outcome → ℕ
written_before request outcome = min (count_of outcome) (limit_of request - 1)

-- As the run ended, each fault that stands before a file that was opened for its digests had its
-- line written; and where the limit was reached none was opened after the file of the last line.
abbrev pub OpensInTurn : TreeState → TreeState → Option Profile → Request → Outcome → Type 0
OpensInTurn old new profile request outcome = ForReportAsked old profile request (λ report.
    (read : List (List ℕ)) × (summed : List (List ℕ))
    × (new.openings ≡ old.openings ++ (read ++ summed))
    × IsStrictlySortedBy text_cmp read × All (IsWanted request.options) read
    × NoFaultBefore (drop (written_before request outcome) (above request.after report)) summed)

-- The tree refused one of these files, which were to be opened after the tag files.
pub record OpensAllBefore (options : Options) (todo : List Path) (path : Path)
    (old new : TreeState) : Type 0 where
  -- the tag files that it opened, the other files that it opened before this one, and those that it
  -- would have opened after it
  pub read : List Path
  pub before : List Path
  pub later : List Path
  -- the tag files are in path order, and all that are wanted
  pub read_in_order : IsStrictlySortedBy text_cmp read
  pub wanted : All (IsWanted options) read
  pub all_read : ForListing old (λ files. AreWanted options files read)
  -- the others are in path order
  pub cut : todo ≡ before ++ path ∷ later
  pub in_order : IsStrictlySortedBy text_cmp todo
  -- it was refused after just these
  pub refused : IsRefusedAt (old.openings ++ (read ++ before)) path new

-- The run stopped at a file whose digests were to be compared, when n faults had been written. Over
-- an honest tree the files to be opened are all whose digests are still to be compared, and the line
-- of each fault that stands before this one was written, as those of earlier stages are.
abbrev pub OpensUpToSummed : TreeState → TreeState → Option Profile → Request → ℕ → Path → Type 0
OpensUpToSummed old new profile request n path =
    (todo : List Path) × OpensAllBefore request.options todo path old new
    × (IsTrue old.honest → AreToOpen (check_of old.bag profile request) request.after todo)
    × ForReportAsked old profile request (λ report.
    NoFaultBefore (drop n (above request.after report)) (path ∷ []))

-- A run that stops at a file has opened those before it: tag files if it is one of them, and else
-- all tag files, and files whose digests are compared.
abbrev pub StopsInTurn : TreeState → TreeState → Option Profile → Request → Outcome → Type 0
StopsInTurn old new profile request outcome =
    IfRunUnread outcome (λ stop. stop.path ≢ []
    → ForListing old (λ files. OpensUpTo request.options files stop.path old new)
    ⊎ OpensUpToSummed old new profile request (count_of outcome) stop.path)

-- the part of what the request asks for below the seventh stage, whose faults need further files
abbrev pub AreEarly : Bag → Option Profile → Request → List Fault → Type 0
AreEarly bag profile request faults =
    IsListOf fault_cmp (λ f. IsAsked bag profile request f × (stage f.code < 7)) faults

-- where the faults of stages 1 to 6 that the request asks for reach its limit, tag files alone were
-- read
abbrev pub LooksNoFurther : TreeState → TreeState → Option Profile → Request → Type 0
LooksNoFurther old new profile request =
    IsTrue old.honest → (early : List Fault) → AreEarly old.bag profile request early
    → limit_of request ≤ length early → OpensWanted request.options old new
