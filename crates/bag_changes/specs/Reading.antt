-- How a bag is read that is to be renewed.
use Rattle.std.specs.Prelude.{ℕ, ◌≡◌, ◌≢◌, ◌⊎◌, true, Contains, IsTrue, List}
use Rattle.std.specs.List.{list_any}
use Rattle.bag_text.specs.Code.{stage}
use Rattle.bag_text.specs.Lines.{lines_of_file}
use Rattle.bag_facts.specs.FactsOfBag.{IfBagRead, IsFactsOf}
use Rattle.bag_facts.specs.Stops.{IsOfListing, MayRefuseFacts, ReportsAnswer}
use Rattle.bag_facts.specs.TagReader.{OpensAll}
use Rattle.bag_facts.specs.Wanted.{ForListing}
use Rattle.bag_facts.specs.declared.facts.Facts.{Facts}
use Rattle.bag_faults.specs.declared.options.Depth.TheVariants.{Declaration}
use Rattle.bag_stages.specs.MetadataStage.{bag_info_txt}
use Rattle.bag_stages.specs.TagFiles.{lines_in}
use Rattle.bag_tags.specs.OnLines.{is_bad_long_element}
use Rattle.bag_tree.specs.Bag.{Bag, IsBag, files_of}
use Rattle.bag_tree.specs.Tree.{Keeps, MayReportMemory, NothingFailed, TreeState}
use Rattle.bag_tree.specs.declared.tree_fault.Stop.{Stop}
use Rattle.bag_tree.specs.declared.tree_fault.TreeFault.TheVariants as cause_of
use Rattle.bag_report.specs.Valid.{HasNoFault, full}
use Rattle.bag_checked.specs.Compared.{AreCompared}
use Rattle.bag_checked.specs.FirstFaults.{HasNoEarlyFault, HasNoneBefore, IsFirst, IsFoundFirst}
use Rattle.bag_checked.specs.FirstFaults.{IsLookedFor}
use Rattle.bag_changes.specs.Folders.{IsRefusedLook}
use Rattle.bag_changes.specs.NewInfo.{CanWriteInfo, IsInfoRefusal}
use Rattle.bag_checked.specs.NewManifests.{OpensRead}
use Rattle.bag_changes.specs.Obstacles.{CanNameFiles, HasNoObstacle, IfOwn, IsFreeToChange}
use Rattle.bag_changes.specs.Obstacles.{IsInTheWay, IsObstacle}
use Rattle.bag_renewed.specs.Renewed.{new_algs, new_elements, reads_payload, writes_info}
use Rattle.bag_tags.specs.Summed.{File}
use Rattle.bag_renewed.specs.Request.{is_bad_request}
use Rattle.bag_changes.specs.Reserved.{IsOutOfTheWay, reserved_names}
use Rattle.bag_checked.specs.Stops.{IsOfFile}
use Rattle.bag_checked.specs.Summed.{AreSummedBy, IsInfoAmong, files_to_read}
use Rattle.bag_renewed.specs.Target.{IsTargetFor}
use Rattle.bag_changes.specs.Valid.{CanRenew, HasGoodElements, HasKnownSize}
use Rattle.bag_checked.specs.declared.checked.Unchecked.{Unchecked}
use Rattle.bag_checked.specs.declared.checked.Unchecked.TheVariants as checked
use Rattle.bag_changes.specs.declared.fault.RenewFault.{RenewFault}
use Rattle.bag_changes.specs.declared.fault.RenewFault.TheVariants as why
use Rattle.bag_renewed.specs.declared.renewal.Renewal.{Renewal}
use Rattle.bag_renewed.specs.declared.target.Target.{Target}
use Rattle.bag_tags.specs.declared.summed.SummedFile.{SummedFile}

-- A bag was read that can be renewed. It has no fault where its payload was read.
pub record IsReadBag (renewal : Renewal) (old new : TreeState) : Type 0 where
  pub keeps : Keeps old new
  pub no_failure : NothingFailed old new
  -- the payload is opened only where a payload manifest is written, or dropped
  pub opened : IsTrue old.honest → OpensRead (reads_payload old.bag renewal) old new
  pub can : IsTrue old.honest → CanRenew old.bag renewal
  pub valid : IsTrue old.honest → reads_payload old.bag renewal ≡ true → HasNoFault old.bag
  pub no_obstacle : IsTrue old.honest → HasNoObstacle old.bag renewal

-- So it was, and these are what is known of it and the digests of the files that were read. What is
-- known is of the bag of an honest tree, and else of some bag.
pub record HasReadBag (renewal : Renewal) (old new : TreeState) (facts : Facts)
    (summed : List SummedFile) (info : List ℕ) : Type 0 where
  pub read : IsReadBag renewal old new
  pub options : facts.options ≡ full
  pub seen : (bag : Bag) × IsBag bag × IsFactsOf bag facts
  pub of_bag : IsTrue old.honest → IsFactsOf old.bag facts
  pub sums : IsTrue old.honest → AreSummedBy (new_algs old.bag renewal)
      (files_to_read (reads_payload old.bag renewal) (files_of old.bag)) summed
  -- over any tree these files were read, of which digests were compared and computed
  pub files : List File
  pub compared : AreCompared seen.0 (reads_payload seen.0 renewal) files old new
  pub summed_of : (bag : Bag) → IsFactsOf bag facts
      → AreSummedBy (new_algs bag renewal) files summed
  pub info_of : IsInfoAmong files info
  pub lines : IsTrue old.honest → lines_of_file info ≡ lines_in old.bag bag_info_txt

-- A bag was read that can be renewed, and the metadata that is written of it can be.
pub record IsReadForRenewal (renewal : Renewal) (old new : TreeState) : Type 0 where
  pub bag : IsReadBag renewal old new
  pub elements : IsTrue old.honest → writes_info old.bag renewal ≡ true → HasKnownSize old.bag
      → HasGoodElements old.bag renewal

-- The tree refused to look for a folder of a reserved name, when each tag file that is wanted had
-- been read, and no other file.
pub record IsOfLook (old new : TreeState) (stop : Stop) : Type 0 where
  pub named : Contains reserved_names stop.path
  pub in_turn : ForListing old (λ files. OpensAll full files old new)

-- A stop names the cause, which is the tree's own answer, and the file that was refused, or the
-- name of which a folder was looked for; none where it was the listing.
pub record MayStopReadingBag (renewal : Renewal) (old new : TreeState) (stop : Stop) : Type 0 where
  pub cause : MayRefuseFacts old new stop.cause
  pub not_memory : stop.cause ≢ cause_of.Memory
  pub answered : ReportsAnswer new stop
  pub path : IsOfListing old new stop ⊎ IsOfLook old new stop
      ⊎ IsOfFile (λ bag. reads_payload bag renewal) old new stop

-- Why a bag isn't renewed before a file of it was changed: of an honest tree for what its bag is. A
-- fault is the first that is looked for, in the order of a report; but a digest that differs is told
-- only if there is no obstacle. An obstacle is told if there is no fault of stages 1 to 6, and so is
-- an element that can't be written, if there is no obstacle either. Out of memory is reported only
-- where the tree reported it or refused nothing.
abbrev pub MayRefuseReading : Renewal → TreeState → TreeState → RenewFault → Type 0
MayRefuseReading renewal old new (why.Faulty fault) =
    IsTrue old.honest
    → IsFirst (IsLookedFor old.bag (reads_payload old.bag renewal)) fault
    × (stage fault.code ≡ 7 → HasNoObstacle old.bag renewal)
MayRefuseReading renewal old new why.BadValue =
    (is_bad_request renewal.elements ≡ true)
    ⊎ (IsTrue old.honest → HasNoEarlyFault old.bag × HasNoObstacle old.bag renewal
    × (writes_info old.bag renewal ≡ true)
    × (list_any is_bad_long_element (new_elements old.bag renewal) ≡ true))
MayRefuseReading renewal old new (why.ReadStopped stop) = MayStopReadingBag renewal old new stop
MayRefuseReading renewal old new why.Memory = MayReportMemory old new
MayRefuseReading renewal old new (why.PutRefused name cause) = ⊥
MayRefuseReading renewal old new (why.RemoveRefused name cause) = ⊥
MayRefuseReading renewal old new fault =
    IsTrue old.honest → HasNoEarlyFault old.bag × IsObstacle old.bag renewal fault

-- What is known of a bag allows that it is renewed: there is no fault of the stages that open no
-- payload file, no obstacle, and no element that can't be written; and this is made of it.
pub record AllowsRenewal (facts : Facts) (renewal : Renewal) (target : Target) : Type 0 where
  pub none : HasNoneBefore facts 7
  pub free : IfBagRead facts (λ bag. IsFreeToChange bag renewal)
  pub names : IfBagRead facts (λ bag. CanNameFiles bag renewal)
  pub info : IfBagRead facts (λ bag. CanWriteInfo bag renewal)
  pub decided : IsTargetFor facts renewal target

-- Or it doesn't: by the first fault; where there is none, by an obstacle, as a folder is that is in
-- the way; and else by an element that can't be written. Or a look for a folder was refused, or
-- memory ran out.
abbrev pub IsNotReady : Facts → Renewal → TreeState → TreeState → RenewFault → Type 0
IsNotReady facts renewal old new (why.Faulty fault) =
    facts.options.depth ≢ Declaration → IsFoundFirst facts (checked.Faulty fault)
IsNotReady facts renewal old new (why.InTheWay name) =
    HasNoneBefore facts 7 × IfOwn facts old (IsInTheWay old.bag name)
IsNotReady facts renewal old new (why.ReadStopped stop) =
    IfBagRead facts (λ bag. IsRefusedLook reserved_names old new stop)
IsNotReady facts renewal old new why.Memory = MayReportMemory old new
IsNotReady facts renewal old new why.BadValue =
    HasNoneBefore facts 7
    × IfBagRead facts (λ bag. IsFreeToChange bag renewal
    × (IsTrue old.honest → IsOutOfTheWay old.bag) × CanNameFiles bag renewal
    × IsInfoRefusal bag renewal (lines_in bag bag_info_txt) why.BadValue)
IsNotReady facts renewal old new fault =
    HasNoneBefore facts 7 × IfBagRead facts (λ bag. IsObstacle bag renewal fault)

-- the refusal that a stop is: out of memory is one of its own
abbrev pub IsRefusalOfStop : Stop → RenewFault → Type 0
IsRefusalOfStop stop why.Memory = stop.cause ≡ cause_of.Memory
IsRefusalOfStop stop (why.ReadStopped other) = (other ≡ stop) × (stop.cause ≢ cause_of.Memory)
IsRefusalOfStop stop fault = ⊥

-- and the one for which a bag isn't known to be without a fault
abbrev pub IsRefusalOf : Unchecked → RenewFault → Type 0
IsRefusalOf (checked.Stopped stop) fault = IsRefusalOfStop stop fault
IsRefusalOf (checked.Faulty found) fault = fault ≡ why.Faulty found
