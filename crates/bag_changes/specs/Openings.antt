-- Which files a renewal opens, also where it is refused.
use Rattle.std.specs.Prelude.{ℕ, ◌≡◌, ◌⊎◌, ◌++◌, All, IsTrue, List, [], false, true}
use Rattle.bag_text.specs.AlgList.{has_member}
use Rattle.bag_text.specs.Path.{is_payload_path}
use Rattle.bag_text.specs.declared.alg.Alg.{Alg}
use Rattle.bag_facts.specs.Wanted.{OpensWanted}
use Rattle.bag_tree.specs.Bag.{Bag}
use Rattle.bag_tree.specs.Tree.{TreeState}
use Rattle.bag_report.specs.Valid.{full}
use Rattle.bag_changes.specs.NewInfo.{CanWriteInfo}
use Rattle.bag_checked.specs.InTurn.{IsEarly, OpensInTurn}
use Rattle.bag_changes.specs.Obstacles.{CanNameFiles, IsFreeToChange}
use Rattle.bag_checked.specs.FirstFaults.{HasNoEarlyFault}
use Rattle.bag_renewed.specs.Renewed.{reads_payload}
use Rattle.bag_changes.specs.Reserved.{IsOutOfTheWay}
use Rattle.bag_changes.specs.declared.fault.RenewFault.{RenewFault}
use Rattle.bag_changes.specs.declared.fault.RenewFault.TheVariants as why
use Rattle.bag_renewed.specs.declared.renewal.Renewal.{Renewal}

-- nothing is asked for which the payload is read
pub record AsksNoReading (renewal : Renewal) : Type 0 where
  pub added : (alg : Alg) → has_member renewal.added alg ≡ false
  pub dropped : (renewal.unchecked ≡ true) ⊎ ((alg : Alg) → has_member renewal.dropped alg ≡ false)
  pub version : renewal.to_1_0 ≡ false

-- no file of the payload was opened
abbrev pub OpensNoPayload : TreeState → TreeState → Type 0
OpensNoPayload old new =
    (paths : List (List ℕ)) × (new.openings ≡ old.openings ++ paths)
    × All (λ path. is_payload_path path ≡ false) paths

-- a bag has no fault of an earlier stage, no obstacle, and no element that can't be written; whether
-- a folder is in the way is known of an honest tree
pub record IsReadyFor (renewal : Renewal) (state : TreeState) (bag : Bag) : Type 0 where
  pub none_early : HasNoEarlyFault bag
  pub free : IsFreeToChange bag renewal
  pub way : IsTrue state.honest → IsOutOfTheWay state.bag
  pub names : CanNameFiles bag renewal
  pub info : CanWriteInfo bag renewal

-- Over any tree, and however a renewal ends: each payload file was opened once at most, and in path
-- order; none where nothing is asked for which it is read, and none of a bag that has a fault of an
-- earlier stage, an obstacle, or an element that can't be written.
pub record OpensForRenewal (renewal : Renewal) (old new : TreeState) : Type 0 where
  pub in_turn : OpensInTurn (λ bag. reads_payload bag renewal) (IsReadyFor renewal old) old new
  pub no_payload : AsksNoReading renewal → OpensNoPayload old new

-- the refusals that come before any file is opened a second time
abbrev pub IsBeforeReading : RenewFault → Type 0
IsBeforeReading (why.Faulty fault) = IsEarly fault
IsBeforeReading why.BadValue = ⊥
IsBeforeReading (why.ReadStopped stop) = ⊥
IsBeforeReading why.Memory = ⊥
IsBeforeReading (why.PutRefused name cause) = ⊥
IsBeforeReading (why.RemoveRefused name cause) = ⊥
IsBeforeReading fault = Unit {0}

-- after one of these only tag files were opened, each once at most
abbrev pub OpensBefore : TreeState → TreeState → RenewFault → Type 0
OpensBefore old new fault = IsBeforeReading fault → OpensWanted full old new
