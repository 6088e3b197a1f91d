-- The bags on the way from a bag to the renewed one (RFC 8493, 3).
use Rattle.std.specs.Prelude.{ℕ, ◌≡◌, ◌⊎◌, true}
use Rattle.bag_text.specs.declared.alg.Alg.{Alg}
use Rattle.bag_read.specs.declared.kind.Kind.TheVariants.{Tag}
use Rattle.bag_faults.specs.declared.fault.Fault.{Fault}
use Rattle.bag_stages.specs.TagFiles.{Names}
use Rattle.bag_tree.specs.Bag.{Bag}
use Rattle.bag_tree.specs.FileChanges.{IsAfterFirst}
use Rattle.bag_report.specs.Valid.{HasNoFault, IsFaultOf}
use Rattle.bag_changes.specs.Changes.{after, changes}
use Rattle.bag_changes.specs.Reserved.{IsOutOfTheWay}
use Rattle.bag_changes.specs.Obstacles.{HasNoPercent}
use Rattle.bag_renewed.specs.Renewed.{begun_file, keeps}
use Rattle.bag_changes.specs.Valid.{CanRenew, HasGoodInfo}
use Rattle.bag_checked.specs.FirstFaults.{IsDamage}
use Rattle.bag_renewed.specs.declared.renewal.Renewal.{Renewal}

-- no tag manifest of the bag names a file that has the name of one that is begun
abbrev pub NoTagManifestNamesBegun : Bag → Type 0
NoTagManifestNamesBegun bag = (alg : Alg) → ¬ (Names bag Tag alg begun_file)

-- A bag that can be renewed in place; one of 0.97 that becomes one of 1.0 has no % in a path, which
-- 1.0 spells otherwise.
pub record CanRenewInPlace (bag : Bag) (renewal : Renewal) : Type 0 where
  pub can : CanRenew bag renewal
  pub spelled : (keeps bag renewal ≡ true) ⊎ HasNoPercent bag
  pub info : HasGoodInfo bag renewal
  pub way : IsOutOfTheWay bag
  pub begun : NoTagManifestNamesBegun bag

-- the law: after any number of changes each fault is damage that the bag had
abbrev pub EachBagOnTheWayHasOldFaults : Type 0
EachBagOnTheWayHasOldFaults =
    (bag : Bag) (renewal : Renewal) (k : ℕ) → CanRenewInPlace bag renewal
    → (f : Fault) → IsFaultOf (after bag renewal k) f → IsDamage f × IsFaultOf bag f

-- the law: so each bag on the way from a bag without a fault has none
abbrev pub EachBagOnTheWayIsValid : Type 0
EachBagOnTheWayIsValid =
    (bag : Bag) (renewal : Renewal) (k : ℕ) → CanRenewInPlace bag renewal
    → HasNoFault bag → HasNoFault (after bag renewal k)

-- the law: so it is also after a power cut at any moment, perhaps with a file that is begun beside
-- the others
abbrev pub EachCutBagHasOldFaults : Type 0
EachCutBagHasOldFaults =
    (bag : Bag) (renewal : Renewal) (left : Bag) → CanRenewInPlace bag renewal
    → IsAfterFirst begun_file (changes bag renewal) bag left
    → (f : Fault) → IsFaultOf left f → IsDamage f × IsFaultOf bag f

-- the law: and a cut leaves a bag without a fault, where the bag had none
abbrev pub EachCutBagIsValid : Type 0
EachCutBagIsValid =
    (bag : Bag) (renewal : Renewal) (left : Bag) → CanRenewInPlace bag renewal
    → IsAfterFirst begun_file (changes bag renewal) bag left
    → HasNoFault bag → HasNoFault left
