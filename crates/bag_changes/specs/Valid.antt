-- When a renewed bag has no fault.
use Rattle.std.specs.Prelude.{◌⊎◌, ◌<◌, ◌^◌, ◌≡◌, ◌≢◌, false, true, [], Some}
use Rattle.std.specs.List.{list_any}
use Rattle.bag_text.specs.Bytes.{Content}
use Rattle.bag_text.specs.Text.{IsText}
use Rattle.bag_text.specs.declared.alg.Alg.{Alg}
use Rattle.bag_read.specs.ManifestName.{tag_path}
use Rattle.bag_read.specs.declared.tag_name.TagName.TheVariants.{Fetch, Info}
use Rattle.bag_faults.specs.declared.fault.Fault.{Fault}
use Rattle.bag_report.specs.Report.{asks}
use Rattle.bag_report.specs.Valid.{HasNoFault, IsFaultOf, full}
use Rattle.bag_stages.specs.MetadataStage.{IsOfMetadata, oxum_label}
use Rattle.bag_stages.specs.Payload.{oxum}
use Rattle.bag_tree.specs.Bag.{Bag, IsBag, LacksFile, file}
use Rattle.bag_renewed.specs.Elements.{has_label}
use Rattle.bag_checked.specs.FirstFaults.{IsDamage}
use Rattle.bag_renewed.specs.Renewed.{is_dropped_alg, is_kept_alg, keeps, new_algs, new_elements}
use Rattle.bag_renewed.specs.Renewed.{new_rules, renewed, writes_info}
use Rattle.bag_changes.specs.NewInfo.{CanBeWritten}
use Rattle.bag_changes.specs.Telling.{AreNameable, AreStillListed}
use Rattle.bag_renewed.specs.declared.renewal.Renewal.{Renewal}

-- A bag that can be renewed: it has no fault but damage of the payload; one of 0.97 that becomes one
-- of 1.0 has nothing to fetch, since it spells paths otherwise; an algorithm is left, and manifests
-- that name the whole payload.
pub record CanRenew (bag : Bag) (renewal : Renewal) : Type 0 where
  pub is_bag : IsBag bag
  pub damaged : (f : Fault) → IsFaultOf bag f → IsDamage f
  pub fetch : (keeps bag renewal ≡ true) ⊎ LacksFile bag (tag_path Fetch)
  pub nameable : AreNameable (new_rules bag renewal) bag
  pub listed : AreStillListed bag renewal
  pub some_alg : new_algs bag renewal ≢ []

-- the bag-info.txt that is there is a text, and the renewed bag has no fault of it
pub record HasGoodInfo (bag : Bag) (renewal : Renewal) : Type 0 where
  pub text : (content : Content) → file (renewed bag renewal) (tag_path Info) ≡ Some content
      → IsText content
  pub no_fault : (f : Fault) → IsOfMetadata (renewed bag renewal) f → asks full f.code ≡ true → ⊥

-- the fault is damage that the bag had, by the manifest of an algorithm that is kept
abbrev pub IsOldDamage : Bag → Renewal → Fault → Type 0
IsOldDamage bag renewal f =
    IsDamage f × IsFaultOf bag f
    × ((alg : Alg) × (f.alg ≡ Some alg) × (is_kept_alg bag renewal alg ≡ true))

-- Where a payload manifest is dropped, the bag has no fault, by that manifest and by all others;
-- unless that is to be done unchecked.
abbrev pub DropsCompared : Bag → Renewal → Type 0
DropsCompared bag renewal =
    renewal.unchecked ≡ false → (alg : Alg) → is_dropped_alg bag renewal alg ≡ true
    → HasNoFault bag

-- the law: a fault of the renewed bag is damage that the bag had, by a manifest that is kept
abbrev pub RenewedHasOldFaults : Type 0
RenewedHasOldFaults =
    (bag : Bag) (renewal : Renewal) → CanRenew bag renewal → HasGoodInfo bag renewal
    → (f : Fault) → IsFaultOf (renewed bag renewal) f → IsOldDamage bag renewal f

-- the law: so the renewed bag of a bag without a fault has none
abbrev pub RenewedIsValid : Type 0
RenewedIsValid =
    (bag : Bag) (renewal : Renewal) → CanRenew bag renewal → HasGoodInfo bag renewal
    → HasNoFault bag → HasNoFault (renewed bag renewal)

-- the number of the payload's files and of their bytes can be written
pub record HasKnownSize (bag : Bag) : Type 0 where
  pub count : (oxum bag).streams < 2 ^ 64
  pub size : (oxum bag).octets < 2 ^ 64

-- The elements of the renewed bag can be written, and none that is given is Payload-Oxum.
pub record HasGoodElements (bag : Bag) (renewal : Renewal) : Type 0 where
  pub written : CanBeWritten (new_elements bag renewal)
  pub set : list_any (has_label oxum_label) renewal.elements.set ≡ false
  pub appended : list_any (has_label oxum_label) renewal.elements.appended ≡ false
  pub known : HasKnownSize bag

-- the law: then the bag-info.txt that is written has no fault, and one that is kept has none
abbrev pub GoodElementsAreGoodInfo : Type 0
GoodElementsAreGoodInfo =
    (bag : Bag) (renewal : Renewal) → CanRenew bag renewal
    → (writes_info bag renewal ≡ true → HasGoodElements bag renewal) → HasGoodInfo bag renewal
