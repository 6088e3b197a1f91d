-- Renewing a bag again.
use Rattle.std.specs.Prelude.{ℕ, ◌≡◌, false, true, List}
use Rattle.bag_tags.specs.Element.{NewElement}
use Rattle.bag_tree.specs.Bag.{Bag, IsBag}
use Rattle.bag_tree.specs.FileChanges.{IsAfterFirst}
use Rattle.bag_changes.specs.Changes.{changes}
use Rattle.bag_renewed.specs.Elements.{renewed_elements}
use Rattle.bag_renew.specs.OnTheWay.{CanRenewInPlace}
use Rattle.bag_renewed.specs.Renewed.{begun_file, renewed, writes_info}
use Rattle.bag_renewed.specs.Request.{is_bad_request}
use Rattle.bag_changes.specs.Valid.{HasGoodElements}
use Rattle.bag_renewed.specs.declared.renewal.ElementChanges.{ElementChanges}
use Rattle.bag_renewed.specs.declared.renewal.Renewal.{Renewal}

-- the law: elements that were renewed are the same when that is asked again
abbrev pub ElementsAreRenewedOnce : Type 0
ElementsAreRenewedOnce =
    (changes : ElementChanges) (size : List ℕ) (old : List NewElement)
    → is_bad_request changes ≡ false
    → renewed_elements changes size (renewed_elements changes size old)
    ≡ renewed_elements changes size old

-- the law: what a power cut leaves can be renewed so again
abbrev pub CutBagsCanBeRenewed : Type 0
CutBagsCanBeRenewed =
    (bag : Bag) (renewal : Renewal) (left : Bag) → CanRenewInPlace bag renewal
    → is_bad_request renewal.elements ≡ false
    → (writes_info bag renewal ≡ true → HasGoodElements bag renewal)
    → IsAfterFirst begun_file (changes bag renewal) bag left → IsBag left
    → CanRenewInPlace left renewal
    × (writes_info left renewal ≡ true → HasGoodElements left renewal)

-- the law: and then it becomes the same bag
abbrev pub RenewingAgainMakesTheSame : Type 0
RenewingAgainMakesTheSame =
    (bag : Bag) (renewal : Renewal) (left : Bag) → CanRenewInPlace bag renewal
    → is_bad_request renewal.elements ≡ false
    → (writes_info bag renewal ≡ true → HasGoodElements bag renewal)
    → IsAfterFirst begun_file (changes bag renewal) bag left
    → renewed left renewal ≡ renewed bag renewal
