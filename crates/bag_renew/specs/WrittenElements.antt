-- The elements that are read of the bag-info.txt that a renewal writes (RFC 8493, 2.2.2).
use Rattle.std.specs.Prelude.{◌≡◌, true}
use Rattle.bag_tree.specs.Bag.{Bag}
use Rattle.bag_renewed.specs.Elements.{elements_of}
use Rattle.bag_renewed.specs.Renewed.{new_elements, renewed, writes_info}
use Rattle.bag_changes.specs.Valid.{HasGoodElements}
use Rattle.bag_renewed.specs.declared.renewal.Renewal.{Renewal}

-- the law: of the bag-info.txt that is written just these elements are read
abbrev pub WrittenElementsAreRead : Type 0
WrittenElementsAreRead =
    (bag : Bag) (renewal : Renewal)
    → writes_info bag renewal ≡ true → HasGoodElements bag renewal
    → elements_of (renewed bag renewal) ≡ new_elements bag renewal
