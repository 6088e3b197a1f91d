-- The law about listings.
use Rattle.std.specs.Prelude.{◌≡◌, length, map}
use Rattle.bag_tree.specs.Bag.{Bag, files_of}
use Rattle.bag_tree.specs.declared.listing.Listing.{Listing}
use Rattle.bag_tree.specs.Listing.{IsOrdered, IsListingOf}

-- the law: an ordered listing of a bag is the bag's files in path order, with their lengths
abbrev pub ListingsAreOfTheBag : Type 0
ListingsAreOfTheBag =
    (bag : Bag) (listing : Listing) → IsOrdered listing.files → IsListingOf bag listing
    → listing.files ≡ map (λ e. record { path = e.0; size = length e.1 }) (files_of bag)
