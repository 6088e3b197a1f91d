use Rattle.bag_tree.proofs.ListingLaw.{listings_are_of_the_bag}
use Rattle.bag_tree.proofs.laws.listings_are_of_the_bag.Goals as goal

pub returns : goal.returns
returns c = listings_are_of_the_bag
