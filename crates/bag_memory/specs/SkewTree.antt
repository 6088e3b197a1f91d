-- A tree that lists something else than it has.
use Rattle.std.specs.Prelude.{Option}
use Rattle.bag_tree.specs.Tree.{TreeState}
use Rattle.bag_tree.specs.declared.answer.Answer.{Answer}
use Rattle.bag_tree.specs.declared.listing.Listing.{Listing}
use Rattle.bag_memory.specs.MemoryView.{state_of_memory}
use Rattle.bag_memory.specs.declared.skew_tree.SkewTree.{SkewTree}

-- what the tree in memory means
abbrev pub memory_of : SkewTree → TreeState
memory_of tree = state_of_memory tree.tree

-- what the next `list` answers
abbrev pub listing_of : SkewTree → Option Listing
listing_of tree = tree.listing

-- what its last `list` gave
abbrev pub last_listing_of : SkewTree → Option Listing
last_listing_of tree = tree.gave.what.listed

-- what the last call answered without asking the tree in memory
abbrev pub own_of : SkewTree → Option Answer
own_of tree = tree.own
