-- What a tree gave.
use Rattle.std.specs.Prelude.{List, Option}
use Rattle.bag_text.specs.Bytes.{Content, Path}
use Rattle.bag_tree.specs.declared.listing.Listing.{Listing}

-- what the last listing gave, and the bytes that the reads of each file that was opened gave
pub record WhatIsGiven : Type 0 where
  pub listed : Option Listing
  pub gave : List (Path × Content)
