-- What the changes of a renewal are composed of.
use Rattle.std.specs.Prelude.{ℕ, ◌≡◌, List, Option, map}
use Rattle.bag_tree.specs.Bag.{Bag}
use Rattle.bag_changes.specs.Changes.{last_files, put}
use Rattle.bag_changes.specs.Composing.{AreOfFiles}
use Rattle.bag_changes.specs.Planned.{first_from, named_from}
use Rattle.bag_renewed.specs.Renewed.{new_algs}
use Rattle.bag_tags.specs.Summed.{File}
use Rattle.bag_checked.specs.Summed.{AreSummedBy}
use Rattle.bag_changes.specs.declared.composing.Composed.{Composed}
use Rattle.bag_renewed.specs.declared.renewal.Renewal.{Renewal}

-- these are the files that are put, and the digests of those that tag manifests name, where these
-- files of the bag were read
pub record IsComposed (bag : Bag) (renewal : Renewal) (files : List File) (info : Option (List ℕ))
    (composed : Composed) : Type 0 where
  pub first : composed.first.items ≡ first_from bag renewal files info
  pub last : composed.last.items ≡ last_files bag renewal
  pub named : AreSummedBy (new_algs bag renewal) (named_from bag renewal files info)
      composed.named.items

-- whatever they are composed of, they are files of the base folder
pub record PutsFiles (composed : Composed) : Type 0 where
  pub first : AreOfFiles (map put composed.first.items)
  pub last : AreOfFiles (map put composed.last.items)
