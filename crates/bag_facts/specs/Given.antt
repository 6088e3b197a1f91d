-- What a tree gave of a bag (RFC 8493, 2).
use Rattle.std.specs.Prelude.{◌≡◌, ◌++◌, List, Some}
use Rattle.std.specs.Option.{option_map}
use Rattle.std.specs.Ordering.{on}
use Rattle.bag_text.specs.Bytes.{Content, Path}
use Rattle.bag_text.specs.Order.{IsListOf}
use Rattle.bag_text.specs.Text.{text_cmp}
use Rattle.bag_tree.specs.Bag.{Bag, file}
use Rattle.bag_tree.specs.Tree.{TreeState}
use Rattle.bag_tree.specs.declared.listing.FileEntry.{FileEntry}
use Rattle.bag_facts.specs.Wanted.{IsWanted}
use Rattle.bag_faults.specs.declared.options.Options.{Options}

-- these are the tag files of a bag that are wanted, in path order, each with its bytes
abbrev pub AreTagFiles : Options → Bag → List (Path × Content) → Type 0
AreTagFiles options bag tags =
    IsListOf (on (λ e. e.0) text_cmp)
    (λ e. IsWanted options e.0 × (file bag e.0 ≡ Some e.1)) tags

-- The tree listed these files, and then its reads gave the bytes of the wanted tag files of the bag,
-- one after another, and nothing else.
pub record GivesTagFiles (options : Options) (bag : Bag) (files : List FileEntry)
    (old new : TreeState) : Type 0 where
  pub listed : option_map (λ listing. listing.files) new.listed ≡ Some files
  pub tags : List (Path × Content)
  pub tags_are : AreTagFiles options bag tags
  pub gave : new.gave ≡ old.gave ++ tags
