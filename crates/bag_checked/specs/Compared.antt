-- Files of which the digests that manifests give were compared with those of the bytes that a tree
-- gave, whatever tree it is.
use Rattle.std.specs.Prelude.{◌≡◌, ◌++◌, All, Bool, List, Some, map}
use Rattle.std.specs.Option.{option_map}
use Rattle.bag_text.specs.declared.alg.Alg.{Alg}
use Rattle.bag_entries.specs.declared.entry.ManifestEntry.{ManifestEntry}
use Rattle.bag_facts.specs.Given.{AreTagFiles}
use Rattle.bag_report.specs.Valid.{full}
use Rattle.bag_stages.specs.Given.{kind_of}
use Rattle.bag_stages.specs.ValidityStage.{IsEntryIn}
use Rattle.bag_tree.specs.Bag.{Bag, IsBag, files_of}
use Rattle.bag_tree.specs.Digest.{digest}
use Rattle.bag_tree.specs.Tree.{TreeState}
use Rattle.bag_tags.specs.Summed.{File}
use Rattle.bag_checked.specs.Summed.{files_to_read}
use Rattle.bag_tree.specs.Listing.{entry_of_file}

-- each digest that a manifest of the bag gives for a file is that of its bytes
abbrev pub HasGivenDigests : Bag → File → Type 0
HasGivenDigests bag e =
    (alg : Alg) (entry : ManifestEntry) → IsEntryIn bag (kind_of e.0) alg entry
    → entry.path ≡ e.0 → entry.digest ≡ digest alg e.1

-- What the tree gave between these states, and no other bytes, in this order: a listing, which has
-- the files of the bag with their lengths; the tag files of the bag that say what it is; and then
-- these files, all that were listed, or all but the payload. Each digest that the manifests of the
-- bag give for one of these is that of the bytes that the tree gave.
pub record AreCompared (bag : Bag) (with_payload : Bool) (files : List File) (old new : TreeState)
    : Type 0 where
  pub is_bag : IsBag bag
  pub listed : option_map (λ listing. listing.files) new.listed
      ≡ Some (map entry_of_file (files_of bag))
  pub tags : List File
  pub tags_are : AreTagFiles full bag tags
  pub gave : new.gave ≡ (old.gave ++ tags) ++ files
  pub entries : map entry_of_file files
      ≡ map entry_of_file (files_to_read with_payload (files_of bag))
  pub right : All (HasGivenDigests bag) files
