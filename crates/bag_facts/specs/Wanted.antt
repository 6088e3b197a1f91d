-- The tag files that are read (RFC 8493, 2.1 and 2.2).
use Rattle.std.specs.Prelude.{◌≡◌, ◌++◌, ◌∷◌, ℕ, List, All, Contains, map, take, IsTrue}
use Rattle.std.specs.List.Sorted.{IsStrictlySortedBy}
use Rattle.bag_text.specs.Bytes.{Path}
use Rattle.bag_text.specs.Text.{text_cmp}
use Rattle.bag_text.specs.Order.{IsListOf}
use Rattle.bag_read.specs.ManifestName.{tag_path}
use Rattle.bag_read.specs.declared.tag_name.TagName.{TagName}
use Rattle.bag_tree.specs.Listing.{IsOrdered, IsListingOf}
use Rattle.bag_tree.specs.Tree.{TreeState, IsRefusedAt}
use Rattle.bag_tree.specs.declared.listing.FileEntry.{FileEntry}
use Rattle.bag_tree.specs.declared.listing.Listing.{Listing}
use Rattle.bag_faults.specs.Options.{Wants}
use Rattle.bag_faults.specs.declared.options.Options.{Options}
use Rattle.bag_tree.specs.Bag.{HasFile}
use Rattle.bag_tree.specs.declared.tree_fault.Stop.{Stop}

-- a tag file that is read whole under the options
abbrev pub IsWanted : Options → Path → Type 0
IsWanted options path = (name : TagName) × (tag_path name ≡ path) × Wants options name

-- the paths of listed files
abbrev pub paths_of : List FileEntry → List Path
paths_of files = map (λ entry. entry.path) files

-- the wanted tag files among these files, in path order
abbrev pub AreWanted : Options → List FileEntry → List Path → Type 0
AreWanted options files paths =
    IsListOf text_cmp (λ path. IsWanted options path × Contains (paths_of files) path) paths

-- the first of these files were opened, one after another, and no other
abbrev pub OpensFirstOf : List Path → TreeState → TreeState → Type 0
OpensFirstOf paths old new = (count : ℕ) × (new.openings ≡ old.openings ++ take count paths)

-- files that are wanted were opened, each once at most and in path order, and no others
abbrev pub OpensWanted : Options → TreeState → TreeState → Type 0
OpensWanted options old new =
    (paths : List (List ℕ)) × (new.openings ≡ old.openings ++ paths)
    × IsStrictlySortedBy text_cmp paths × All (IsWanted options) paths

-- the file was refused when the wanted tag files before it had been opened, each once and in path
-- order, and no other file
abbrev pub OpensUpTo : Options → List FileEntry → Path → TreeState → TreeState → Type 0
OpensUpTo options files path old new =
    (before : List (List ℕ)) × (after : List (List ℕ))
    × AreWanted options files (before ++ path ∷ after)
    × IsRefusedAt (old.openings ++ before) path new

-- so it is for some ordered listing, which of an honest tree is its bag's
abbrev pub ForListing : TreeState → (List FileEntry → Type 0) → Type 0
ForListing old IsSo =
    (listing : Listing) × IsOrdered listing.files
    × (IsTrue old.honest → IsListingOf old.bag listing) × IsSo listing.files

-- a file was refused: one that is wanted, and of an honest tree's bag
abbrev pub IsRefusedFile : Options → TreeState → Stop → Type 0
IsRefusedFile options old stop =
    IsWanted options stop.path × (IsTrue old.honest → HasFile old.bag stop.path)
