-- What a listing of a bag says.
use Rattle.std.specs.Prelude.{ℕ, ◌≡◌, List, length, map, Option, codes, IsTrue, All}
use Rattle.std.specs.Option.{option_map}
use Rattle.std.specs.List.{find}
use Rattle.std.specs.List.Sorted.{IsStrictlySortedBy}
use Rattle.std.specs.Str.{bytes_eq}
use Rattle.bag_text.specs.Bytes.{Path}
use Rattle.bag_text.specs.Text.{text_cmp}
use Rattle.bag_text.specs.Path.{is_path}
use Rattle.bag_tree.specs.Bag.{Bag, file, has_folder}
use Rattle.bag_tree.specs.declared.listing.FileEntry.{FileEntry}
use Rattle.bag_tree.specs.declared.listing.Listing.{Listing}

-- the entry of a path
abbrev pub entry_at : List FileEntry → Path → Option FileEntry
entry_at files path = find (λ entry. bytes_eq entry.path path) files

-- the size that a listing gives at a path
abbrev pub size_at : List FileEntry → Path → Option ℕ
size_at files path = option_map (λ entry. entry.size) (entry_at files path)

-- how a file, its path and its bytes, is listed
abbrev pub entry_of_file : List ℕ × List ℕ → FileEntry
entry_of_file file = record { path = file.0; size = length file.1 }

-- what every listing is, whatever the tree: its texts are paths, strictly ascending by their bytes
pub record IsOrdered (files : List FileEntry) : Type 0 where
  pub ascending : IsStrictlySortedBy text_cmp (map (λ entry. entry.path) files)
  pub paths : All (λ entry. IsTrue (is_path entry.path)) files

-- what listing an honest tree gives: the files of the bag with their lengths, and no others
pub record IsListingOf (bag : Bag) (listing : Listing) : Type 0 where
  pub files : (path : Path) → size_at listing.files path ≡ option_map length (file bag path)
  pub has_data : listing.has_data ≡ has_folder bag (codes "data")
