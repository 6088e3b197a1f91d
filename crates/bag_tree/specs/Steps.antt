-- The changes of a tree, as functions on bags.
use Rattle.std.specs.Prelude.{◌||◌, ◌&&◌, not, Bool}
use Rattle.std.specs.List.{list_any}
use Rattle.std.specs.FinMap as map
use Rattle.std.specs.FinSet as set
use Rattle.bag_text.specs.Bytes.{Content, Name, Path}
use Rattle.bag_text.specs.Path.{under}
use Rattle.bag_tree.specs.Bag.{Bag, files_of, has_file, has_folder}
use Rattle.bag_tree.specs.Moved.{ByPath, is_within, moved}

-- files by their paths
abbrev pub Files : Type 0
Files = ByPath Content

-- the bag with a folder in its base folder
abbrev pub make_folder : Name → Bag → Bag
make_folder name bag = record { files = bag.files; folders = set.insert bag.folders name }

-- the bag with what had a name in its base folder under a folder, with all that is below it
abbrev pub move_in : Name → Name → Bag → Bag
move_in top folder bag =
    record { files = moved top (under folder top) bag.files; folders = set.remove bag.folders top }

-- the bag with another name for a folder of its base folder
abbrev pub rename_folder : Name → Name → Bag → Bag
rename_folder from to bag =
    record {
      files = moved from to bag.files;
      folders = set.remove (set.insert bag.folders to) from;
    }

-- the bag with a file of these bytes
abbrev pub create : Path → Content → Bag → Bag
create name bytes bag = record { files = map.insert bag.files name bytes; folders = bag.folders }

-- a file or a folder of the base folder has this name
abbrev pub is_taken : Bag → Name → Bool
is_taken bag name = has_file bag name || has_folder bag name

-- a file stands at the path or below it
abbrev pub has_within : Bag → Path → Bool
has_within bag top = list_any (λ e. is_within top e.0) (files_of bag)

-- there is no such folder
abbrev pub lacks_folder : Bag → Name → Bool
lacks_folder bag name = not (has_folder bag name)

-- what is to be moved isn't there, or the folder for it isn't
abbrev pub lacks_source : Bag → Name → Name → Bool
lacks_source bag top folder = not (has_folder bag folder && is_taken bag top)
