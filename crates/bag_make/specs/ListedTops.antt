-- What a listing shows of a folder that is made a bag.
use Rattle.std.specs.Prelude.{Bool, List, [], ◌∷◌, ◌++◌, map, if◌then◌else◌}
use Rattle.std.specs.List.{list_any}
use Rattle.bag_text.specs.Bytes.{Name}
use Rattle.bag_text.specs.Path.{first_component}
use Rattle.bag_tree.specs.declared.listing.Listing.{Listing}
use Rattle.bag_tree.specs.Moved.{is_within}
use Rattle.bag_make.specs.Made.{data_folder}
use Rattle.bag_make.specs.Steps.{new_folder}
use Rattle.bag_make.specs.Plan.{in_order}

-- a listed file stands in the way of the folder that is made
abbrev pub has_new : Listing → Bool
has_new listing = list_any (λ entry. is_within new_folder entry.path) listing.files

-- what a listing says is moved
abbrev pub listed_tops : Listing → List Name
listed_tops listing =
    in_order (map (λ entry. first_component entry.path) listing.files
    ++ (if listing.has_data then data_folder ∷ [] else []))
