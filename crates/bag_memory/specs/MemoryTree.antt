-- What the calls of a tree in memory promise.
use Rattle.std.specs.Prelude.{ℕ, ◌≡◌, ◌&&◌, Bool, true, List, length, map, Option, Some, None, drop}
use Rattle.std.specs.Prelude.{nat_lt, ⊤}
use Rattle.std.specs.List.{list_all}
use Rattle.std.specs.Option.{option_map}
use Rattle.std.specs.Str.{is_utf8}
use Rattle.std.specs.FinMap as fin
use Rattle.std.specs.FinSet as set
use Rattle.bag_text.specs.Text.{text_cmp}
use Rattle.bag_text.specs.Path.{is_path, is_base_name, under}
use Rattle.bag_tree.specs.Bag.{Bag, file, has_file, has_folder}
use Rattle.bag_tree.specs.GivenFiles.{WhatIsGiven}
use Rattle.bag_tree.specs.Tree.{TreeState}
use Rattle.bag_tree.specs.declared.answer.Answer.TheVariants.{Given}
use Rattle.bag_tree.specs.declared.listing.FileEntry.{FileEntry}
use Rattle.bag_tree.specs.declared.tree_fault.TreeFault.{TreeFault}
use Rattle.bag_tree.specs.declared.tree_fault.TreeFault.TheVariants.{NotFound, Memory}
use Rattle.bag_memory.specs.Memory.{with_file, with_folder, memory_state_after}

-- numbers below 256
abbrev pub are_bytes : List ℕ → Bool
are_bytes content = list_all (λ b. nat_lt b 256) content

-- a name in the base folder, in UTF-8
abbrev pub is_text_name : List ℕ → Bool
is_text_name name = is_base_name name && is_utf8 name

-- a path in UTF-8
abbrev pub is_text_path : List ℕ → Bool
is_text_path path = is_path path && is_utf8 path

-- what `IsBag` says, by tests, so that it has at most one proof
pub record PassesAsBag (bag : Bag) : Type 0 where
  pub paths : (path : List ℕ) → has_file bag path ≡ true → is_text_path path ≡ true
  pub names : (name : List ℕ) → has_folder bag name ≡ true → is_text_name name ≡ true
  pub parents : (top rest : List ℕ) → is_base_name top ≡ true → has_file bag (under top rest) ≡ true
      → has_folder bag top ≡ true
  pub bytes : (path content : List ℕ) → file bag path ≡ Some content → are_bytes content ≡ true

-- a file isn't opened where there is none, or when out of memory
abbrev pub IsOpeningFault : Option (List ℕ) → TreeFault → Type 0
IsOpeningFault content NotFound = content ≡ None
IsOpeningFault content Memory = ⊤
IsOpeningFault content fault = ⊥

-- what follows the part of the open file that was read
abbrev pub unread_rest : Bag → Option (List ℕ) → ℕ → Option (List ℕ)
unread_rest bag None at = None
unread_rest bag (Some path) at = option_map (drop at) (file bag path)

-- each file with its size
abbrev pub listed : List (List ℕ × List ℕ) → List FileEntry
listed files = map (λ e. record { path = e.0; size = length e.1 }) files

-- the folders without one that was added
abbrev pub folders_without : set.FinSet text_cmp → Option (List ℕ) → set.FinSet text_cmp
folders_without folders None = folders
folders_without folders (Some name) = set.remove folders name

-- the folders of these names
abbrev pub folder_set : List (List ℕ) → set.FinSet text_cmp
folder_set names = set.from_list names

-- files by their paths
abbrev pub file_map : List (List ℕ × List ℕ) → fin.FinMap text_cmp (List ℕ)
file_map files = fin.from_entries files

-- the bag of files by their paths, and of the names of its folders
abbrev pub bag_of_files : List (List ℕ × List ℕ) → List (List ℕ) → Bag
bag_of_files files names = record { files = file_map files; folders = folder_set names }

-- what a tree gave
abbrev pub given_by : TreeState → WhatIsGiven
given_by state = record { listed = state.listed; gave = state.gave }

-- the state with a folder of the base folder more: all else stays
abbrev pub state_with_folder : TreeState → List ℕ → TreeState
state_with_folder state name =
    memory_state_after (with_folder state.bag name) state.openings (given_by state) state.rest
    state.given state.last

-- the state with a file put in place of what was at the path: then no file is open
abbrev pub state_with_file : TreeState → List ℕ → List ℕ → TreeState
state_with_file state path bytes =
    memory_state_after (with_file state.bag path bytes) state.openings (given_by state) None 0 Given
