-- How many files and folders a bag has after a change.
use Rattle.bag_memory.proofs.Common.{◌≡◌, ℕ, ◌+◌, ◌≤◌, Bool, true, false, not, nat_lt, List, [], ◌∷◌, Option, None}
use Rattle.bag_memory.proofs.Common.{length, arith, nat_list_cmp_total, text_cmp, and_parts, or_right, eqb-true}
use Rattle.bag_memory.proofs.Common.{false≢true, is_base_name, Bag, has_folder, bag_of_files, file_map, folder_set}
use Rattle.bag_memory.proofs.Common.{folders_for, memory_state_after, AppliesStep, Files, make_folder, move_in}
use Rattle.bag_memory.proofs.Common.{rename_folder, create, is_taken, lacks_folder, lacks_source, moved, renamed}
use Rattle.bag_memory.proofs.Common.{with_renamed, insert, empty, entries}
use Rattle.std.specs.FinMap as map
use Rattle.std.specs.FinSet as set
use Rattle.bag_tree.specs.GivenFiles.{WhatIsGiven}
use Rattle.bag_tree.specs.declared.answer.Answer.{Answer}
use Rattle.bag_tree.specs.declared.answer.Answer.TheVariants.{Given}
use Rattle.bag_memory.proofs.InMemory.{folder_stays, same_bag}

pub folders_more : (folders : set.FinSet text_cmp) (name : List ℕ)
    → set.len (set.insert folders name) ≤ set.len folders + 1
folders_more folders name = grind (arith, set.len-insert nat_list_cmp_total folders name)

pub folders_less : (folders : set.FinSet text_cmp) (name : List ℕ) → set.len (set.remove folders name) ≤ set.len folders
folders_less folders name = grind (arith, set.len-remove nat_list_cmp_total folders name)

-- as many folders when one has another name
pub folders_renamed : (folders : set.FinSet text_cmp) (from to : List ℕ) → set.contains folders from ≡ true
    → set.len (set.remove (set.insert folders to) from) ≤ set.len folders
folders_renamed folders from to has =
    grind (arith, set.len-remove nat_list_cmp_total (set.insert folders to) from, folder_stays, folders_more)

pub files_more : (files : Files) (path bytes : List ℕ) → map.len (map.insert files path bytes) ≤ map.len files + 1
files_more files path bytes = grind (arith, map.len-insert nat_list_cmp_total files path bytes)

with_as_many : (from to : List ℕ) (files : Files) (es : List (List ℕ × List ℕ))
    → map.len (with_renamed from to files es) ≤ map.len files + length es
with_as_many from to files [] = omega arith
with_as_many from to files (e ∷ es) =
    grind (arith, files_more, with_as_many from to (map.insert files (renamed from to e.0) e.1) es)

-- as many files when some have other paths
pub files_moved : (from to : List ℕ) (files : Files) → map.len (moved from to files) ≤ map.len files
files_moved from to files =
    grind (
      arith,
      with_as_many from to map.empty (map.entries files),
      map.len-empty text_cmp (List ℕ),
      map.len-entries files,
    )

-- how many files and folders a bag has
abbrev count : Bag → ℕ
count bag = map.len bag.files + set.len bag.folders

pub count_made : (name : List ℕ) (bag : Bag) → count (make_folder name bag) ≤ count bag + 1
count_made name bag = grind (arith, folders_more)

pub count_created : (name bytes : List ℕ) (bag : Bag) → count (create name bytes bag) ≤ count bag + 1
count_created name bytes bag = let more = files_more bag.files name bytes in omega (arith, more)

pub count_moved : (top folder : List ℕ) (bag : Bag) → count (move_in top folder bag) ≤ count bag + 0
count_moved top folder bag = grind (arith, files_moved, folders_less)

pub count_renamed : (from to : List ℕ) (bag : Bag) → has_folder bag from ≡ true
    → count (rename_folder from to bag) ≤ count bag + 0
count_renamed from to bag has = grind (arith, files_moved, folders_renamed)

-- a tree in memory was changed
pub memory_changed : (step : Bag → Bag) (more : ℕ) (old : Bag) (files : List (List ℕ × List ℕ))
    (folders openings : List (List ℕ)) (what : WhatIsGiven) (rest : Option (List ℕ)) (given : ℕ) (last : Answer)
    → file_map files ≡ (step old).files → folder_set folders ≡ (step old).folders → count (step old) ≤ count old + more
    → AppliesStep step more (memory_state_after old openings what rest given last)
    (memory_state_after (bag_of_files files folders) openings what None given Given)
memory_changed step more old files folders openings what rest given last one other few = grind (arith, same_bag)

pub not_lacking : (b : Bool) → not b ≡ false → b ≡ true
not_lacking b e = grind arith

-- where a source is there, the folder is
pub folder_there : (bag : Bag) (top folder : List ℕ) → lacks_source bag top folder ≡ false
    → has_folder bag folder ≡ true
folder_there bag top folder there = grind (arith, not_lacking)

-- a folder that is there hasn't a free name
pub free_differs : (bag : Bag) (from to : List ℕ) → lacks_folder bag from ≡ false → is_taken bag to ≡ false → to ≡ from
    → ⊥
free_differs bag from to there free same = grind (arith, false≢true, or_right, not_lacking)

-- a name of the base folder stands in no folder
pub no_folder_for_name : (folders : set.FinSet text_cmp) (name : List ℕ) → is_base_name name ≡ true
    → folders ≡ folders_for folders name
no_folder_for_name folders name is = grind (arith, eqb-true, and_parts, nat_lt)
