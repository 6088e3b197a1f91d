-- The bag of a tree in memory.
use Rattle.std.specs.Prelude.{ℕ, ◌+◌, Bool, true, false, List, [], length, Option, None, nat_lt}
use Rattle.std.specs.Prelude.{if◌then◌else◌}
use Rattle.std.specs.FinMap as fin
use Rattle.std.specs.FinSet as set
use Rattle.bag_text.specs.Text.{text_cmp}
use Rattle.bag_text.specs.Path.{components, first_component}
use Rattle.bag_tree.specs.Bag.{Bag}
use Rattle.bag_tree.specs.GivenFiles.{WhatIsGiven}
use Rattle.bag_tree.specs.Tree.{TreeState}
use Rattle.bag_tree.specs.declared.answer.Answer.{Answer}
use Rattle.bag_tree.specs.declared.answer.Answer.TheVariants.{Given}

-- the bag with no files and no folders
abbrev pub empty_bag : Bag
empty_bag = record { files = fin.empty; folders = set.empty }

-- a path of two or more components, which stands in a folder of the base folder
abbrev pub is_in_folder : List ℕ → Bool
is_in_folder path = nat_lt 1 (length (components path))

-- the folders, with the one that the path stands in
abbrev pub folders_for : set.FinSet text_cmp → List ℕ → set.FinSet text_cmp
folders_for folders path =
    if is_in_folder path then set.insert folders (first_component path) else folders

-- the bag with a file in place of what was at the path, and with the folder that it stands in
abbrev pub with_file : Bag → List ℕ → List ℕ → Bag
with_file bag path bytes =
    record { files = fin.insert bag.files path bytes; folders = folders_for bag.folders path }

-- the bag with a folder of the base folder
abbrev pub with_folder : Bag → List ℕ → Bag
with_folder bag name = record { files = bag.files; folders = set.insert bag.folders name }

-- A tree in memory is honest and never fails, and has the files and the folders of its bag and
-- nothing else. It gave `what`, its reads of the open file have given `given` bytes, and its last
-- call answered `last`. It has no device.
abbrev pub memory_state_after : Bag → List (List ℕ) → WhatIsGiven → Option (List ℕ) → ℕ → Answer
    → TreeState
memory_state_after bag openings what rest given last = record {
  bag = bag;
  plain = true;
  honest = true;
  entries = fin.len bag.files + set.len bag.folders;
  failures = 0;
  openings = openings;
  listed = what.listed;
  gave = what.gave;
  rest = rest;
  given = given;
  last = last;
  trail = [];
  noted = false;
}

-- a tree in memory that gave nothing yet, and whose last call gave what was asked for
abbrev pub memory_state : Bag → List (List ℕ) → Option (List ℕ) → TreeState
memory_state bag openings rest =
    memory_state_after bag openings (record { listed = None; gave = [] }) rest 0 Given
