-- The line that says what became of a folder.
use Rattle.std.specs.Prelude.{Bool, List, ℕ, [], ◌++◌, codes, if◌then◌else◌}
use Rattle.bag_tree.specs.Tree.{cause_word}
use Rattle.bag_tree.specs.declared.tree_fault.TreeFault.{TreeFault}
use Rattle.bag_faults.specs.FaultLine.{field}

-- the folder of this name was done with, in these words; nothing where the program is quiet
abbrev pub done_line : List ℕ → List ℕ → Bool → List ℕ
done_line name words quiet = if quiet then [] else (field name ++ (words ++ codes "\n"))

-- the folder of this name wasn't, in these words, and why
abbrev pub not_done_line : List ℕ → List ℕ → List ℕ → List ℕ
not_done_line name words why = field name ++ (words ++ (why ++ codes "\n"))

-- what was asked of a file, none where it is the listing, and the cause for which it was refused
abbrev pub refusal : List ℕ → List ℕ → TreeFault → List ℕ
refusal asked path cause = asked ++ (codes " " ++ (field path ++ (codes " " ++ cause_word cause)))
