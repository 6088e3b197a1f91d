-- The bag that is checked where no words are given.
use Rattle.std.specs.Prelude.{[], None, codes}
use Rattle.bag_tree.specs.Bag.{Bag}
use Rattle.bag_tree.specs.Tree.{TreeState}
use Rattle.bag_memory.specs.Memory.{empty_bag, memory_state, with_file, with_folder}
use Rattle.bag_tags.specs.Declaration.{declaration_text}

-- a declaration, an empty manifest, and an empty payload folder
abbrev pub sample_bag : Bag
sample_bag =
    let declared = with_file empty_bag (codes "bagit.txt") declaration_text in
    with_folder (with_file declared (codes "manifest-sha256.txt") []) (codes "data")

-- the sample is honest, and nothing of it is open
abbrev pub sample_state : TreeState
sample_state = memory_state sample_bag [] None
