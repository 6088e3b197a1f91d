-- A file is read piece by piece.
use Rattle.bag_tree.proofs.Common.{◌≡◌, ◌++◌, Some, Option, List, ℕ, arith, take, drop, refl, append_assoc, append-nil}
use Rattle.bag_tree.proofs.Common.{take-append-drop, IsTrue, subst, sym, Keeps, TreeState, ReadsNext, HasRead}

-- a tree that is kept is as honest
pub still : {old new : TreeState} → Keeps old new → IsTrue old.honest → IsTrue new.honest
still keeps h = subst IsTrue (sym keeps.honest) h

-- a read of nothing ends the file
pub read_all : (content rest after : Option (List ℕ)) (bytes buffer : List ℕ) → HasRead content bytes rest
    → ReadsNext rest after 0 buffer → content ≡ Some bytes
read_all content rest after bytes buffer read ends =
    grind (arith, (ends.from_open read.left read.is_open).3.0 refl, append-nil bytes)

-- a read of some bytes
pub read_more : (content rest after : Option (List ℕ)) (bytes buffer : List ℕ) (n : ℕ) → HasRead content bytes rest
    → ReadsNext rest after n buffer → HasRead content (bytes ++ take n buffer) after
read_more content rest after bytes buffer n read piece =
    grind (arith, take-append-drop n read.left, append_assoc bytes (take n read.left) (drop n read.left))
