-- What a power cut may leave of a folder of which a bag is made.
use Rattle.std.specs.Prelude.{ℕ, ◌≡◌, ◌⊎◌, IsTrue, List, Some}
use Rattle.bag_text.specs.Path.{under}
use Rattle.bag_text.specs.declared.alg.Alg.{Alg}
use Rattle.bag_tree.specs.Bag.{Bag, file}
use Rattle.bag_tree.specs.Cut.{EachCut, LeavesOnly}
use Rattle.bag_tree.specs.Tree.{TreeState}
use Rattle.bag_tags.specs.Element.{NewElement}
use Rattle.bag_make.specs.Made.{data_folder, made}
use Rattle.bag_make.specs.Remainder.{LacksNoPayload}
use Rattle.bag_make.specs.Steps.{new_folder}

-- each file of the folder is whole: at its path, or at that path in one of the two folders
abbrev pub HasAllFiles : Bag → Bag → Type 0
HasAllFiles bag left =
    (path bytes : List ℕ) → file bag path ≡ Some bytes
    → (file left path ≡ Some bytes)
    ⊎ (file left (under new_folder path) ≡ Some bytes)
    ⊎ (file left (under data_folder path) ≡ Some bytes)

-- each file of the folder is whole, and where what is left has no fault, it lacks no file of the
-- folder's payload
pub record Outlasts (bag left : Bag) : Type 0 where
  pub files : HasAllFiles bag left
  pub payload : LacksNoPayload bag left

-- so it is with whatever a power cut at any moment of the making leaves
abbrev pub OutlastsCuts : TreeState → TreeState → Type 0
OutlastsCuts old new =
    IsTrue old.honest → IsTrue old.noted
    → EachCut old.trail new.trail old.bag (Outlasts old.bag)

-- a power cut after the making leaves the bag that was made, and nothing else
abbrev pub LastsForGood : List Alg → List NewElement → TreeState → TreeState → Type 0
LastsForGood algs info old new =
    IsTrue old.honest → IsTrue old.noted
    → LeavesOnly old.trail new.trail old.bag (made old.bag algs info)
