-- Lists of faults that are found as they are asked for.
use Rattle.std.specs.Prelude.{ℕ, ◌≡◌, ◌⊎◌, ◌∷◌, IsTrue, List, []}
use Rattle.bag_text.specs.Bytes.{Path}
use Rattle.bag_tree.specs.Bag.{Bag}
use Rattle.bag_tree.specs.Tree.{TreeState}

-- what stands after the first
abbrev pub rest_of : {A : Type 0} → List A → List A
rest_of [] = []
rest_of (x ∷ xs) = xs

-- what is seen is this bag: that of an honest tree, and any where no file is to be opened
abbrev pub Sees : TreeState → List Path → Bag → Type 0
Sees state todo bag = (IsTrue state.honest × (state.bag ≡ bag)) ⊎ (todo ≡ [])

-- by what a source is of and the files that it may still open
module _ {S : Type 0} (is_of : Bag → S → Type 0) where
  -- so it is for each bag that the source is of and that this tree shows
  abbrev pub ForEachSeen : (S → List (List ℕ)) → TreeState → S → (Bag → Type 0) → Type 0
  ForEachSeen todo state source Holds =
      (bag : Bag) → is_of bag source → Sees state (todo source) bag → Holds bag

  -- if the tree is honest, the source is of its bag
  abbrev pub IsOfHonest : TreeState → S → Type 0
  IsOfHonest state source = IsTrue state.honest → is_of state.bag source
