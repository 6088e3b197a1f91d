-- What is done with the trees of folders, and reported.
use Rattle.std.specs.Prelude.{ℕ, ◌≡◌, ◌⊎◌, List, [], ◌∷◌, true}
use Rattle.std.specs.Prelude.{Result, Ok, Err, MatchResult}
use Rattle.std.specs.Io.KnownBytes.{Appends}
use Rattle.bag_tree.specs.Out.{IsCut, OutState}
use Rattle.bag_tree.specs.Tree.{TreeState}
use Rattle.bag_tree.specs.declared.out.Refused.{Refused}
use Rattle.bag_program.specs.Visits.{visit_of}
use Rattle.bag_program.specs.InTurn.{AreInTurn, Deed, Last, Whole}
use Rattle.bag_program.specs.Visits.{Event, NotGiven}

-- what was done with a tree, as it was and as it was left, and reported under a name: with the
-- output before and after that, and the exit status, or that the output refused
abbrev pub TreeDeed : Type 1
TreeDeed = List ℕ → TreeState → TreeState → OutState → OutState → Result ℕ Refused → Type 0

-- the output took the text, and this is the status; or it refused, and took a proper prefix
abbrev pub Reports : List ℕ → ℕ → OutState → OutState → Result ℕ Refused → Type 0
Reports text status before after reported =
    MatchResult reported
    (λ n. (n ≡ status) × Appends before.taken after.taken text)
    (λ _. IsCut before.taken after.taken text × (after.has_refused ≡ true))

-- It was done with the tree that was given for the folder, which was left as that leaves it.
pub record IsDoneWith (Done : TreeDeed) (tree : TreeState) (name : List ℕ)
    (before after : OutState) (visits : List Event) (reported : Result ℕ Refused) : Type 0 where
  pub new : TreeState
  pub visit : visits ≡ visit_of name new
  pub done : Done name tree new before after reported

-- it was done and reported, and this is its status
abbrev pub IsWholeDeed : TreeDeed → TreeState → Whole
IsWholeDeed Done tree name before after visits n =
    IsDoneWith Done tree name before after visits (Ok n)

-- memory ran out for the folder, which was asked for and couldn't be given, and nothing was written
abbrev pub IsNotGiven : Last
IsNotGiven name before after visits = (after ≡ before) × (visits ≡ NotGiven name ∷ [])

-- the last: the output refused what was reported, or memory ran out for the folder
abbrev pub IsLastDeed : TreeDeed → TreeState → Last
IsLastDeed Done tree name before after visits =
    ((refusal : Refused) × IsDoneWith Done tree name before after visits (Err refusal))
    ⊎ IsNotGiven name before after visits

-- it was done with the folders of these names in the trees that they name, one after the other
abbrev pub AreDoneWith : TreeDeed → (List ℕ → TreeState) → List (List ℕ) → Deed
AreDoneWith Done tree_of names before after visits n =
    AreInTurn (λ name. IsLastDeed Done (tree_of name) name)
    (λ name. IsWholeDeed Done (tree_of name) name)
    names before after visits n
