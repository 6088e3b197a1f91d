-- Which files a source opens.
use Rattle.std.specs.Prelude.{ℕ, ◌≡◌, ◌≢◌, ◌⊎◌, ◌++◌, ◌∷◌, List, [], Contains}
use Rattle.bag_text.specs.Bytes.{Path}
use Rattle.bag_tree.specs.Tree.{TreeState}
use Rattle.bag_tree.specs.declared.tree_fault.Stop.{Stop}
use Rattle.bag_tree.specs.Stop.{IsOutOfMemory}
use Rattle.bag_facts.specs.StopsAmong.{IsRefusedAmong}
use Rattle.bag_faults.specs.declared.fault.Fault.{Fault}
use Rattle.bag_sources.specs.Openings.{IsBeforeFile, NoFaultBefore}

-- each of these files before which one of these faults stands is still to be opened
abbrev pub StillWait : List Path → List Fault → List Path → Type 0
StillWait files faults todo =
    (f : Fault) (path : List ℕ) → Contains faults f → Contains files path → IsBeforeFile f path
    → Contains todo path

-- no file was opened before which one of these faults stands
abbrev pub OpensNoFileEarly : List Fault → TreeState → TreeState → Type 0
OpensNoFileEarly faults old new =
    (opened : List (List ℕ)) → new.openings ≡ old.openings ++ opened → NoFaultBefore faults opened

-- where a file is reported, none of these faults stands before it
abbrev pub NoFaultBeforeStop : List Fault → Path → Type 0
NoFaultBeforeStop faults path = path ≢ [] → NoFaultBefore faults (path ∷ [])

-- it stopped when out of memory, or at one of these files when those before it had been opened
abbrev pub StopsAtNext : List Path → TreeState → TreeState → Stop → Type 0
StopsAtNext todo old new stop = IsOutOfMemory stop ⊎ IsRefusedAmong todo old new stop.path

-- the same, but the last that was opened may be left too
pub record OpensAgain (before after : List Path) (old new : TreeState) : Type 0 where
  pub passed : List Path
  pub left : before ≡ passed ++ after
  pub openings : (new.openings ≡ old.openings ++ passed)
      ⊎ ((path : List ℕ) × (rest : List (List ℕ)) × (after ≡ path ∷ rest)
      × (new.openings ≡ old.openings ++ (passed ++ path ∷ [])))

-- the first of the files to be opened were opened, each once and in their order, and no other; the
-- others are left
pub record Opens (before after : List Path) (old new : TreeState) : Type 0 where
  pub opened : List Path
  pub openings : new.openings ≡ old.openings ++ opened
  pub left : before ≡ opened ++ after
