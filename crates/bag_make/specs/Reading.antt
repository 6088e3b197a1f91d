-- How the files of a folder are read before a bag is made of them.
use Rattle.std.specs.Prelude.{◌≡◌, ◌⊎◌, IsTrue, None, Some, map}
use Rattle.bag_tree.specs.Bag.{files_of}
use Rattle.bag_tree.specs.Tree.{TreeState, Keeps, refusal_of}
use Rattle.bag_tree.specs.declared.answer.Answer.TheVariants.{Given}
use Rattle.bag_tree.specs.declared.tree_fault.TreeFault.TheVariants as cause_of
use Rattle.bag_facts.specs.Wanted.{OpensFirstOf}

-- of an honest tree the first files of the bag were opened, in path order and each once, and no
-- other
abbrev pub OpensFolder : TreeState → TreeState → Type 0
OpensFolder old new =
    IsTrue old.honest → OpensFirstOf (map (λ e. e.0) (files_of old.bag)) old new

-- The files were listed and no file was opened. The device didn't fail, and of an honest tree only
-- files and folders stand there.
pub record HasOnlyListed (old new : TreeState) : Type 0 where
  pub keeps : Keeps old new
  pub failures : new.failures ≡ old.failures
  pub plain : IsTrue old.honest → IsTrue old.plain
  pub openings : new.openings ≡ old.openings
  pub last : new.last ≡ Given

-- Nothing was refused: the device didn't fail, of an honest tree only files and folders stand
-- there, and the last answer is no refusal.
pub record HasRefusedNothing (old new : TreeState) : Type 0 where
  pub failures : new.failures ≡ old.failures
  pub plain : IsTrue old.honest → IsTrue old.plain
  pub last : refusal_of new.last ≡ None

-- the tree refused when out of memory; or it refused nothing, and there was no memory for what was
-- read
abbrev pub LackedMemory : TreeState → TreeState → Type 0
LackedMemory old new = (refusal_of new.last ≡ Some cause_of.Memory) ⊎ HasRefusedNothing old new
