-- What a change of a tree leaves, and how it is refused.
use Rattle.std.specs.Prelude.{◌≡◌, ◌≤◌, ◌+◌, false, ℕ, IsTrue, None, take}
use Rattle.bag_text.specs.Bytes.{Content, Name}
use Rattle.bag_tree.specs.Bag.{Bag}
use Rattle.bag_tree.specs.Tree.{TreeState, MayRefuse}
use Rattle.bag_tree.specs.declared.tree_fault.TreeFault.{TreeFault}
use Rattle.bag_tree.specs.declared.tree_fault.TreeFault.TheVariants.{Exists}
use Rattle.bag_tree.specs.Steps.{is_taken, create}

-- A change was made, by at most n files and folders more, and no file is open. The bag of an honest
-- tree is the change's, and what else it has isn't of another kind. What the tree gave before stays
-- noted.
pub record AppliesStep (step : Bag → Bag) (more : ℕ) (old new : TreeState) : Type 0 where
  pub bag : IsTrue old.honest → new.bag ≡ step old.bag
  pub plain : IsTrue old.honest → IsTrue old.plain → IsTrue new.plain
  pub honest : new.honest ≡ old.honest
  pub entries : IsTrue old.honest → new.entries ≤ old.entries + more
  pub failures : old.failures ≤ new.failures
  pub openings : new.openings ≡ old.openings
  pub listed : new.listed ≡ old.listed
  pub gave : new.gave ≡ old.gave
  pub rest : new.rest ≡ None
  pub noted : new.noted ≡ old.noted

-- a call leaves the bag, what else stands there, and its honesty, and forgets no failure
pub record LeavesBag (old new : TreeState) : Type 0 where
  pub bag : new.bag ≡ old.bag
  pub plain : new.plain ≡ old.plain
  pub honest : new.honest ≡ old.honest
  pub entries : new.entries ≡ old.entries
  pub failures : old.failures ≤ new.failures
  pub noted : new.noted ≡ old.noted

-- nothing was changed, but that the device may have failed, and may have synced
pub record IsUnchanged (old new : TreeState) : Type 0 where
  pub keeps : LeavesBag old new
  pub openings : new.openings ≡ old.openings
  pub listed : new.listed ≡ old.listed
  pub gave : new.gave ≡ old.gave
  pub rest : new.rest ≡ old.rest
  pub given : new.given ≡ old.given

-- a file of some first bytes was made where nothing had its name
pub record LeavesPartialFile (name : Name) (bytes : Content) (old new : TreeState) : Type 0 where
  pub count : ℕ
  pub begun : AppliesStep (create name (take count bytes)) 1 old new
  pub free : IsTrue old.honest → is_taken old.bag name ≡ false

-- A change may answer this refusal: `absent` says when an honest tree may answer NotFound, and
-- `taken` when Exists.
abbrev pub MayRefuseChange : Type 0 → Type 0 → TreeState → TreeState → TreeFault → Type 0
MayRefuseChange absent taken old new Exists = IsTrue old.honest → taken
MayRefuseChange absent taken old new fault = MayRefuse absent ⊥ old new fault
