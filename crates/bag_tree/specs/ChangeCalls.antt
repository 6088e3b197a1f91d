-- What each call that changes a tree promises.
use Rattle.std.specs.Prelude.{◌≡◌, ◌⊎◌, true, ℕ, IsTrue, Result, OnOk, OnErr, IfErr, MatchResult}
use Rattle.bag_text.specs.Bytes.{Content, Name}
use Rattle.bag_text.specs.Path.{under}
use Rattle.bag_tree.specs.Asked.{Adds, Asking, AsksFile, AsksFolder, AsksMove, AsksRename}
use Rattle.bag_tree.specs.Asked.{AsksSyncs, MayBegin}
use Rattle.bag_tree.specs.Bag.{Bag}
use Rattle.bag_tree.specs.Tree.{TreeState}
use Rattle.bag_tree.specs.Changes.{AppliesStep, IsUnchanged, LeavesPartialFile, MayRefuseChange}
use Rattle.bag_tree.specs.declared.answer.Answer.TheVariants.{Given, Refused}
use Rattle.bag_tree.specs.declared.tree_fault.TreeFault.{TreeFault}
use Rattle.bag_tree.specs.Steps.{is_taken, has_within, lacks_folder, lacks_source, make_folder}
use Rattle.bag_tree.specs.Steps.{move_in, rename_folder, create}

-- of an honest tree neither the source is absent nor the target there
abbrev pub IsPossible : Type 0 → Type 0 → TreeState → Type 0
IsPossible absent taken old = IsTrue old.honest → ¬ absent × ¬ taken

-- A call that changes a tree is answered so. Ok: the step was made, by at most `more` files and
-- folders more. A refusal: `left` says what it left. An honest tree answers NotFound only where
-- what is to be moved is `absent`, and Exists only where the target is `taken`. Of a device that
-- notes what it does, an answered call asked what `asks` says, and a refused one what
-- `refused_asks` says.
pub record Changes (step : Bag → Bag) (more : ℕ) (absent taken left : Type 0)
    (asks refused_asks : Asking)
    (old new : TreeState) (result : Result (Unit {0}) TreeFault) : Type 0 where
  pub changed : OnOk result (AppliesStep step more old new)
  pub no_failure : OnOk result (new.failures ≡ old.failures)
  pub possible : OnOk result (IsPossible absent taken old)
  pub last : MatchResult result (λ _. new.last ≡ Given) (λ fault. new.last ≡ Refused fault)
  pub leaves : OnErr result left
  pub refused : IfErr result (MayRefuseChange absent taken old new)
  pub asked : IsTrue old.noted → MatchResult result
      (λ _. Adds asks old.trail new.trail)
      (λ _. Adds refused_asks old.trail new.trail)

-- nothing was changed, or a file of some first bytes was made
abbrev pub LeavesUnchangedOrPartial : Name → Content → TreeState → TreeState → Type 0
LeavesUnchangedOrPartial name bytes old new = IsUnchanged old new
    ⊎ LeavesPartialFile name bytes old new

-- a call of `create`
abbrev pub Creates : Name → Content → TreeState → TreeState → Result (Unit {0}) TreeFault → Type 0
Creates name bytes old new =
    let taken = is_taken old.bag name ≡ true in
    let left = LeavesUnchangedOrPartial name bytes old new in
    Changes (create name bytes) 1 ⊥ taken left (AsksFile name bytes) (MayBegin name) old new

-- a call of `rename_folder`
abbrev pub RenamesFolder : Name → Name → TreeState → TreeState → Result (Unit {0}) TreeFault
    → Type 0
RenamesFolder from to old new =
    let absent = lacks_folder old.bag from ≡ true in
    let taken = is_taken old.bag to ≡ true in
    Changes (rename_folder from to) 0 absent taken (IsUnchanged old new) (AsksRename from to)
    AsksSyncs old new

-- a call of `move_in`
abbrev pub MovesIn : Name → Name → TreeState → TreeState → Result (Unit {0}) TreeFault → Type 0
MovesIn top folder old new =
    let absent = lacks_source old.bag top folder ≡ true in
    let taken = has_within old.bag (under folder top) ≡ true in
    Changes (move_in top folder) 0 absent taken (IsUnchanged old new) (AsksMove top folder)
    AsksSyncs old new

-- a call of `make_folder`
abbrev pub MakesFolder : Name → TreeState → TreeState → Result (Unit {0}) TreeFault → Type 0
MakesFolder name old new =
    let taken = is_taken old.bag name ≡ true in
    Changes (make_folder name) 1 ⊥ taken (IsUnchanged old new) (AsksFolder name) AsksSyncs old new
