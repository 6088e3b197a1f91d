-- What each call promises that changes one file of the base folder, or looks for what is in its
-- way.
use Rattle.std.specs.Prelude.{◌≡◌, ◌⊎◌, Bool, true, IsTrue, Result, OnOk, IfOk, IfErr, MatchResult}
use Rattle.bag_text.specs.Bytes.{Content, Name}
use Rattle.bag_tree.specs.Bag.{LacksFile, has_folder}
use Rattle.bag_tree.specs.ChangeCalls.{Changes}
use Rattle.bag_tree.specs.Changes.{AppliesStep, IsUnchanged, LeavesPartialFile}
use Rattle.bag_tree.specs.Cut.{lose}
use Rattle.bag_tree.specs.FileChanges.{AsksFirstOf, AsksPut, AsksRemove}
use Rattle.bag_tree.specs.Steps.{create, is_taken}
use Rattle.bag_tree.specs.Tree.{TreeState, Keeps, MayRefuse}
use Rattle.bag_tree.specs.declared.answer.Answer.TheVariants.{Given, Refused}
use Rattle.bag_tree.specs.declared.tree_fault.TreeFault.{TreeFault}

-- nothing was changed, or a file of some first bytes was made beside, or the file was put, and it
-- isn't known whether that is durable
abbrev pub LeavesReplaced : Name → Name → Content → TreeState → TreeState → Type 0
LeavesReplaced beside name bytes old new =
    IsUnchanged old new ⊎ LeavesPartialFile beside bytes old new
    ⊎ AppliesStep (create name bytes) 1 old new

-- a call of `replace`
abbrev pub Replaces : Name → Name → Content → TreeState → TreeState
    → Result (Unit {0}) TreeFault → Type 0
Replaces beside name bytes old new =
    let taken = (is_taken old.bag beside ≡ true) ⊎ (has_folder old.bag name ≡ true) in
    Changes (create name bytes) 1 ⊥ taken (LeavesReplaced beside name bytes old new)
    (AsksPut beside name bytes) (AsksFirstOf (AsksPut beside name bytes)) old new

-- a call of `remove`
abbrev pub Removes : Name → TreeState → TreeState → Result (Unit {0}) TreeFault → Type 0
Removes name old new =
    Changes (lose name) 0 (LacksFile old.bag name) ⊥
    (IsUnchanged old new ⊎ AppliesStep (lose name) 0 old new)
    (AsksRemove name) (AsksFirstOf (AsksRemove name)) old new

-- a call of `has_folder`
pub record LooksForFolder (name : Name) (old new : TreeState) (answer : Result Bool TreeFault)
    : Type 0 where
  pub keeps : Keeps old new
  pub no_failure : OnOk answer (new.failures ≡ old.failures)
  pub openings : new.openings ≡ old.openings
  pub listed : new.listed ≡ old.listed
  pub gave : new.gave ≡ old.gave
  pub rest : new.rest ≡ old.rest
  pub given : new.given ≡ old.given
  pub last : MatchResult answer (λ _. new.last ≡ Given) (λ fault. new.last ≡ Refused fault)
  pub honest : IfOk answer (λ there. IsTrue old.honest → there ≡ has_folder old.bag name)
  pub refused : IfErr answer (MayRefuse ⊥ ⊥ old new)
