-- Checks of tar files.
use Rattle.bag_cli.proofs.Common.{AreCheckedAs, AreCheckedInForm, Some, arith, in_form}
use Rattle.bag_cli.proofs.Common.{◌≡◌, ◌⊎◌, tree_state, inl, inr, ◌∷◌, ℕ, List, Option, refl, subst, sym, Result, Ok, Err, OutState}
use Rattle.bag_cli.proofs.Common.{ArchiveState, DiskState, Event, IsTreeOf, Opened, Plan, SummedProfile, TreeState, Refused}
use Rattle.bag_arguments.specs.declared.plan.Action.{Action}
use Rattle.bag_arguments.specs.declared.plan.Action.TheVariants.{Sample, Help, Check, CheckTars, Join, Make}
use Rattle.bag_text.specs.declared.text.Text.{Text}
use Rattle.bag_archive.specs.declared.tar_fault.TarStop.{TarStop}
use Rattle.bag_cli.specs.CheckedAs.{ChecksAs}
use Rattle.bag_cli.specs.Checking.{ChecksFolder}
use Rattle.bag_cli.specs.Performed.{AreCheckedBy}
use Rattle.bag_cli.specs.TarChecked.{ChecksTar, IsLastTarCheck, IsWholeTarCheck, MakesNoTree, TellsUnopened}

-- what is said of an archive is said of another one that is the same
pub tree_of_same : (one other : ArchiveState) (tree : TreeState) → one ≡ other → IsTreeOf one tree
    → IsTreeOf other tree
tree_of_same one other tree same of_one = subst (λ (archive : ArchiveState). IsTreeOf archive tree) same of_one

pub no_tree_of_same : (one other new : ArchiveState) (stop : TarStop) → one ≡ other → MakesNoTree one new stop
    → MakesNoTree other new stop
no_tree_of_same one other new stop same none =
    subst (λ (archive : ArchiveState). MakesNoTree archive new stop) same none

-- the tree of a tar file was checked
pub tree_checked : {E : Type 0} (plan : Plan) (profile : Option SummedProfile) (archive : ArchiveState) (tree : TreeState)
    (name : List ℕ) (before after : OutState) (own : List Event) (answer : Result ℕ E) → IsTreeOf archive tree
    → ChecksFolder plan profile tree name before after own answer
    → ChecksTar plan profile archive name before after (Opened name ∷ own) answer
tree_checked plan profile archive tree name before after own (Ok n) of_archive check =
    (own, refl, inl (tree, of_archive, check))
tree_checked plan profile archive tree name before after own (Err e) of_archive check =
    inr (own, refl, inl (tree, of_archive, check))

module _ (plan : Plan) (profile : Option SummedProfile) (archive new : ArchiveState) (stop : TarStop) (name : List ℕ)
    (before after : OutState) (own : List Event) (none : MakesNoTree archive new stop) where
  -- a tar file made no tree, and that was told
  pub told_whole : (n : ℕ) → TellsUnopened new stop name before after own (Ok n)
      → IsWholeTarCheck plan profile archive name before after (Opened name ∷ own) n
  told_whole n tells = (own, refl, inr (record { stop = stop; new = new; no_tree = none; tells = tells }))

  -- or the output refused that
  pub told_last : (refused : Refused) → TellsUnopened new stop name before after own (Err refused)
      → IsLastTarCheck plan profile archive name before after (Opened name ∷ own)
  told_last refused tells =
      inr (own, refl, inr (refused, record { stop = stop; new = new; no_tree = none; tells = tells }))

-- what was checked by an action is what the plan says
pub checked_as : {E : Type 0} (action was : Action) (below : List ℕ → DiskState) (archived : List ℕ → ArchiveState)
    (plan : Plan) (profile : Option SummedProfile) (name : List ℕ) (before after : OutState) (own : List Event)
    (answer : Result ℕ E) → action ≡ was
    → ChecksAs was below archived plan profile name before after own answer
    → ChecksAs action below archived plan profile name before after own answer
checked_as action was below archived plan profile name before after own answer is checks =
    subst (λ (a : Action). ChecksAs a below archived plan profile name before after own answer) (sym is) checks

-- A plan with another action than that of tar files has its folders checked.
pub folder_as : {E : Type 0} (action : Action) (below : List ℕ → DiskState) (archived : List ℕ → ArchiveState)
    (plan : Plan) (profile : Option SummedProfile) (name : List ℕ) (before after : OutState) (own : List Event)
    (answer : Result ℕ E)
    → (action ≡ Sample) ⊎ (((text : Text) × (action ≡ Help text)) ⊎ ((action ≡ Check) ⊎ ((action ≡ Join) ⊎ (action ≡ Make))))
    → ChecksFolder plan profile (tree_state (below name) 0) name before after own answer
    → ChecksAs action below archived plan profile name before after own answer
folder_as action below archived plan profile name before after own answer (inl is) checks =
    checked_as action Sample below archived plan profile name before after own answer is checks
folder_as action below archived plan profile name before after own answer (inr (inl help)) checks =
    checked_as action (Help help.0) below archived plan profile name before after own answer help.1 checks
folder_as action below archived plan profile name before after own answer (inr (inr (inl is))) checks =
    checked_as action Check below archived plan profile name before after own answer is checks
folder_as action below archived plan profile name before after own answer (inr (inr (inr (inl is)))) checks =
    checked_as action Join below archived plan profile name before after own answer is checks
folder_as action below archived plan profile name before after own answer (inr (inr (inr (inr is)))) checks =
    checked_as action Make below archived plan profile name before after own answer is checks

some_same : (a b : SummedProfile) → Some a ≡ Some b → a ≡ b
some_same a b e = grind arith

module _ (below : List ℕ → DiskState) (archived : List ℕ → ArchiveState) (plan : Plan) where
  -- what is checked by a profile in its form is checked by the profile that was read
  pub form_of_read : (action : Action) (read formed : SummedProfile) (before after : OutState) (visits : List Event) (n : ℕ)
      → Some formed ≡ in_form action (Some read)
      → AreCheckedBy (AreCheckedAs action below archived plan) plan formed before after visits n
      → AreCheckedBy (AreCheckedInForm action below archived plan) plan read before after visits n
  form_of_read CheckTars read formed before after visits n is checked = rw (some_same _ _ is) at checked
  form_of_read action read formed before after visits n is checked = rw (some_same _ _ is) at checked
