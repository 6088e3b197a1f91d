-- What is done for names one after another, and the exit status.
use Rattle.std.specs.Prelude.{ℕ, ◌≡◌, ◌⊎◌, List, [], ◌∷◌, ◌++◌, MatchResult, Result, max}
use Rattle.bag_tree.specs.Out.{OutState}
use Rattle.bag_tree.specs.declared.out.Out as Out
use Rattle.bag_program.specs.Folders.{visits_of}
use Rattle.bag_program.specs.Visits.{Event}
use Rattle.bag_program.specs.declared.visits.Visits.{Visits}

-- What was done: with the output before and after it, the visits to folders, and the exit status.
-- And what was done for a name, where that was the last, and where it has a status.
abbrev pub Deed : Type 1
Deed = OutState → OutState → List Event → ℕ → Type 0

abbrev pub Last : Type 1
Last = List ℕ → OutState → OutState → List Event → Type 0

abbrev pub Whole : Type 1
Whole = List ℕ → Deed

-- it was done for a name, and has a status; or that was the last
abbrev pub IsTurn : {E : Type 0} → Last → Whole → List ℕ → OutState → OutState → List Event
    → Result ℕ E → Type 0
IsTurn Ends Goes name before after visits answer = MatchResult answer
    (λ n. Goes name before after visits n)
    (λ _. Ends name before after visits)

-- it went on to the others, and the status is the greatest
pub record GoesToOthers (First : Deed) (Others : OutState → List Event → ℕ → Type 0)
    (before : OutState) (visits : List Event) (n : ℕ) : Type 0 where
  pub mid : OutState
  pub own : List Event
  pub later : List Event
  pub first : ℕ
  pub rest : ℕ
  pub parts : visits ≡ own ++ later
  pub whole : First before mid own first
  pub others : Others mid later rest
  pub greatest : n ≡ max first rest

-- It was done for these names, one after the other. After one that is whole comes the next,
-- whatever its status; after the last comes none, and the status is 3.
abbrev pub AreInTurn : Last → Whole → List (List ℕ) → Deed
AreInTurn Ends Goes [] before after visits n = (n ≡ 0) × (after ≡ before) × (visits ≡ [])
AreInTurn Ends Goes (name ∷ names) before after visits n =
    ((n ≡ 3) × Ends name before after visits)
    ⊎ GoesToOthers (Goes name)
    (λ mid later rest. AreInTurn Ends Goes names mid after later rest) before visits n

-- to these visits were added those of what was done
abbrev pub HasVisited : List Event → List Event → (List Event → Type 0) → Type 0
HasVisited old new Done = (own : List Event) × (new ≡ old ++ own) × Done own

-- this was done, between two states of the visits and of the output, with this status
abbrev pub Does : {D O : Type 0} → Out.Ghosts O → Visits D → Visits D → O → O → ℕ → Deed → Type 0
Does out visits visits' before after n Done =
    HasVisited (visits_of visits) (visits_of visits')
    (λ own. Done (out.state before) (out.state after) own n)
