-- What a check writes.
use Rattle.std.specs.Prelude.{ℕ, ◌≡◌, List, [], Option, Some}
use Rattle.bag_store.specs.Out.{OutState}
use Rattle.bag_store.specs.Tree.{TreeState}
use Rattle.bag_profile.specs.Profile.{Profile}
use Rattle.bag_walk.specs.ExitStatus as spec
use Rattle.bag_walk.specs.declared.outcome.Outcome.{Outcome}
use Rattle.bag_walk.specs.declared.outcome.Request.{Request}
use Rattle.bag_walk.specs.Run.{IsRun}

-- a run may write this to an output that has taken nothing, and end with this exit status
pub record IsChecked (old new : TreeState) (profile : Option Profile) (request : Request)
    (output : List ℕ) (status : ℕ) : Type 0 where
  pub before : OutState
  pub after : OutState
  pub outcome : Outcome
  pub run : IsRun old new profile request before after outcome
  pub none : before.taken ≡ Some []
  pub all : after.taken ≡ Some output
  pub ends : status ≡ spec.status outcome
