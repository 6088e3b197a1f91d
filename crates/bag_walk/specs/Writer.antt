-- What a run writes of the faults of a report.
use Rattle.std.specs.Prelude.{ℕ, ◌≡◌, ◌≤◌, ◌⊎◌, true, List, length, take}
use Rattle.std.specs.Io.KnownBytes.{Appends}
use Rattle.bag_tree.specs.Out.{IsCut, OutState}
use Rattle.bag_tree.specs.declared.tree_fault.Stop.{Stop}
use Rattle.bag_faults.specs.declared.fault.Fault.{Fault}
use Rattle.bag_walk.specs.Closing.{closing, count_of}
use Rattle.bag_walk.specs.Ending.{MayEnd, ReachesEnd, Wrote}
use Rattle.bag_walk.specs.declared.outcome.Outcome.{Outcome}
use Rattle.bag_walk.specs.declared.outcome.Outcome.TheVariants.{Unwritten}
use Rattle.bag_walk.specs.declared.outcome.Request.{Request}

-- the closing line of an outcome was written, or the output refused it
abbrev pub Closes : Request → Outcome → OutState → OutState → Outcome → Type 0
Closes request ending before after result =
    ((result ≡ ending) × Appends before.taken after.taken (closing request ending))
    ⊎ ((result ≡ Unwritten (count_of ending)) × (after.has_refused ≡ true)
    × IsCut before.taken after.taken (closing request ending))

-- the lines of the first of these faults, and the closing line of how it ended
pub record WritesReport (request : Request) (faults : List Fault) (Stops : Stop → Type 0)
    (before after : OutState) (outcome : Outcome) : Type 0 where
  pub count : ℕ
  pub ending : Outcome
  pub within : count ≤ length faults
  pub may_end : MayEnd request count Stops ending
  pub all : ReachesEnd ending → count ≡ length faults
  pub wrote : Wrote request (take count faults) ending before after outcome
