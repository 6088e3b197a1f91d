-- What a check of an honest tree reports.
use Rattle.bag_cli.proofs.Common.{◌≡◌, ◌≢◌, ◌∙◌, ℕ, IsTrue, List, Option, None, arith, ap, sym}
use Rattle.bag_cli.proofs.Common.{Appends, Event, OutState, TreeState, status, Outcome, Plan}
use Rattle.bag_cli.proofs.Common.{SummedProfile, Request, profile_of, reported_lines, GivesReport, IsWholeCheck, request_of}
use Rattle.std.specs.List.{concat}
use Rattle.bag_tree.specs.declared.tree_fault.Stop.{Stop}
use Rattle.bag_faults.specs.declared.fault.Fault.{Fault}
use Rattle.bag_walk.specs.Ending.{ideal}
use Rattle.bag_walk.specs.Run.{IsRunOf}
use Rattle.bag_walk.specs.WholeRun.{IsRunOver}
use Rattle.bag_cli.proofs.Asked.{as_run, whole_status_is}
use Rattle.bag_cli.specs.Status.{check_status}

-- a run that ends at the end of its report, or at its limit, with what it showed
abbrev Told : Request → List Fault → OutState → OutState → Outcome → Type 0
Told request faults before after outcome =
    (outcome ≡ ideal request faults) × Appends before.taken after.taken (concat (reported_lines request faults))

-- an outcome that isn't a refusal is the ideal one
told : (request : Request) (faults : List Fault) (Stops : Stop → Type 0) (before after : OutState) (outcome : Outcome)
    → status outcome ≢ 3 → IsRunOf request faults Stops before after outcome → Told request faults before after outcome
told request faults Stops before after outcome no_failure run = grind arith

module _ (plan : Plan) (profile : Option SummedProfile) (tree : TreeState) (name : List ℕ) (before after : OutState) (n : ℕ)
    (honest : IsTrue tree.honest) where
  reported : (new : TreeState) (whole : Outcome) → n ≡ status whole
      → IsRunOver tree new (profile_of profile) (request_of plan name) before after whole
      → GivesReport plan (profile_of profile) tree.bag name before after n
  reported new whole status_is run no_failure report is = grind (arith, told)

  -- the check gives the report of its bag
  pub check_reported : (visits : List Event) → plan.part ≡ None
      → IsWholeCheck plan profile tree name before after visits n
      → GivesReport plan (profile_of profile) tree.bag name before after n
  check_reported visits alone check =
      let run =
      as_run profile tree check.check.0 (request_of plan name) before after plan.part check.outcome alone
      check.check.2 in
      reported check.check.0 run.0 (whole_status_is run.0 n (ap check_status (sym run.1) ∙ check.status_is)) run.2
