-- The statuses of what is done with bags.
use Rattle.bag_renew_cli.proofs.Common.{ℕ, List, Ok, OutState, Result, arith, inl, inr}
use Rattle.std.proofs.Common.{◌≤◌, Err}
use Rattle.std.specs.Prelude.{IfOk}
use Rattle.bag_disk.specs.Disk.{DiskState}
use Rattle.bag_store.specs.FileTree.{tree_state}
use Rattle.bag_tree.specs.Tree.{TreeState}
use Rattle.bag_tree.specs.declared.out.Refused.{Refused}
use Rattle.bag_program.proofs.Deeds.{deeds_status, said_status}
use Rattle.bag_program.specs.Visits.{Event}
use Rattle.bag_checked.specs.declared.checked.Unchecked.{Unchecked}
use Rattle.bag_checked.specs.declared.checked.Unchecked.TheVariants.{Faulty, Stopped}
use Rattle.bag_changes.specs.declared.fault.RenewFault.{RenewFault}
use Rattle.bag_changes.specs.declared.fault.RenewFault.TheVariants as why
use Rattle.bag_renew_cli.specs.Printing.{is_status_of}
use Rattle.bag_renew_cli.specs.RenewalLine.{renewal_status}
use Rattle.bag_renew_cli.specs.Renewals.{IsDone, IsDoneBy, IsPerformed}
use Rattle.bag_renew_cli.specs.declared.plan.BagAction.{BagAction}
use Rattle.bag_renew_cli.specs.declared.plan.BagAction.TheVariants.{Renew, DryRun, Print}
use Rattle.bag_renew_cli.specs.declared.plan.RenewAction.{RenewAction}
use Rattle.bag_renew_cli.specs.declared.plan.RenewAction.TheVariants.{Help, Bags}
use Rattle.bag_renew_cli.specs.declared.plan.RenewPlan.{RenewPlan}

renewed_status : {T : Type 0} (renewed : Result T RenewFault) → renewal_status renewed ≤ 3
renewed_status (Ok done) = omega arith
renewed_status (Err (why.Faulty fault)) = omega arith
renewed_status (Err fault) = omega arith

unprinted_status : (unchecked : Unchecked) (n : ℕ) → is_status_of unchecked n → n ≤ 3
unprinted_status (Faulty fault) n is = omega (arith, is)
unprinted_status (Stopped stop) n is = omega (arith, is)

deed_status : (plan : RenewPlan) (action : BagAction) (name : List ℕ) (tree new : TreeState)
    (before after : OutState) (n : ℕ) → IsDone plan action name tree new before after (Ok n) → n ≤ 3
deed_status plan Renew name tree new before after n done =
    omega (arith, done.reports.0, renewed_status done.renewed)
deed_status plan DryRun name tree new before after n done =
    omega (arith, done.reports.0, renewed_status done.planned)
deed_status plan (Print alg) name tree new before after n done = elim done.printed [
  | inl is ↦ omega (arith, is.reports.0)
  | inr isnt ↦ unprinted_status isnt.unchecked n isnt.reports
]

-- what was reported of a bag has a status
pub reported_status : (plan : RenewPlan) (action : BagAction) (name : List ℕ) (tree new : TreeState)
    (before after : OutState) (reported : Result ℕ Refused) → IsDone plan action name tree new before after reported
    → IfOk reported (λ n. n ≤ 3)
reported_status plan action name tree new before after (Ok n) done =
    deed_status plan action name tree new before after n done
reported_status plan action name tree new before after (Err refused) done = tt

done_status : (action : RenewAction) (below : List ℕ → DiskState) (plan : RenewPlan) (before after : OutState)
    (visits : List Event) (n : ℕ) → IsDoneBy action below plan before after visits n → n ≤ 3
done_status (Help text) below plan before after visits n said = said_status text before after visits n said
done_status (Bags action) below plan before after visits n done =
    deeds_status (IsDone plan action) (deed_status plan action) (λ name. tree_state (below name) 0) plan.directories
    before after visits n done

pub performed_status : (below : List ℕ → DiskState) (plan : RenewPlan) (before after : OutState)
    (visits : List Event) (n : ℕ) → IsPerformed below plan before after visits n → n ≤ 3
performed_status below plan before after visits n done = done_status plan.action below plan before after visits n done
