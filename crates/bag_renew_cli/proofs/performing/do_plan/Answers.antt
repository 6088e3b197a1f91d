use Rattle.bag_renew_cli.proofs.Common.{◌≡◌, ℕ, List, [], append-nil, sym, subst, OutState}
use Rattle.bag_program.specs.Folders.{visits_of}
use Rattle.bag_program.specs.Visits.{Event}
use Rattle.bag_disk.specs.Disk.{DiskState}
use Rattle.bag_renew_cli.specs.Renewals.{IsDoneBy, IsPerformed}
use Rattle.bag_renew_cli.specs.declared.plan.RenewAction.{RenewAction}
use Rattle.bag_renew_cli.specs.declared.plan.RenewPlan.{RenewPlan}
use Rattle.bag_renew_cli.proofs.performing.do_plan.Goals as goal

-- what was done is what the plan says
performed : (below : List ℕ → DiskState) (plan : RenewPlan) (action : RenewAction) (before after : OutState)
    (visits : List Event) (n : ℕ)
    → plan.action ≡ action → IsDoneBy action below plan before after visits n
    → IsPerformed below plan before after visits n
performed below plan action before after visits n is done =
    subst (λ (action : RenewAction). IsDoneBy action below plan before after visits n) (sym is) done

pub returns-in-Help : goal.returns-in-Help
returns-in-Help g c = (
  [],
  sym (append-nil (visits_of c.args.visits.now)),
  performed _ _ _ _ _ _ _ c.in-Help.is (rw c.as_str.ensures at c.write_text.ensures),
)

pub returns-in-Bags : goal.returns-in-Bags
returns-in-Bags g c =
    let done = rw c.as_slice.ensures at c.in_turn.ensures in
    (done.0, done.1, performed _ _ _ _ _ _ _ c.in-Bags.is done.2)
