use Rattle.bag_cli.proofs.Common.{◌≡◌, ◌⊎◌, inl, inr, ℕ, List, Option, [], sym, subst, append-nil, DiskState, OutState, Event, Plan}
use Rattle.bag_cli.proofs.Common.{refl, visits_of, ArchiveState, ReportsState, AreCheckedInForm, IsChecked, IsDoneBy, IsPerformed}
use Rattle.bag_arguments.specs.declared.plan.Action.{Action}
use Rattle.bag_arguments.specs.declared.plan.Action.TheVariants.{Check, CheckTars}
use Rattle.bag_cli.proofs.work.Work.perform.Goals as goal

module _ (below : List ℕ → DiskState) (archived : List ℕ → ArchiveState)
    (reported : List (List ℕ) → ReportsState) (file : List ℕ → Option (List ℕ) → Type 0) (plan : Plan) where
  -- what was done is what the plan says
  performed : (action : Action) (before after : OutState) (visits : List Event) (n : ℕ) → plan.action ≡ action
      → IsDoneBy action below archived reported file plan before after visits n
      → IsPerformed below archived reported file plan before after visits n
  performed action before after visits n is done =
      subst (λ (action : Action). IsDoneBy action below archived reported file plan before after visits n) (sym is) done

  -- what is checked of a plan's words by its action
  checked : (action : Action) (before after : OutState) (visits : List Event) (n : ℕ) → plan.action ≡ action
      → IsChecked (AreCheckedInForm plan.action below archived plan) file plan plan.profile before after visits n
      → IsChecked (AreCheckedInForm action below archived plan) file plan plan.profile before after visits n
  checked action before after visits n is done =
      subst (λ (action : Action).
      IsChecked (AreCheckedInForm action below archived plan) file plan plan.profile before after visits n) is done

  -- so the plan says what was checked
  checked_by : (before after : OutState) (visits : List Event) (n : ℕ)
      → (plan.action ≡ Check) ⊎ (plan.action ≡ CheckTars)
      → IsChecked (AreCheckedInForm plan.action below archived plan) file plan plan.profile before after visits n
      → IsPerformed below archived reported file plan before after visits n
  checked_by before after visits n (inl is) done =
      performed Check before after visits n is (checked Check before after visits n is done)
  checked_by before after visits n (inr is) done =
      performed CheckTars before after visits n is (checked CheckTars before after visits n is done)

pub returns-in-Sample : goal.returns-in-Sample
returns-in-Sample g c = (
  [],
  sym (append-nil (visits_of c.args.visits.now)),
  performed _ _ _ _ _ _ _ _ _ _ c.in-Sample.is (c.check_samples.ensures, refl),
)

pub returns-in-Help : goal.returns-in-Help
returns-in-Help g c = (
  [],
  sym (append-nil (visits_of c.args.visits.now)),
  performed _ _ _ _ _ _ _ _ _ _ c.in-Help.is (rw c.as_str.ensures at c.write_text.ensures),
)

pub returns-in-Check : goal.returns-in-Check
returns-in-Check g c =
    let done = c.check_all.ensures in
    (done.0, done.1, checked_by _ _ _ _ c.args.self.now.plan.now _ _ _ _ c.in-Check.is done.2)

pub returns-in-Join : goal.returns-in-Join
returns-in-Join g c =
    let done = c.join_reports.ensures in (done.0, done.1, performed _ _ _ _ _ _ _ _ _ _ c.in-Join.is done.2)

pub returns-in-Make : goal.returns-in-Make
returns-in-Make g c =
    let done = c.make_all.ensures in (done.0, done.1, performed _ _ _ _ _ _ _ _ _ _ c.in-Make.is done.2)
