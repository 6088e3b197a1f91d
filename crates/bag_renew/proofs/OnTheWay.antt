-- Each fault of a bag on the way is damage that the bag had.
use Rattle.bag_renew.proofs.Common.{◌≡◌, ◌⊎◌, inl, inr, ℕ, List, refl, sym, subst, Bag, after, changes, create}
use Rattle.bag_renew.proofs.Common.{begun_file, Bool, true, false, false≢true, keeps, Renewal, ◌∙◌}
use Rattle.bag_text.proofs.ListOf.{contains_nothing, nothing_listed}
use Rattle.bag_tree.specs.FileChanges.{IsAfterFirst}
use Rattle.bag_faults.specs.FaultOrder.{fault_cmp}
use Rattle.bag_faults.specs.declared.fault.Fault.{Fault}
use Rattle.bag_changes.specs.Obstacles.{HasNoPercent}
use Rattle.bag_renew.specs.OnTheWay.{CanRenewInPlace, EachBagOnTheWayHasOldFaults, EachBagOnTheWayIsValid}
use Rattle.bag_renew.specs.OnTheWay.{EachCutBagHasOldFaults, EachCutBagIsValid}
use Rattle.bag_renewed.specs.Renewed.{renewed}
use Rattle.bag_checked.specs.FirstFaults.{IsDamage}
use Rattle.bag_report.specs.Valid.{HasNoFault, IsFaultOf}
use Rattle.bag_renew.proofs.BetweenFaults.{IsBetween, of_either}
use Rattle.bag_renew.proofs.OnTheWayBegun.{with_begun}
use Rattle.bag_renew.proofs.OnTheWayFiles.{between}
use Rattle.bag_renew.proofs.OnTheWayFromV097.{between_v097}
use Rattle.bag_renew.proofs.Valid.{renewed_has_old_faults}

module _ (bag : Bag) (renewal : Renewal) (can : CanRenewInPlace bag renewal) where
  abbrev now : Bag
  now = renewed bag renewal

  -- between the bag and the renewed one, or the renewed one but for tag manifests
  abbrev IsOnItsWay : Bag → Type 0
  IsOnItsWay mid = IsBetween mid bag now ⊎ IsBetween mid now now

  abbrev HasOldFaults : Bag → Type 0
  HasOldFaults mid = (f : Fault) → IsFaultOf mid f → IsDamage f × IsFaultOf bag f

  of_now : HasOldFaults now
  of_now f is = let d = renewed_has_old_faults bag renewal can.can can.info f is in (d.0, d.1)

  have_old_faults : (mid : Bag) → IsOnItsWay mid → HasOldFaults mid
  have_old_faults mid (inl is_between) f is =
      elim (of_either mid bag now is_between f is.0 is.1) [
        | inl old ↦ (can.can.damaged f (old, is.1), (old, is.1))
        | inr new ↦ of_now f (new, is.1)
      ]
  have_old_faults mid (inr is_between) f is =
      elim (of_either mid now now is_between f is.0 is.1) [ inl old ↦ of_now f (old, is.1) | inr new ↦ of_now f (new, is.1) ]

  no_fault : (mid : Bag) → HasOldFaults mid → HasNoFault bag → HasNoFault mid
  no_fault mid old none =
      nothing_listed fault_cmp (IsFaultOf mid) (λ f is. contains_nothing f ((none.members f).1 (old f is).1))

  by_rules : (k : ℕ) (keeps_it : Bool) → keeps bag renewal ≡ keeps_it → (keeps bag renewal ≡ true) ⊎ HasNoPercent bag
      → IsOnItsWay (after bag renewal k)
  by_rules k true is spelled = inl (between bag renewal k can is)
  by_rules k false isnt (inl is) = absurd (false≢true (sym isnt ∙ is))
  by_rules k false isnt (inr none) = between_v097 bag renewal k can isnt none

  pub on_its_way : (k : ℕ) → IsOnItsWay (after bag renewal k)
  on_its_way k = by_rules k (keeps bag renewal) refl can.spelled

  begun_too : (mid : Bag) (found : List ℕ) → IsOnItsWay mid → IsOnItsWay (create begun_file found mid)
  begun_too mid found (inl is) = inl (with_begun mid bag now found is)
  begun_too mid found (inr is) = inr (with_begun mid now now found is)

  pub cut_on_its_way : (left : Bag) → IsAfterFirst begun_file (changes bag renewal) bag left → IsOnItsWay left
  cut_on_its_way left cut = elim cut.is [
    | inl whole ↦ subst IsOnItsWay (sym whole) (on_its_way cut.k)
    | inr begun ↦ subst IsOnItsWay (sym begun.1) (begun_too (after bag renewal cut.k) begun.0 (on_its_way cut.k))
  ]

pub each_has_old_faults : EachBagOnTheWayHasOldFaults
each_has_old_faults bag renewal k can =
    have_old_faults bag renewal can (after bag renewal k) (on_its_way bag renewal can k)

pub each_is_valid : EachBagOnTheWayIsValid
each_is_valid bag renewal k can =
    no_fault bag renewal can (after bag renewal k) (each_has_old_faults bag renewal k can)

pub each_cut_has_old_faults : EachCutBagHasOldFaults
each_cut_has_old_faults bag renewal left can cut =
    have_old_faults bag renewal can left (cut_on_its_way bag renewal can left cut)

pub each_cut_is_valid : EachCutBagIsValid
each_cut_is_valid bag renewal left can cut =
    no_fault bag renewal can left (each_cut_has_old_faults bag renewal left can cut)
