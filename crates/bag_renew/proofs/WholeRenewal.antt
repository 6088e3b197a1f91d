-- What renewing a bag promises follows from what reading it and changing its files promise.
use Rattle.bag_renew.proofs.Common.{arith, ◌≡◌, ◌≢◌, ◌≤◌, ◌++◌, ◌∷◌, ◌∙◌, inl, inr, ℕ, true, IsTrue, List, [], refl}
use Rattle.bag_renew.proofs.Common.{ap, sym, subst, append-nil, false≢true, Bag, FileChange, Put, Remove, Renewal, begun_file}
use Rattle.bag_renew.proofs.Common.{after_changes, changes, renewed, IsOutOfTheWay}
use Rattle.bag_renew.proofs.CanChange.{changes_can_be_made}
use Rattle.bag_renew.proofs.ChangesRenew.{changes_renew}
use Rattle.bag_renew.proofs.GoodInfo.{good_elements_are_good_info}
use Rattle.bag_renew.proofs.OldBag.{known}
use Rattle.bag_renew.proofs.SomeChanges.{none_begun, some_changes}
use Rattle.bag_renew.proofs.Valid.{renewed_has_old_faults}
use Rattle.std.specs.Option.{option_map}
use Rattle.std.specs.Prelude.{Result, Ok, Err, IfErr, OnOk, take}
use Rattle.bag_faults.specs.declared.fault.Fault.{Fault}
use Rattle.bag_tree.specs.ChangeFiles.{HasChanged, LastsResumed, LeavesChange, OutlastsResumedChanges}
use Rattle.bag_tree.specs.Changes.{AppliesStep, IsUnchanged}
use Rattle.bag_tree.specs.Cut.{MayLeave, lose}
use Rattle.bag_tree.specs.FileChanges.{CanChangeAll, IsAfterFirst}
use Rattle.bag_tree.specs.Resumed.{EachResumedCut, IsSameBut}
use Rattle.bag_tree.proofs.PutFile.{not_held}
use Rattle.bag_tree.specs.Steps.{create}
use Rattle.bag_tree.specs.Tree.{Keeps, TreeState}
use Rattle.bag_tree.specs.declared.listing.Listing.{Listing}
use Rattle.bag_tree.specs.declared.event.DeviceEvent.{DeviceEvent}
use Rattle.bag_changes.proofs.Openings.{for_renewal_still}
use Rattle.bag_changes.specs.Openings.{OpensBefore, OpensForRenewal}
use Rattle.bag_changes.specs.Reading.{MayRefuseReading}
use Rattle.bag_renew.specs.OnTheWay.{CanRenewInPlace}
use Rattle.bag_changes.specs.Planned.{ChangesCompared}
use Rattle.bag_renew.specs.Renew.{HasBegun, HasNoNewFault, HasPlanned, HasStoppedAt, IsRenewal, LeavesRenewed, MayRefuseRenewing, told_as}
use Rattle.bag_renewed.specs.Request.{is_bad_request}
use Rattle.bag_changes.specs.Valid.{HasGoodInfo, HasKnownSize, IsOldDamage}
use Rattle.bag_report.specs.Valid.{IsFaultOf}
use Rattle.bag_renew.proofs.OnTheWay.{each_cut_has_old_faults}
use Rattle.bag_changes.specs.declared.fault.RenewFault.{RenewFault}
use Rattle.bag_changes.specs.declared.fault.RenewFault.TheVariants as why

-- ---- what a change that was refused leaves of the rest

abbrev IsAsBefore : TreeState → TreeState → Type 0
IsAsBefore old new =
    (new.honest ≡ old.honest) × (old.failures ≤ new.failures) × (new.noted ≡ old.noted) × (new.openings ≡ old.openings)
    × (new.listed ≡ old.listed) × (new.gave ≡ old.gave)

of_step : (step : Bag → Bag) (more : ℕ) (old new : TreeState) → AppliesStep step more old new → IsAsBefore old new
of_step step more old new done = (done.honest, done.failures, done.noted, done.openings, done.listed, done.gave)

of_unchanged : (old new : TreeState) → IsUnchanged old new → IsAsBefore old new
of_unchanged old new same =
    (same.keeps.honest, same.keeps.failures, same.keeps.noted, same.openings, same.listed, same.gave)

left_so : (beside : List ℕ) (change : FileChange) (old new : TreeState) → LeavesChange beside change old new
    → IsAsBefore old new
left_so beside (Put name bytes) old new (inl same) = of_unchanged old new same
left_so beside (Put name bytes) old new (inr (inl part)) =
    of_step (create beside (take part.count bytes)) 1 old new part.begun
left_so beside (Put name bytes) old new (inr (inr done)) = of_step (create name bytes) 1 old new done
left_so beside (Remove name) old new (inl same) = of_unchanged old new same
left_so beside (Remove name) old new (inr done) = of_step (lose name) 0 old new done

-- what was compared stays so, where the tree notes the same that it gave
still_compared : (renewal : Renewal) (old read new : TreeState) (planned : List FileChange)
    → ChangesCompared renewal old read planned → new.listed ≡ read.listed → new.gave ≡ read.gave
    → ChangesCompared renewal old new planned
still_compared renewal old read new planned all same_listed same_gave = record {
  bag = all.bag;
  files = all.files;
  compared =
      record {
        is_bag = all.compared.is_bag;
        listed = ap (option_map (λ (l : Listing). l.files)) same_listed ∙ all.compared.listed;
        tags = all.compared.tags;
        tags_are = all.compared.tags_are;
        gave = same_gave ∙ all.compared.gave;
        entries = all.compared.entries;
        right = all.compared.right;
      };
  old_info = all.old_info;
  old_info_is = all.old_info_is;
  info = all.info;
  info_is = all.info_is;
  changes_are = all.changes_are;
}

-- ---- where nothing was asked of the device

none_before : (before after : List DeviceEvent) → [] ≡ before ++ after → before ≡ []
none_before [] after e = refl
none_before (x ∷ before) after e = cc

nothing_asked : (P : Bag → Type 0) (bag : Bag) (old new : List DeviceEvent) → new ≡ old
    → EachResumedCut begun_file old new bag P
nothing_asked P bag old new same = record {
  since = [];
  trail = same ∙ sym (append-nil old);
  each = λ first durable before after parts left may.
      let trail_is : old ++ before ≡ old =
      ap (λ (xs : List DeviceEvent). old ++ xs) (none_before before after parts) ∙ append-nil old in
      inl (subst (λ (xs : List DeviceEvent). MayLeave xs first left) trail_is may);
}

-- what holds of each, where it follows of what a cut leaves
each_then : (P Q : Bag → Type 0) (bag : Bag) (old new : List DeviceEvent) → ((left : Bag) → P left → Q left)
    → EachResumedCut begun_file old new bag P → EachResumedCut begun_file old new bag Q
each_then P Q bag old new then cut = record {
  since = cut.since;
  trail = cut.trail;
  each = λ first durable before after parts left may. elim (cut.each first durable before after parts left may) [
    | inl was ↦ inl was
    | inr is ↦ inr (then left is)
  ];
}

-- ---- a bag that wasn't changed

module _ (renewal : Renewal) (old new : TreeState) where
  told_before : (fault : RenewFault) → Keeps old new → MayRefuseReading renewal old new fault
      → MayRefuseRenewing renewal old new fault
  told_before (why.PutRefused name cause) keeps h = absurd h
  told_before (why.RemoveRefused name cause) keeps h = absurd h
  told_before fault keeps h = (keeps, h)

  pub refused_before : (fault : RenewFault) → Keeps old new
      → (is_bad_request renewal.elements ≡ true → new ≡ old)
      → MayRefuseReading renewal old new fault → OpensForRenewal renewal old new → OpensBefore old new fault
      → IsRenewal renewal old new (Err fault)
  refused_before fault keeps untouched h opens before = record {
    honest = keeps.honest;
    failures = keeps.failures;
    noted = keeps.noted;
    untouched = untouched;
    is_renewed = tt;
    valid = tt;
    dropped = tt;
    refused = told_before fault keeps h;
    opens = opens;
    opens_before = before;
    any_moment = λ honest noted.
        nothing_asked (IsAfterFirst begun_file (changes old.bag renewal) old.bag) old.bag old.trail new.trail
        keeps.trail;
    no_new_fault = λ honest noted size.
        nothing_asked (HasNoNewFault old.bag) old.bag old.trail new.trail keeps.trail;
    lasting = tt;
  }

-- ---- and one whose files were changed

module _ (renewal : Renewal) (old read new : TreeState) (planned : List FileChange)
    (plan : HasPlanned renewal old read planned) (opens : OpensForRenewal renewal old read) where
  keeps : Keeps old read
  keeps = plan.read.bag.keeps

  untouched : is_bad_request renewal.elements ≡ true → new ≡ old
  untouched bad = absurd (false≢true (sym plan.asked ∙ bad))

  module _ (honest : IsTrue old.honest) where
    way : IsOutOfTheWay old.bag
    way = (plan.read.bag.no_obstacle honest).way

    can_all : CanChangeAll begun_file planned read.bag
    can_all =
        rw (keeps.bag, plan.changes_are honest)
        (changes_can_be_made old.bag renewal (plan.read.bag.can honest).is_bag way)

    after_all : after_changes planned old.bag ≡ renewed old.bag renewal
    after_all =
        let can = plan.read.bag.can honest in
        ap (λ some. after_changes some old.bag) (plan.changes_are honest)
        ∙ changes_renew old.bag renewal can.is_bag (known old.bag can.damaged) way

    pub at_any_moment : IsTrue old.noted → OutlastsResumedChanges begun_file planned read new
        → EachResumedCut begun_file old.trail new.trail old.bag (IsAfterFirst begun_file (changes old.bag renewal) old.bag)
    at_any_moment noted outlasts =
        rw (keeps.trail, keeps.bag, plan.changes_are honest) at (outlasts (keeps.noted ∙ noted) can_all)

    good_info : HasKnownSize old.bag → HasGoodInfo old.bag renewal
    good_info size =
        good_elements_are_good_info old.bag renewal (plan.read.bag.can honest)
        (λ writes. plan.read.elements honest writes size)

    pub no_new_one : IsTrue old.noted → HasKnownSize old.bag → OutlastsResumedChanges begun_file planned read new
        → EachResumedCut begun_file old.trail new.trail old.bag (HasNoNewFault old.bag)
    no_new_one noted size outlasts =
        let in_place : CanRenewInPlace old.bag renewal = record {
          can = plan.read.bag.can honest;
          spelled = (plan.read.bag.no_obstacle honest).names.spelled;
          info = good_info size;
          way = way;
          begun = λ alg named. (plan.read.bag.no_obstacle honest).free.own (alg, named);
        } in
        each_then (IsAfterFirst begun_file (changes old.bag renewal) old.bag) (HasNoNewFault old.bag) old.bag old.trail
        new.trail (λ left after f is. (each_cut_has_old_faults old.bag renewal left in_place after f is).1)
        (at_any_moment noted outlasts)

    renewed_bag : HasChanged begun_file planned read new → new.bag ≡ renewed old.bag renewal
    renewed_bag changed = changed.bag (keeps.honest ∙ honest) ∙ ap (after_changes planned) keeps.bag ∙ after_all

    lasts : IsTrue old.noted → LastsResumed begun_file planned read new
        → LeavesRenewed old.trail new.trail old.bag (renewed old.bag renewal)
    lasts noted lasting first durable left may =
        let some : planned ≢ [] =
        λ none. some_changes old.bag renewal (plan.read.bag.can honest).some_alg
        (sym (plan.changes_are honest) ∙ none) in
        let now : IsSameBut begun_file (after_changes planned old.bag) left =
        (rw (keeps.trail, keeps.bag) at (lasting (keeps.noted ∙ noted) can_all some)) first durable left may in
        elim (subst (λ bag. IsSameBut begun_file bag left) after_all now) [
          | inl is ↦ is
          | inr (found, is) ↦ is ∙ not_held begun_file found (renewed old.bag renewal) (none_begun old.bag renewal)
        ]

    its_faults : HasChanged begun_file planned read new → HasKnownSize old.bag → (f : Fault)
        → IsFaultOf new.bag f → IsOldDamage old.bag renewal f
    its_faults changed size f is =
        let can = plan.read.bag.can honest in
        renewed_has_old_faults old.bag renewal can
        (good_info size) f
        (subst (λ bag. IsFaultOf bag f) (renewed_bag changed) is)

  pub all_made : HasChanged begun_file planned read new → OutlastsResumedChanges begun_file planned read new
      → LastsResumed begun_file planned read new → IsRenewal renewal old new (Ok tt)
  all_made changed outlasts lasting = record {
    honest = changed.honest ∙ keeps.honest;
    failures = omega (arith, keeps.failures, changed.no_failure);
    noted = changed.noted ∙ keeps.noted;
    untouched = untouched;
    is_renewed = record {
      planned = planned;
      read = read;
      plan = plan;
      changed = changed;
      compared = still_compared renewal old read new planned plan.compared changed.listed changed.gave;
      bag = λ honest. renewed_bag honest changed;
    };
    valid = λ honest size. its_faults honest changed size;
    dropped = plan.dropped;
    refused = tt;
    opens = for_renewal_still renewal old read new opens changed.openings;
    opens_before = tt;
    any_moment = λ honest noted. at_any_moment honest noted outlasts;
    no_new_fault = λ honest noted size. no_new_one honest noted size outlasts;
    lasting = λ honest noted. lasts honest noted lasting;
  }

  has_begun : (fault : RenewFault) → HasStoppedAt planned read new fault → HasBegun renewal old new fault
  has_begun fault h =
      let so_far = h.stopped.changed in
      let left = left_so begun_file h.stopped.change h.stopped.before new h.stopped.left in record {
        planned = planned;
        read = read;
        plan = plan;
        stopped = h;
        compared =
            still_compared renewal old read new planned plan.compared (left.4 ∙ so_far.listed) (left.5 ∙ so_far.gave);
      }

  told_stopped : (fault : RenewFault) → HasStoppedAt planned read new fault
      → MayRefuseRenewing renewal old new fault
  told_stopped (why.PutRefused name cause) h = has_begun (why.PutRefused name cause) h
  told_stopped (why.RemoveRefused name cause) h = has_begun (why.RemoveRefused name cause) h
  told_stopped fault h = absurd (never h.change h.told)
    where
      never : (change : FileChange) → fault ≡ told_as change h.refused.cause → ⊥
      never (Put name bytes) same = cc
      never (Remove name) same = cc

  none_before_it : (fault : RenewFault) → HasStoppedAt planned read new fault → OpensBefore old new fault
  none_before_it fault h = by_change h.change h.told
    where
      by_change : (change : FileChange) → fault ≡ told_as change h.refused.cause → OpensBefore old new fault
      by_change (Put name bytes) same = subst (OpensBefore old new) (sym same) (λ before. absurd before)
      by_change (Remove name) same = subst (OpensBefore old new) (sym same) (λ before. absurd before)

  pub one_refused : (fault : RenewFault) → HasStoppedAt planned read new fault
      → OutlastsResumedChanges begun_file planned read new → IsRenewal renewal old new (Err fault)
  one_refused fault h outlasts =
      let so_far = h.stopped.changed in
      let left = left_so begun_file h.stopped.change h.stopped.before new h.stopped.left in record {
        honest = left.0 ∙ so_far.honest ∙ keeps.honest;
        failures = omega (arith, keeps.failures, so_far.no_failure, left.1);
        noted = left.2 ∙ so_far.noted ∙ keeps.noted;
        untouched = untouched;
        is_renewed = tt;
        valid = tt;
        dropped = tt;
        refused = told_stopped fault h;
        opens = for_renewal_still renewal old read new opens (left.3 ∙ so_far.openings);
        opens_before = none_before_it fault h;
        any_moment = λ honest noted. at_any_moment honest noted outlasts;
        no_new_fault = λ honest noted size. no_new_one honest noted size outlasts;
        lasting = tt;
      }

  pub one_result : (result : Result (Unit {0}) RenewFault)
      → OnOk result (HasChanged begun_file planned read new)
      → IfErr result (HasStoppedAt planned read new)
      → OutlastsResumedChanges begun_file planned read new
      → OnOk result (LastsResumed begun_file planned read new) → IsRenewal renewal old new result
  one_result (Ok done) changed stopped outlasts lasting = all_made changed outlasts lasting
  one_result (Err fault) changed stopped outlasts lasting = one_refused fault stopped outlasts
