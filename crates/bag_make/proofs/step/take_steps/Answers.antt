use Rattle.bag_make.proofs.Common.{◌≡◌, ℕ, ◌+◌, ◌-◌, ◌<◌, ◌++◌, ◌∷◌, List, [], length, take, get_or, IsTrue, refl, ap}
use Rattle.bag_make.proofs.Common.{sym, ◌∙◌, subst, arith, slice_get_read, fold_more, Bag, TreeState, Adds}
use Rattle.bag_make.proofs.Common.{take_one_more, AllAsk, CanTake, CanTakeAll, HasDone, HasTaken, StepAsks, after_steps}
use Rattle.bag_make.proofs.Common.{change, Step}
use Rattle.bag_make.proofs.Asking.{adds_one, none_added}
use Rattle.bag_make.proofs.step.take_steps.Goals as goal

one_can : (steps : List Step) (step : Step) (bag : Bag) → CanTakeAll steps bag → CanTake step (after_steps steps bag)
    → CanTakeAll (steps ++ step ∷ []) bag
one_can [] step bag all can = (can, tt)
one_can (x ∷ steps) step bag all can = (all.0, one_can steps step (change x bag) all.1 can)

more_taken : (steps : List Step) (i : ℕ) (step : Step) (old mid new : TreeState) → i < length steps
    → step ≡ get_or steps i step
    → HasTaken (take i steps) old mid → HasDone step mid new → (IsTrue mid.honest → CanTake step mid.bag)
    → new.failures ≡ mid.failures
    → (IsTrue mid.noted → Adds (StepAsks step) mid.trail new.trail) → HasTaken (take (i + 1) steps) old new
more_taken steps i step old mid new within is taken done can no_failure asked = record {
  bag = λ h.
      done.bag (subst IsTrue (sym taken.honest) h) ∙ ap (change step) (taken.bag h)
      ∙ sym (fold_more (λ b step. change step b) old.bag steps i step within
      ∙ ap (λ s. change s (after_steps (take i steps) old.bag)) (sym is));
  possible = λ h.
      subst (λ xs. CanTakeAll xs old.bag) (sym (take_one_more steps i step within is))
      (one_can (take i steps) step old.bag (taken.possible h)
      (subst (CanTake step) (taken.bag h) (can (subst IsTrue (sym taken.honest) h))));
  plain = λ h p. done.plain (subst IsTrue (sym taken.honest) h) (taken.plain h p);
  honest = done.honest ∙ taken.honest;
  no_failure = no_failure ∙ taken.no_failure;
  openings = done.openings ∙ taken.openings;
  listed = done.listed ∙ taken.listed;
  gave = done.gave ∙ taken.gave;
  noted = done.noted ∙ taken.noted;
  asked = λ noted.
      subst (λ xs. Adds (AllAsk xs) old.trail new.trail) (sym (take_one_more steps i step within is))
      (adds_one (take i steps) step old.trail mid.trail new.trail (taken.asked noted)
      (asked (subst IsTrue (sym taken.noted) noted)));
}

-- before the first step
none_taken : (steps : List Step) (state : TreeState) → HasTaken (take 0 steps) state state
none_taken steps state = record {
  bag = λ h. refl;
  possible = λ h. tt;
  plain = λ h p. p;
  honest = refl;
  no_failure = refl;
  openings = refl;
  listed = refl;
  gave = refl;
  noted = refl;
  asked = λ noted. none_added state.trail;
}

pub loop-place-init : goal.loop-place-init
loop-place-init g c = none_taken c.args.steps.now (g.T.Tree.state c.args.tree.now)

pub returns-in-Err-clause-stopped : goal.returns-in-Err-clause-stopped
returns-in-Err-clause-stopped g c =
    let back : c.loop-place.place + 1 - 1 ≡ c.loop-place.place = omega arith in
    record {
      first = omega arith;
      step = c.index-steps-place.result;
      place =
          rw back (slice_get_read c.args.steps.now (length c.args.steps.now) c.loop-place.place _ refl
          c.loop-place-test.true c.index-steps-place.is);
      before = g.T.Tree.state c.loop-place.tree;
      taken = rw back c.loop-place.invariant;
      left = c.in-Err.ensures.left;
      refused = c.in-Err.ensures.refused;
      answered = c.in-Err.ensures.answered;
      asked = c.in-Err.ensures.asked;
    }

pub loop-place-preserved : goal.loop-place-preserved
loop-place-preserved g c =
    more_taken c.args.steps.now c.loop-place.place c.index-steps-place.result _ _ _ c.loop-place-test.true
    c.index-steps-place.is c.loop-place.invariant
    c.in_default.ensures.done c.in_default.ensures.possible c.in_default.ensures.no_failure c.in_default.ensures.asked
