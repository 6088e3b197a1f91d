-- What making a bag promises follows from what reading the folder and taking the steps promise.
use Rattle.bag_make.proofs.Common.{arith, ◌≡◌, ◌⊎◌, ◌++◌, ◌∙◌, inl, inr, false, true, IsTrue, All, List, [], map, sym, refl}
use Rattle.bag_make.proofs.Common.{false≢true, rank_cmp, keeps_itself, list_any, Alg, NewElement, File, MakeFault}
use Rattle.bag_make.proofs.Common.{IsBag, files_of, Keeps, TreeState, Step, AreTexts, CanAsk, HasTaken}
use Rattle.bag_make.proofs.Common.{MayRefuseMaking, OutlastsCuts, declaration_again, info_again, manifest_again}
use Rattle.bag_make.proofs.Common.{append-nil, is_in_the_way, is_refused, steps}
use Rattle.std.specs.List.Sorted.{IsStrictlySortedBy}
use Rattle.std.specs.Prelude.{◌≤◌, Err, Ok}
use Rattle.bag_make.proofs.Made.{has_made, leaves_bag, left_so, made_has_no_fault}
use Rattle.bag_make.proofs.NoFault.{made_is_valid}
use Rattle.bag_make.proofs.PowerCut.{lasts_for_good, outlasts_all, outlasts_before, outlasts_some}
use Rattle.bag_make.proofs.Remainder.{what_remains}
use Rattle.bag_make.specs.Reading.{OpensFolder}
use Rattle.bag_make.specs.Reads.{MayRefuseReading}
use Rattle.bag_make.specs.Request.{IsRequestFault}
use Rattle.bag_make.specs.Steps.{HasStopped}
use Rattle.bag_make.specs.WholeMaking.{IsMake}
use Rattle.bag_make.specs.declared.fault.MakeFault.TheVariants as fault_of
use Rattle.bag_tree.specs.declared.changing_files.RefusedChange.{RefusedChange}

-- no file was opened meanwhile
still_opens : (old mid new : TreeState) → OpensFolder old mid → new.openings ≡ mid.openings → OpensFolder old new
still_opens old mid new opens same honest = let opened = opens honest in (opened.0, same ∙ opened.1)

module _ (algs : List Alg) (info : List NewElement) (old : TreeState) (is_bag : IsBag old.bag) where
  can_be_asked : {A : Type 0} → CanAsk algs info → (algs ≡ []) ⊎ (list_any is_refused info ≡ true) → A
  can_be_asked asked (inl none) = absurd (asked.0 none)
  can_be_asked asked (inr bad) = absurd (false≢true (sym asked.1 ∙ bad))

  -- what a refusal leaves follows from when it comes
  told : (new : TreeState) (fault : MakeFault) → new.honest ≡ old.honest → old.failures ≤ new.failures
      → new.noted ≡ old.noted → ((algs ≡ []) ⊎ (list_any is_refused info ≡ true) → new ≡ old) → OpensFolder old new
      → MayRefuseMaking algs info old new fault → OutlastsCuts old new → IsMake algs info old new (Err fault)
  told new fault honest failures noted untouched opens refused any_moment = record {
    honest = honest;
    failures = failures;
    noted = noted;
    untouched = untouched;
    made = tt;
    valid = tt;
    opens = opens;
    refused = refused;
    leaves = leaves_bag algs info old new fault refused;
    payload = what_remains algs info old new is_bag fault refused;
    any_moment = any_moment;
    lasting = tt;
  }

  for_request : (fault : MakeFault) → IsRequestFault algs info fault → MayRefuseMaking algs info old old fault
  for_request fault_of.NoAlgorithm is = (is, keeps_itself old)
  for_request fault_of.BadValue is = (is, keeps_itself old)
  for_request _ is = absurd is

  -- the request can't be met
  pub request_refused : (fault : MakeFault) → IsRequestFault algs info fault → IsMake algs info old old (Err fault)
  request_refused fault is =
      told old fault refl (omega arith) refl (λ bad. refl) (λ honest. (0, sym (append-nil old.openings)))
      (for_request fault is) (outlasts_before old old (keeps_itself old))

  for_reading : (mid : TreeState) (fault : MakeFault) → CanAsk algs info → Keeps old mid
      → MayRefuseReading old mid fault → MayRefuseMaking algs info old mid fault
  for_reading mid fault_of.InTheWay asked keeps why = (asked, why.0, why.1)
  for_reading mid (fault_of.ReadStopped stop) asked keeps why = (asked, keeps, why)
  for_reading mid fault_of.Memory asked keeps why = (asked, keeps, why)
  for_reading mid _ asked keeps why = absurd why

  module _ (mid : TreeState) (asked : CanAsk algs info) (keeps : Keeps old mid) (opens : OpensFolder old mid) where
    -- the folder can't be read
    pub reading_refused : (fault : MakeFault) → MayRefuseReading old mid fault → IsMake algs info old mid (Err fault)
    reading_refused fault why =
        told mid fault keeps.honest keeps.failures keeps.noted (can_be_asked asked) opens
        (for_reading mid fault asked keeps why) (outlasts_before old mid keeps)

    module _ (new : TreeState) (planned : List Step)
        (are : IsTrue old.honest → (planned ≡ steps old.bag algs info) × (is_in_the_way old.bag ≡ false))
        (no_failure : mid.failures ≡ old.failures)
        (opened : IsTrue old.honest → mid.openings ≡ old.openings ++ map (λ (e : File). e.0) (files_of old.bag)) where
      -- a step was refused
      pub step_refused : (refusal : RefusedChange) → HasStopped planned mid new refusal
          → IsMake algs info old new (Err (fault_of.StepRefused refusal.place refusal.cause))
      step_refused refusal stopped =
          let left = left_so stopped.step stopped.before new stopped.left in
          let same = left.3 ∙ stopped.taken.openings in
          told new (fault_of.StepRefused refusal.place refusal.cause) (left.0 ∙ stopped.taken.honest ∙ keeps.honest)
          (omega (arith, no_failure, stopped.taken.no_failure, left.1)) (left.2 ∙ stopped.taken.noted ∙ keeps.noted)
          (can_be_asked asked) (still_opens old mid new opens same) (
            asked,
            record {
              free = λ honest. (are honest).1;
              planned = planned;
              steps = λ honest. (are honest).0;
              read = mid;
              keeps = keeps;
              failures = no_failure;
              openings = λ honest. same ∙ opened honest;
              stopped = stopped;
            },
          ) (outlasts_some algs info old mid new planned is_bag keeps are refusal stopped)

      -- all steps were taken
      pub all_taken : (done : Unit {0}) → HasTaken planned mid new → All AreTexts info
          → IsStrictlySortedBy rank_cmp algs → (IsTrue old.honest → IsTrue old.plain)
          → IsMake algs info old new (Ok done)
      all_taken done taken texts ascend plain =
          let made = has_made algs info old mid new planned is_bag keeps are taken asked texts ascend plain no_failure opened
          in record {
            honest = taken.honest ∙ keeps.honest;
            failures = omega (arith, no_failure, taken.no_failure);
            noted = taken.noted ∙ keeps.noted;
            untouched = can_be_asked asked;
            made = made;
            valid =
                made_has_no_fault (made_is_valid declaration_again info_again manifest_again) algs info old new is_bag
                made;
            opens = still_opens old mid new opens taken.openings;
            refused = tt;
            leaves = tt;
            payload = tt;
            any_moment = outlasts_all algs info old mid new planned is_bag keeps are taken;
            lasting = lasts_for_good algs info old mid new planned is_bag keeps are taken;
          }
