-- A run and the parts of its report.
use Rattle.bag_walk.proofs.Common.{◌≡◌, ◌<◌, ◌++◌, ◌∙◌, ℕ, List, length, min, take, None, sym, ap}
use Rattle.bag_walk.proofs.Common.{subst, arith, nat_le, nat_tests, take_all, concat, OutState, Stop, Fault, Appends}
use Rattle.bag_walk.proofs.Common.{closing, ReachesEnd, Wrote, ended, ideal, limit_of, lines_of_run, written, EndsAt}
use Rattle.bag_walk.proofs.Common.{Outcome, Request, above, first}
use Rattle.bag_walk.specs.Ending.{TookAll}
use Rattle.bag_walk.specs.declared.outcome.Outcome.TheVariants.{Clean, Faults, Rest, Stopped, Unread, Unwritten}
use Rattle.bag_walk.proofs.PartLines.{parts_write_report}
use Rattle.bag_walk.proofs.RunLines.{concat-append_one}
use Rattle.bag_sources.proofs.Positions.{above_none}
use Rattle.bag_walk.specs.PartRuns.{RunIsItsParts}

module _ (request : Request) (faults : List Fault) (Stops : Stop → Type 0) (k : ℕ) where
  ends_by : (outcome : Outcome) → ReachesEnd outcome → EndsAt request faults Stops k outcome
      → (k ≡ min (limit_of request) (length faults)) × (outcome ≡ ideal request faults)
  ends_by Clean reached ends = ends
  ends_by (Faults n) reached ends = ends
  ends_by (Rest n) reached ends = ends
  ends_by (Stopped n) reached ends = absurd reached
  ends_by (Unread n stop) reached ends = absurd reached
  ends_by (Unwritten n) reached ends = absurd reached

  wrote_by : (shown : List Fault) (ending : Outcome) (before after : OutState) (outcome : Outcome) → ReachesEnd outcome
      → Wrote request shown ending before after outcome
      → (outcome ≡ ending) × TookAll (lines_of_run request shown ending) before after
  wrote_by shown ending before after Clean reached wrote = wrote
  wrote_by shown ending before after (Faults n) reached wrote = wrote
  wrote_by shown ending before after (Rest n) reached wrote = wrote
  wrote_by shown ending before after (Stopped n) reached wrote = absurd reached
  wrote_by shown ending before after (Unread n stop) reached wrote = absurd reached
  wrote_by shown ending before after (Unwritten n) reached wrote = absurd reached

  ideal_end : (outcome : Outcome) → request.after ≡ None → ReachesEnd outcome → outcome ≡ ideal request faults
      → (length faults < limit_of request) × (outcome ≡ ended None (length faults))
  ideal_end outcome from_first reached is = grind (arith, nat_le, nat_tests)

  -- a run from the first fault that comes to the end
  whole_run : (ending : Outcome) (before after : OutState) (outcome : Outcome) → request.after ≡ None
      → ReachesEnd outcome → EndsAt request faults Stops k ending
      → Wrote request (first k faults) ending before after outcome
      → (outcome ≡ ended None (length faults))
      × Appends before.taken after.taken (concat (written faults) ++ closing request outcome)
  whole_run ending before after outcome from_first reached ends wrote =
      let took = wrote_by (first k faults) ending before after outcome reached wrote in
      let so = ends_by outcome reached (subst (EndsAt request faults Stops k) (sym took.0) ends) in
      let end = ideal_end outcome from_first reached so.1 in
      let all : take k faults ≡ faults = take_all k faults (omega (arith, so.0, end.0)) in
      let text : concat (lines_of_run request (first k faults) ending) ≡ concat (written faults) ++ closing request outcome =
      ap (λ shown. concat (lines_of_run request shown ending)) all
      ∙ ap (λ o. concat (lines_of_run request faults o)) (sym took.0)
      ∙ concat-append_one (written faults) (closing request outcome) in
      (end.1, subst (Appends before.taken after.taken) text took.1)

pub run_is_its_parts : RunIsItsParts
run_is_its_parts old new profile request before after outcome parts run from_first reached some honest report is files
    are =
    let one = run honest report is in
    let all : above request.after report ≡ report =
    ap (λ cursor. above cursor report) from_first ∙ sym (above_none report) in
    let both = parts_write_report files parts report are.ordered some is.ascending in
    let whole =
    whole_run request (above request.after report) _ one.count one.ending before after outcome from_first reached
    one.ends one.wrote in (
      whole.0 ∙ ap (λ n. ended None n) (ap length all ∙ sym both.1),
      subst (λ text. Appends before.taken after.taken (text ++ closing request outcome))
          (ap (λ faults. concat (written faults)) all ∙ sym both.0) whole.1,
    )
