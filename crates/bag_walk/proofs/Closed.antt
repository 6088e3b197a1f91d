-- How a run ends: the closing line after a segment.
use Rattle.bag_walk.proofs.Common.{◌≡◌, ◌<◌, ◌≤◌, ◌++◌, ◌∷◌, ℕ, zero, suc, List, [], Option, length, min, take}
use Rattle.bag_walk.proofs.Common.{slice_get, refl, sym, ap, ◌∙◌, subst, arith, concat, OutState, Stop, Fault, closing}
use Rattle.bag_walk.proofs.Common.{MayEnd, ended, ideal, limit_of, written, Closes, Outcome, Request, ClosesSegment}
use Rattle.bag_walk.proofs.Common.{IsSegment, IfRunUnread, Segment, AtEnd, length-take-le, common_steps, take-map}
use Rattle.bag_walk.proofs.Common.{take-take, inl, inr, length-map, Some, nat_le, nat_tests, Appends, count_of}
use Rattle.bag_walk.proofs.Common.{written_line, lines_of_run, ReachesEnd, Wrote, WritesReport, take_at}
use Rattle.bag_walk.specs.declared.outcome.Outcome.TheVariants as outcome
use Rattle.bag_walk.specs.declared.segment.SegmentEnd.TheVariants.{Full, Unread, Unwritten}
use Rattle.bag_walk.proofs.RunLines.{concat-append_one, cut_at, place_behind}
use Rattle.bag_tree.proofs.Writing.{Appends-append}

-- what a run wrote whose lines are followed by a closing line
module _ (request : Request) (Stops : Stop → Type 0) where
  -- the closing line was taken
  wrote_all : (n : ℕ) (shown : List Fault) (old new : OutState) (ending : Outcome)
      → MayEnd request n Stops ending → Appends old.taken new.taken (concat (lines_of_run request shown ending))
      → Wrote request shown ending old new ending
  wrote_all n shown old new ending m t = grind arith

  counted : (n : ℕ) (ending : Outcome) → MayEnd request n Stops ending → count_of ending ≡ n
  counted n ending m = grind arith

  -- a run closes
  pub wrote_closed : (shown : List Fault) (old mid new : OutState) (ending result : Outcome)
      → MayEnd request (length shown) Stops ending → Appends old.taken mid.taken (concat (written shown))
      → Closes request ending mid new result
      → Wrote request shown ending old new result
  wrote_closed shown old mid new ending result m t (inl c) = grind (arith, wrote_all, concat-append_one, Appends-append)
  wrote_closed shown old mid new ending result m t (inr c) =
      let last : List ℕ = closing request ending in
      let at : slice_get (lines_of_run request shown ending) (count_of ending) ≡ Some last =
      rw (counted (length shown) ending m, ← length-map shown written_line) (place_behind (written shown) [] last) in
      let before : Appends old.taken mid.taken (concat (take (count_of ending) (lines_of_run request shown ending))) =
      rw (
        counted (length shown) ending m,
        take_at (written shown) (last ∷ []) (length shown) (length-map shown written_line),
      ) t in
      subst (Wrote request shown ending old new) (sym c.0) (
        c.1,
        cut_at (lines_of_run request shown ending) (count_of ending) last old.taken mid.taken new.taken at
            before c.2,
      )

  -- the report was written as far as the ending says
  pub closed_report : (faults : List Fault) (n : ℕ) (old mid new : OutState) (ending result : Outcome)
      → n ≤ length faults → MayEnd request n Stops ending → (ReachesEnd ending → n ≡ length faults)
      → Appends old.taken mid.taken (concat (written (take n faults))) → Closes request ending mid new result
      → WritesReport request faults Stops old new result
  closed_report faults n old mid new ending result within m all t c = grind (arith, wrote_closed, length-take-le)

  -- a run that shows all faults
  pub end_may_end : (n : ℕ) → n < limit_of request → MayEnd request n Stops (ended request.after n)
  end_may_end n h = grind arith

  pub ideal_may_end : (faults : List Fault)
      → MayEnd request (min (limit_of request) (length faults)) Stops (ideal request faults)
  ideal_may_end faults = grind (arith, nat_le, limit_of, nat_tests, end_may_end)

  pub ideal_all : (faults : List Fault) → ReachesEnd (ideal request faults)
      → min (limit_of request) (length faults) ≡ length faults
  ideal_all faults = grind (arith, nat_le, limit_of, nat_tests)

-- a line of the first faults is one of all their lines
line_of_first : (faults : List Fault) (last : List ℕ) (n m : ℕ) → n < m → m ≤ length faults
    → slice_get (written faults) n ≡ slice_get (written (take m faults) ++ last ∷ []) n
line_of_first faults last n zero less within = absurd (omega arith)
line_of_first [] last n (suc m) less within = absurd (omega arith)
line_of_first (f ∷ faults) last zero (suc m) less within = refl
line_of_first (f ∷ faults) last (suc n) (suc m) less within = line_of_first faults last n m (omega arith) (omega arith)

lines_of_first : (faults : List Fault) (last : List ℕ) (n m : ℕ) → n ≤ m → m ≤ length faults
    → take n (written faults) ≡ take n (written (take m faults) ++ last ∷ [])
lines_of_first faults last n m less within = grind (arith, take-map, take-take, common_steps)

module _ (request : Request) (faults : List Fault) (before mid : OutState) (segment : Segment) where
  abbrev IsSo : Type 0
  IsSo = IsSegment faults (limit_of request) before mid segment

  abbrev ExposesBytes : Stop → Type 0
  ExposesBytes stop = segment.end ≡ Unread stop

  pub closes_full : (after : OutState) (result : Outcome) → segment.end ≡ Full
      → Closes request (outcome.Stopped segment.written) mid after result → IsSo
      → ClosesSegment request faults segment before after result
  closes_full after result is closes s =
      let ends = rw is at s.ends in (
        closed_report request ExposesBytes faults segment.written before mid after (outcome.Stopped segment.written)
            result ends.1 (refl, ends.0)
            (λ reached. absurd reached) (rw is at s.wrote) closes,
        λ answered. rw is tt,
      )

  pub closes_at_end : (after : OutState) (result : Outcome) → segment.end ≡ AtEnd
      → Closes request (ended request.after segment.written) mid after result → IsSo
      → ClosesSegment request faults segment before after result
  closes_at_end after result is closes s =
      let ends = rw is at s.ends in (
        closed_report request ExposesBytes faults segment.written before mid after (ended request.after segment.written)
            result (omega (arith, ends.1)) (end_may_end request ExposesBytes segment.written ends.0) (λ reached. ends.1)
            (rw is at s.wrote) closes,
        λ answered. rw is tt,
      )

  pub closes_unread : (stop : Stop) (after : OutState) (result : Outcome) → segment.end ≡ Unread stop
      → Closes request (outcome.Unread segment.written stop) mid after result → IsSo
      → ClosesSegment request faults segment before after result
  closes_unread stop after result is closes s =
      let ends = rw is at s.ends in
      let n : ℕ = segment.written in (
        record {
          count = n;
          ending = outcome.Unread n stop;
          within = ends.1;
          may_end = (refl, ends.0, is);
          all = λ reached. absurd reached;
          wrote = wrote_closed request ExposesBytes (take n faults) before mid after (outcome.Unread n stop) result
              (subst (λ k. MayEnd request k ExposesBytes (outcome.Unread n stop)) (sym (length-take-le n faults ends.1))
              (refl, ends.0, is)) (rw is at s.wrote) closes;
        },
        λ answered. absurd answered,
      )

  -- the output refused a line
  pub closes_unwritten : segment.end ≡ Unwritten → IsSo
      → ClosesSegment request faults segment before mid (outcome.Unwritten segment.written)
  closes_unwritten is s =
      let ends = rw is at s.ends in
      let (is_refused, (bytes, (part, more, at, some, all), taken)) = rw is at s.wrote in
      let n : ℕ = min (limit_of request) (length faults) in
      let last : List ℕ = closing request (ideal request faults) in
      let less : segment.written < n = omega (arith, ends.0, ends.1) in
      let within : n ≤ length faults = omega arith in (
        record {
          count = n;
          ending = ideal request faults;
          within = within;
          may_end = ideal_may_end request ExposesBytes faults;
          all = ideal_all request ExposesBytes faults;
          wrote = (
            is_refused,
            (
              bytes,
              (
                part,
                more,
                sym (line_of_first faults last segment.written n less within) ∙ at,
                some,
                all ∙ ap (λ lines. concat lines ++ part)
                    (lines_of_first faults last segment.written n (omega (arith, less)) within),
              ),
              taken,
            ),
          );
        },
        λ answered. rw is tt,
      )

-- a closing line leaves the outcome's stop
pub told_by : (P : Stop → Type 0) (request : Request) (ending result : Outcome) (before after : OutState)
    → Closes request ending before after result → IfRunUnread ending P → IfRunUnread result P
told_by P request ending result before after c told = grind arith

pub end_has_no_stop : (P : Stop → Type 0) (cursor : Option Fault) (n : ℕ) → IfRunUnread (ended cursor n) P
end_has_no_stop P cursor n = grind arith
