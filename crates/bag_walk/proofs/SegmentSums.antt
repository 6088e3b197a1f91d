-- What segments come to where none is unread, and what an answer says of those that are.
use Rattle.bag_walk.proofs.Common.{◌≡◌, ◌≢◌, ◌<◌, ◌≤◌, ◌+◌, ◌-◌, ◌∷◌, inl, inr, ℕ, cond, List, [], None, length, min}
use Rattle.bag_walk.proofs.Common.{take, nat_le, arith, sum, nat_tests, sum_by-cons, Fault, Stop, count_of, ended}
use Rattle.bag_walk.proofs.Common.{IfRunUnread, Outcome, Stopped, Unread, Unwritten, SegmentsFrom, cost, MayLose, refl}
use Rattle.bag_walk.proofs.Common.{sym, ap, ◌∙◌, subst}
use Rattle.bag_walk.specs.SegmentLaws.{AnswersReportUnread, SegmentsAddUp}

abbrev AddUp : List Fault → ℕ → ℕ → ℕ → ℕ → Outcome → Type 0
AddUp report all u u' n' outcome' =
    (u' ≡ u) × (n' ≡ min all (length report))
    × (outcome' ≡ cond (nat_le all (length report)) (Stopped all) (ended None (length report)))

counts_ended : (n : ℕ) → count_of (ended None n) ≡ n
counts_ended n = grind arith

past_end : (report : List Fault) (all u : ℕ) → length report < all
    → AddUp report all u u (length report) (ended None (length report))
past_end report all u past = grind (arith, nat_le, nat_tests)

-- of segments that lead to these
module _ (report : List Fault) (Stops : Stop → Type 0) (u' r' n' : ℕ) (outcome' : Outcome) where
  abbrev LeadFrom : ℕ → ℕ → ℕ → Outcome → List ℕ → Type 0
  LeadFrom u r n outcome limits = SegmentsFrom report Stops u r n outcome limits u' r' n' outcome'

  -- each unread limit is short of one fault at least
  short : (limits : List ℕ) (u r n : ℕ) (outcome : Outcome) → LeadFrom u r n outcome limits
      → (r ≤ r') × (n' + r' ≤ n + (sum limits + r))
  short [] u r n outcome (lost, unread, count, last) = grind arith
  short (m ∷ limits) u r n outcome (inl (full, rest)) =
      grind (arith, sum_by-cons (λ (x : ℕ). x) m limits, short limits u r (n + m) (Stopped (n + m)) rest)
  short (m ∷ limits) u r n outcome (inr (inl (less, lost, unread, count, last))) =
      grind (arith, sum_by-cons (λ (x : ℕ). x) m limits)
  short (m ∷ limits) u r n outcome (inr (inr (inl (j, stop, less, within, stops, rest)))) =
      grind (
        arith,
        sum_by-cons (λ (x : ℕ). x) m limits,
        short limits (u + cost stop.cause) (r + 1) (n + j) (Unread (n + j) stop) rest,
      )
  short (m ∷ limits) u r n outcome (inr (inr (inr (j, less, within, lost, unread, count, last)))) =
      grind (arith, sum_by-cons (λ (x : ℕ). x) m limits)

  -- the answer counts all faults that were written
  counts : (limits : List ℕ) (u r n : ℕ) (outcome : Outcome) → count_of outcome ≡ n
      → LeadFrom u r n outcome limits → count_of outcome' ≡ n'
  counts [] u r n outcome is (lost, unread, count, last) = ap count_of last ∙ is ∙ sym count
  counts (m ∷ limits) u r n outcome is (inl (full, rest)) =
      counts limits u r (n + m) (Stopped (n + m)) refl rest
  counts (m ∷ limits) u r n outcome is (inr (inl (less, lost, unread, count, last))) =
      rw (last, count) (counts_ended (length report))
  counts (m ∷ limits) u r n outcome is (inr (inr (inl (j, stop, less, within, stops, rest)))) =
      counts limits (u + cost stop.cause) (r + 1) (n + j) (Unread (n + j) stop) refl rest
  counts (m ∷ limits) u r n outcome is (inr (inr (inr (j, less, within, lost, unread, count, last)))) =
      rw (last, count) refl

  from : (limits : List ℕ) (u r n : ℕ) → n ≤ length report → r' ≡ r → ((k : ℕ) → outcome' ≢ Unwritten k)
      → LeadFrom u r n (Stopped n) limits → AddUp report (n + sum limits) u u' n' outcome'
  from [] u r n within none written (lost, unread, count, last) = grind (arith, nat_le, nat_tests)
  from (m ∷ limits) u r n within none written (inl (full, rest)) =
      grind (arith, sum_by-cons (λ (x : ℕ). x) m limits, from limits u r (n + m))
  from (m ∷ limits) u r n within none written (inr (inl (less, lost, unread, count, last))) =
      grind (arith, past_end, sum_by-cons (λ (x : ℕ). x) m limits)
  from (m ∷ limits) u r n within none written (inr (inr (inl (j, stop, less, most, stops, rest)))) =
      let more = short limits (u + cost stop.cause) (r + 1) (n + j) (Unread (n + j) stop) rest in
      absurd (omega (arith, none, more.0))
  from (m ∷ limits) u r n within none written (inr (inr (inr unwritten))) = absurd (written _ unwritten.6)

  -- where the last limit alone isn't 0
  alone : (m : ℕ) (limits : List ℕ) (u r n : ℕ) (outcome : Outcome)
      → sum (take (length limits) (m ∷ limits)) ≡ 0
      → IfRunUnread outcome' (λ stop. ⊥) → LeadFrom u r n outcome (m ∷ limits) → r' ≡ r
  alone m [] u r n outcome none read (inl (full, (lost, unread, count, last))) = unread
  alone m [] u r n outcome none read (inr (inr (inl (j, stop, less, most, stops, (lost, unread, count, last))))) =
      absurd (subst (λ (o : Outcome). IfRunUnread o (λ stop. ⊥)) last read)
  alone m (next ∷ limits) u r n outcome none read (inl (full, rest)) =
      alone next limits u r (n + m) (Stopped (n + m))
      (omega (arith, none, sum_by-cons (λ (x : ℕ). x) m (take (length limits) (next ∷ limits)))) read rest
  alone m (next ∷ limits) u r n outcome none read (inr (inr (inl (j, stop, less, most, stops, rest)))) =
      absurd (omega (arith, less, none, sum_by-cons (λ (x : ℕ). x) m (take (length limits) (next ∷ limits))))
  alone m limits u r n outcome none read (inr (inl (less, lost, unread, count, last))) = unread
  alone m limits u r n outcome none read (inr (inr (inr (j, less, within, lost, unread, count, last)))) = unread

  alone_of : (limits : List ℕ) → sum (take (length limits - 1) limits) ≡ 0
      → IfRunUnread outcome' (λ stop. ⊥) → LeadFrom 0 0 0 (Stopped 0) limits → r' ≡ 0
  alone_of [] none read are = are.1
  alone_of (m ∷ limits) none read are =
      let one_less : length (m ∷ limits) - 1 ≡ length limits =
      omega arith in alone m limits 0 0 0 (Stopped 0) (rw one_less at none) read are

pub segments_add_up : SegmentsAddUp
segments_add_up options report limits old new before after outcome runs none written =
    let all : 0 + sum limits ≡ sum limits = omega arith in
    subst (λ n. AddUp report n 0 runs.lost runs.count outcome) all
    (from report (MayLose options old new) runs.lost runs.unread runs.count outcome limits 0 0 0 (omega arith) none
    written runs.segments)

pub answers_report_unread : AnswersReportUnread
answers_report_unread options report limits old new before after outcome runs =
    let Stops = MayLose options old new in
    let few = short report Stops runs.lost runs.unread runs.count outcome limits 0 0 0 (Stopped 0) runs.segments in
    record {
      counts =
          counts report Stops runs.lost runs.unread runs.count outcome limits 0 0 0 (Stopped 0) refl runs.segments;
      short = omega (arith, few.1);
      alone = λ none read.
          alone_of report Stops runs.lost runs.unread runs.count outcome limits none read runs.segments;
    }
