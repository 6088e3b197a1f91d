-- Reports of parts, written in turn.
use Rattle.std.proofs.Common.{◌≡◌, ℕ, ◌+◌, ◌<◌, ◌++◌, ◌∷◌, List, [], Option, None, Some, length, get_or, arith, IsTrue}
use Rattle.std.proofs.Common.{refl, sym, ap, ◌∙◌, subst, codes}
use Rattle.std.specs.List.{slice_get}
use Rattle.std.specs.Io.KnownBytes.{Appends}
use Rattle.std.specs.List.{concat}
use Rattle.bag_tree.proofs.Writing.{Appends-append}
use Rattle.bag_tree.specs.Out.{OutState}
use Rattle.std.proofs.lemmas.Option.{slice_get-get_or}
use Rattle.bag_faults.specs.declared.fault.Fault.{Fault}
use Rattle.bag_walk.specs.Ending.{ended, written}
use Rattle.bag_reports.specs.DoneLine.{line_for}
use Rattle.bag_walk.specs.declared.outcome.Outcome.{Outcome}
use Rattle.bag_reports.specs.Faults.{AreAfter, IsOther, WritesFaults}
use Rattle.bag_reports.specs.Head.{IsUnchecked, head_of}
use Rattle.bag_reports.specs.Input.{HoldsAhead}
use Rattle.bag_reports.specs.Reports.{ReportsState, SameReports}
use Rattle.bag_reports.proofs.FileLines.{closing_says_none}
use Rattle.bag_reports.proofs.Faults.{writes_none, writes_on}
use Rattle.bag_reports.proofs.Other.{done_ended, done_is_other}
use Rattle.bag_join.specs.Findings.{AreFindings, Findings, IsPlanFor, IsReportOf, IsTurnOf, faults_at, file_at, keys_at}
use Rattle.bag_join.specs.Join.{all_faults, full_closing}
use Rattle.bag_join.specs.declared.plan.Plan.{Plan}
use Rattle.bag_join.proofs.Findings.{before_part, front_at, part_after, part_few, parts_all, parts_more}
use Rattle.bag_join.proofs.Findings.{file_is, small_at}
use Rattle.bag_join.proofs.Joined.{part_numbered}

-- the line after the faults of a part
pub front_is_other : (findings : Findings) (k : ℕ) → AreFindings findings → k < length findings.parts
    → IsOther (front_at findings k)
front_is_other findings k are inside =
    done_is_other findings.subject (part_numbered k (length findings.parts))
    (length (faults_at findings k)) (small_at findings k are inside)

-- it says of no key that it isn't checked
pub front_says_none : (findings : Findings) (k : ℕ) → IsUnchecked (front_at findings k) → ⊥
front_says_none findings k =
    closing_says_none findings.subject (part_numbered k (length findings.parts)) (length (faults_at findings k))

-- what the plan expects it to be
pub front_planned : (findings : Findings) (reports : ReportsState) (plan : Plan) (k n of : ℕ)
    → IsPlanFor findings reports plan → n ≡ length (faults_at findings k) → of ≡ length findings.parts
    → front_at findings k ++ codes "\n" ≡ line_for plan.subject (part_numbered k of) n
front_planned findings reports plan k n of planned count parts =
    sym (done_ended findings.subject (part_numbered k (length findings.parts)) (length (faults_at findings k)))
    ∙ ap (λ m. line_for findings.subject (part_numbered k (length findings.parts)) m) (sym count)
    ∙ ap (λ m. line_for findings.subject (part_numbered k m) n) (sym parts)
    ∙ ap (λ s. line_for s (part_numbered k of) n) (sym planned.subject)

-- the plan is for the same reports
pub same_plan : (findings : Findings) (old new : ReportsState) (plan : Plan) → SameReports old new
    → IsPlanFor findings old plan → IsPlanFor findings new plan
same_plan findings old new plan same planned = record {
  subject = planned.subject;
  parts = planned.parts;
  placed =
      λ k inside.
      let place = planned.placed k inside in
      let count = same.count in (
        place.0,
        place.1,
        omega arith,
        ap (λ (l : List (List ℕ)). slice_get l place.0) same.held ∙ place.3,
      );
}

-- the faults of the first parts were written
abbrev pub WritesFirst : Findings → ℕ → Option Fault → OutState → OutState → ℕ → Type 0
WritesFirst findings k last before after total =
    WritesFaults None last before after total (before_part findings k)

pub writes_first_none : (findings : Findings) (out : OutState) → WritesFirst findings 0 None out out 0
writes_first_none findings out = writes_none None out

pub writes_first_more : (findings : Findings) (k : ℕ) (last new_last : Option Fault) (before mid after : OutState)
    (total sum n : ℕ) → k < length findings.parts → WritesFirst findings k last before mid total → sum ≡ total + n
    → WritesFaults last new_last mid after n (faults_at findings k)
    → WritesFirst findings (k + 1) new_last before after sum
writes_first_more findings k last new_last before mid after total sum n inside first is next =
    subst (λ m. WritesFirst findings (k + 1) new_last before after m) (sym is)
    (subst (λ faults. WritesFaults None new_last before after (total + n) faults) (sym (parts_more findings k inside))
    (writes_on None last new_last before mid after total n (before_part findings k) (faults_at findings k) first next))

pub writes_first_all : (findings : Findings) (k : ℕ) (last : Option Fault) (before after : OutState) (total : ℕ)
    → k ≡ length findings.parts → WritesFirst findings k last before after total
    → WritesFaults None last before after total (all_faults findings.parts)
writes_first_all findings k last before after total all first =
    subst (λ faults. WritesFaults None last before after total faults) (parts_all findings k all) first

-- the turn of the next part comes
pub turn_comes : (findings : Findings) (old now : ReportsState) (plan : Plan) (k report total : ℕ) (last : Option Fault)
    (before mid : OutState) → AreFindings findings → IsTrue old.honest → IsPlanFor findings old plan
    → SameReports old now → k < length findings.parts → slice_get plan.places.items k ≡ Some (Some report)
    → WritesFirst findings k last before mid total → IsTurnOf findings now plan k report total last
turn_comes findings old now plan k report total last before mid are honest planned same inside place first =
    let here = (same_plan findings old now plan same planned).placed k inside in
    let found : here.0 ≡ report = same_place (sym here.1 ∙ place) in
    let count = first.count in
    let few = part_few findings k are inside in
    record {
      are = are;
      honest = subst IsTrue (sym same.honest) honest;
      planned = same_plan findings old now plan same planned;
      below = inside;
      there = subst (λ m. m < now.count) found here.2;
      held = subst (λ m. slice_get now.held m ≡ Some (file_at findings k)) found here.3;
      after = subst (λ o. AreAfter o (faults_at findings k)) (sym first.last_is) (part_after findings k are inside);
      few = omega arith;
    }
  where
    same_place : {a b : ℕ} → Some (Some a) ≡ Some (Some b) → a ≡ b
    same_place e = cc

no_place : (o : Option ℕ) (a : ℕ) → o ≡ None → Some o ≡ Some (Some a) → ⊥
no_place o a none e = let same : o ≡ Some a = cc in cc

-- a place of the plan isn't empty
pub has_place : (findings : Findings) (reports : ReportsState) (plan : Plan) (k : ℕ) → IsPlanFor findings reports plan
    → k < length findings.parts → slice_get plan.places.items k ≡ Some None → ⊥
has_place findings reports plan k planned inside none =
    let place = planned.placed k inside in
    let some = place.1 in
    let two : Some None ≡ Some (Some place.0) = sym none ∙ some in
    no_place None place.0 refl two

-- the place at an index
pub place_at : (places items : List (Option ℕ)) (k : ℕ) (o : Option ℕ) → items ≡ places → k < length places
    → get_or items k None ≡ o → slice_get places k ≡ Some o
place_at places items k o same inside is =
    slice_get-get_or places k None inside ∙ ap (λ (l : List (Option ℕ)). Some (get_or l k None)) (sym same)
    ∙ ap (λ (x : Option ℕ). Some x) is

-- what is ahead in the report of a part
pub turn_ahead : (findings : Findings) (opened : ReportsState) (passed : List ℕ) (k : ℕ)
    → HoldsAhead opened passed (file_at findings k)
    → HoldsAhead opened passed (head_of (keys_at findings k)
    ++ (concat (written (faults_at findings k)) ++ (front_at findings k ++ 10 ∷ [])))
turn_ahead findings opened passed k holds =
    subst (λ text. HoldsAhead opened passed text) (file_is findings k) holds

-- all was written, and the closing line
pub report_written : (findings : Findings) (name : List ℕ) (last : Option Fault) (before mid after : OutState) (n : ℕ)
    (outcome : Outcome) → name ≡ findings.subject.name
    → WritesFaults None last before mid n (all_faults findings.parts)
    → Appends mid.taken after.taken (full_closing name n) → outcome ≡ ended None n
    → IsReportOf findings before after outcome
report_written findings name last before mid after n outcome called wrote closes ends = (
  ends ∙ ap (λ k. ended None k) wrote.count,
  Appends-append before.taken mid.taken after.taken (concat (written (all_faults findings.parts)))
      (full_closing findings.subject.name (length (all_faults findings.parts))) wrote.wrote
      (subst (λ k. Appends mid.taken after.taken (full_closing findings.subject.name k)) wrote.count
      (subst (λ t. Appends mid.taken after.taken (full_closing t n)) called closes)),
)
