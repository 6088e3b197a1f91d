-- Findings, and the parts of them.
use Rattle.std.proofs.Common.{◌≡◌, ℕ, ◌+◌, ◌<◌, ◌^◌, ◌++◌, ◌∷◌, List, [], Option, None, Some, Contains, Result, Ok, Err}
use Rattle.std.proofs.Common.{length, take, drop, refl, sym, ap, ◌∙◌, subst, arith, append_assoc, codes}
use Rattle.std.proofs.Common.{length-append, add-one}
use Rattle.std.specs.Prelude.{MatchResult}
use Rattle.std.specs.List.{concat, AllByRecursion}
unfoldable use Rattle.std.specs.List.Sorted.{IsStrictlySortedBy}
use Rattle.std.specs.declared.cmp.Ordering.TheVariants.{Less}
use Rattle.std.proofs.lemmas.List.{take-append-drop, take_all}
use Rattle.std.proofs.Math.Seq.{drop-cons, take-suc}
use Rattle.bag_text.proofs.ListOf.{contains_behind, contains_first}
use Rattle.bag_faults.specs.FaultOrder.{fault_cmp}
use Rattle.bag_faults.specs.LineOf.{IsFault}
use Rattle.bag_faults.specs.declared.fault.Fault.{Fault}
use Rattle.bag_walk.specs.Ending.{written}
use Rattle.bag_reports.specs.DoneLine.{IsDoneLineOf}
use Rattle.bag_reports.specs.Faults.{AreAfter, last_of}
use Rattle.bag_reports.specs.Head.{head_of}
use Rattle.bag_reports.specs.Input.{MayFail, ended_lines}
use Rattle.bag_reports.specs.Reports.{ReportsState}
use Rattle.bag_reports.specs.declared.done_line.DoneLine.{DoneLine}
use Rattle.bag_reports.specs.declared.refusal.Cause.{Cause}
use Rattle.bag_reports.specs.declared.refusal.Cause.TheVariants.{Memory}
use Rattle.bag_reports.proofs.Coming.{after_first, first_after}
use Rattle.bag_reports.proofs.FileLines.{all_ended, all_lines, lines_count}
use Rattle.bag_reports.proofs.Other.{AreSmall, done_ended, done_front}
use Rattle.bag_join.specs.Findings.{AreFindings, Findings, done_at, faults_at, file_at, keys_at}
use Rattle.bag_join.specs.Join.{all_faults}
use Rattle.bag_join.proofs.Joined.{faults_joined, part_numbered}

-- sorted faults stand each after the one before it
first_is_after : (x : Fault) (xs : List Fault) → AllByRecursion (λ y. fault_cmp x y ≡ Less) xs
    → (ys : List Fault) → ys ≡ xs → AreAfter None ys → AreAfter (Some x) ys
first_is_after x xs all [] same after = tt
first_is_after x [] all (y ∷ ys) same after = cc
first_is_after x (z ∷ xs) all (y ∷ ys) same after =
    let first : z ≡ y = cc in (after.0, subst (λ w. fault_cmp x w ≡ Less) first all.0, after.2)

pub are_after : (faults : List Fault) → ((f : Fault) → Contains faults f → IsFault f)
    → IsStrictlySortedBy fault_cmp faults → AreAfter None faults
unfolding IsStrictlySortedBy
are_after [] each sorted = tt
are_after (x ∷ xs) each sorted =
    let rest = are_after xs (λ f has. each f (contains_behind x xs f has)) sorted.1 in
    (each x (contains_first x xs), tt, first_is_after x xs sorted.0 xs refl rest)

-- the faults of a part, between those before and those after it
abbrev pub before_part : Findings → ℕ → List Fault
before_part findings k = all_faults (take k findings.parts)

abbrev pub behind_part : Findings → ℕ → List Fault
behind_part findings k = all_faults (drop (k + 1) findings.parts)

all_joined : (xs ys : List (List Fault)) → all_faults (xs ++ ys) ≡ all_faults xs ++ all_faults ys
all_joined [] ys = refl
all_joined (x ∷ xs) ys =
    ap (λ rest. x ++ rest) (all_joined xs ys) ∙ sym (append_assoc x (all_faults xs) (all_faults ys))

pub parts_cut : (findings : Findings) (k : ℕ) → k < length findings.parts
    → all_faults findings.parts ≡ before_part findings k ++ (faults_at findings k ++ behind_part findings k)
parts_cut findings k inside =
    let parts = findings.parts in
    sym (ap all_faults (take-append-drop k parts))
    ∙ all_joined (take k parts) (drop k parts)
    ∙ ap (λ l. before_part findings k ++ all_faults l) (drop-cons parts k [] inside)
    ∙ ap (λ n. before_part findings k ++ (faults_at findings k ++ all_faults (drop n parts))) (sym (add-one k))

-- those before the next part
pub parts_more : (findings : Findings) (k : ℕ) → k < length findings.parts
    → before_part findings (k + 1) ≡ before_part findings k ++ faults_at findings k
parts_more findings k inside =
    let parts = findings.parts in
    ap (λ n. all_faults (take n parts)) (add-one k) ∙ ap all_faults (take-suc parts k [] inside)
    ∙ faults_joined (take k parts) (faults_at findings k)

pub parts_all : (findings : Findings) (k : ℕ) → k ≡ length findings.parts
    → before_part findings k ≡ all_faults findings.parts
parts_all findings k same = ap all_faults (take_all k findings.parts (omega arith))

pub part_after : (findings : Findings) (k : ℕ) → AreFindings findings → k < length findings.parts
    → AreAfter (last_of None (before_part findings k)) (faults_at findings k)
part_after findings k are inside =
    let all = subst (λ l. AreAfter None l) (parts_cut findings k inside)
    (are_after (all_faults findings.parts) are.are_faults are.in_order) in
    first_after (last_of None (before_part findings k)) (faults_at findings k) (behind_part findings k)
    (after_first None (before_part findings k) (faults_at findings k ++ behind_part findings k) all)

pub part_few : (findings : Findings) (k : ℕ) → AreFindings findings → k < length findings.parts
    → length (before_part findings k) + length (faults_at findings k) < 2 ^ 63
part_few findings k are inside =
    let few = are.few in
    let cut = ap length (parts_cut findings k inside) in
    let one = length-append (before_part findings k) (faults_at findings k ++ behind_part findings k) in
    let two = length-append (faults_at findings k) (behind_part findings k) in
    omega arith

-- after none, what stands after some stands
pub after_none : (last : Option Fault) (faults : List Fault) → AreAfter last faults → AreAfter None faults
after_none last [] after = tt
after_none last (f ∷ faults) after = (after.0, tt, after.2)

-- the numbers of a closing line fit
pub small_at : (findings : Findings) (k : ℕ) → AreFindings findings → k < length findings.parts
    → AreSmall findings.subject (part_numbered k (length findings.parts)) (length (faults_at findings k))
small_at findings k are inside =
    let most = are.most in
    let few = part_few findings k are inside in
    record {
      number = omega arith;
      of = omega arith;
      told = are.subject;
      count = omega arith;
    }

-- its closing line, without its end
abbrev pub front_at : Findings → ℕ → List ℕ
front_at findings k =
    done_front findings.subject (part_numbered k (length findings.parts)) (length (faults_at findings k))

pub file_is : (findings : Findings) (k : ℕ)
    → file_at findings k
    ≡ head_of (keys_at findings k) ++ (concat (written (faults_at findings k)) ++ (front_at findings k ++ codes "\n"))
file_is findings k =
    ap (λ t. head_of (keys_at findings k) ++ (concat (written (faults_at findings k)) ++ t))
    (done_ended findings.subject (part_numbered k (length findings.parts)) (length (faults_at findings k)))

-- the lines before its closing line
abbrev pub lines_at : Findings → ℕ → List (List ℕ)
lines_at findings k = all_lines (keys_at findings k) (faults_at findings k)

pub file_lines : (findings : Findings) (k : ℕ)
    → file_at findings k ≡ ended_lines (lines_at findings k) ++ (front_at findings k ++ codes "\n")
file_lines findings k =
    file_is findings k
    ∙ sym (append_assoc (head_of (keys_at findings k)) (concat (written (faults_at findings k)))
    (front_at findings k ++ codes "\n"))
    ∙ ap (λ t. t ++ (front_at findings k ++ codes "\n"))
    (sym (all_ended (keys_at findings k) (faults_at findings k)))

pub few_at : (findings : Findings) (k : ℕ) → AreFindings findings → k < length findings.parts
    → length (lines_at findings k) + 2 < 2 ^ 64
few_at findings k are inside =
    let few = part_few findings k are inside in
    let keys = are.few_keys k inside in
    let sum = lines_count (keys_at findings k) (faults_at findings k) in
    omega arith

pub is_said : (findings : Findings) (k : ℕ) → AreFindings findings → k < length findings.parts
    → IsDoneLineOf (front_at findings k ++ codes "\n") (done_at findings k)
is_said findings k are inside =
    let few = part_few findings k are inside in
    record {
      said_so =
          record {
            subject = are.subject;
            part = record { below = inside; most = are.most };
            count = omega arith;
          };
      text_is =
          sym (done_ended findings.subject (part_numbered k (length findings.parts))
          (length (faults_at findings k)));
    }

-- what was read of a closing line, or memory ran out
pub read_alike : (r : Result DoneLine Cause) (said : DoneLine) (reports : ReportsState)
    → MatchResult r (λ found. found ≡ said) (λ cause. cause ≡ Memory)
    → MatchResult r (λ found. found ≡ said) (λ cause. MayFail cause reports)
read_alike (Ok found) said reports h = h
read_alike (Err cause) said reports h = subst (λ x. MayFail x reports) (sym h) tt
