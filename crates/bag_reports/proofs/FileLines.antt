-- The lines of a file that holds a report.
use Rattle.std.proofs.Common.{◌≡◌, ℕ, ◌+◌, ◌<◌, ◌^◌, ◌++◌, ◌∷◌, List, [], map, length, get_or, refl, sym, ap}
use Rattle.std.proofs.Common.{◌∙◌, subst, arith, append_assoc, codes, decimal, length-append, Option, Some}
use Rattle.std.specs.List.{concat}
use Rattle.std.proofs.lemmas.Fmt.{decimal_is_IsNumeral_wide}
use Rattle.std.proofs.lemmas.List.{length-map}
use Rattle.std.proofs.lemmas.Str.Parse.{digit_at}
use Rattle.bag_text.specs.Code.{number}
use Rattle.bag_faults.proofs.Codes.{small_number}
use Rattle.bag_faults.proofs.Spaces.{HasNoSpace, field_clean, number_clean, same_front}
use Rattle.bag_faults.specs.FaultLine.{fault_line, field}
use Rattle.bag_faults.specs.Part.{Part}
use Rattle.bag_faults.specs.declared.fault.Fault.{Fault}
use Rattle.bag_walk.specs.Ending.{written}
use Rattle.bag_reports.specs.Faults.{AreAfter}
use Rattle.bag_reports.specs.Head.{AreKeys, IsUnchecked, head_of, unchecked}
use Rattle.bag_reports.specs.Input.{AreLines, ended_lines}
use Rattle.bag_reports.specs.declared.done_line.Subject.{Subject}
use Rattle.bag_reports.proofs.KeyLines.{key_no_end, visible_clean}
use Rattle.bag_reports.proofs.Other.{done_front, no_space}
use Rattle.bag_reports.proofs.Plain.{fault_plain, no_end}
use Rattle.bag_reports.proofs.Words.{few_digits}

-- the lines of keys and those of faults
abbrev pub all_lines : List (List ℕ) → List Fault → List (List ℕ)
all_lines keys faults = map unchecked keys ++ map fault_line faults

ended_joined : (xs ys : List (List ℕ)) → ended_lines (xs ++ ys) ≡ ended_lines xs ++ ended_lines ys
ended_joined [] ys = refl
ended_joined (x ∷ xs) ys =
    ap (λ rest. x ++ 10 ∷ rest) (ended_joined xs ys) ∙ sym (append_assoc x (10 ∷ ended_lines xs) (ended_lines ys))

keys_ended : (keys : List (List ℕ)) → ended_lines (map unchecked keys) ≡ head_of keys
keys_ended [] = refl
keys_ended (key ∷ keys) = ap (λ rest. unchecked key ++ 10 ∷ rest) (keys_ended keys)

faults_ended : (faults : List Fault) → ended_lines (map fault_line faults) ≡ concat (written faults)
faults_ended [] = refl
faults_ended (f ∷ faults) =
    ap (λ rest. fault_line f ++ 10 ∷ rest) (faults_ended faults)
    ∙ sym (append_assoc (fault_line f) (codes "\n") (concat (written faults)))

pub all_ended : (keys : List (List ℕ)) (faults : List Fault)
    → ended_lines (all_lines keys faults) ≡ head_of keys ++ concat (written faults)
all_ended keys faults =
    ended_joined (map unchecked keys) (map fault_line faults)
    ∙ ap (λ front. front ++ ended_lines (map fault_line faults)) (keys_ended keys)
    ∙ ap (λ rest. head_of keys ++ rest) (faults_ended faults)

fault_lines : (last : Option Fault) (faults : List Fault) → AreAfter last faults → AreLines (map fault_line faults)
fault_lines last [] after = tt
fault_lines last (f ∷ faults) after =
    (no_end (fault_line f) (fault_plain f after.0), fault_lines (Some f) faults after.2)

pub are_lines : (last : Option Fault) (keys : List (List ℕ)) (faults : List Fault) → AreKeys keys → AreAfter last faults
    → AreLines (all_lines keys faults)
are_lines last [] faults are after = fault_lines last faults after
are_lines last (key ∷ keys) faults are after = (key_no_end key are.0, are_lines last keys faults are.1 after)

pub lines_count : (keys : List (List ℕ)) (faults : List Fault)
    → length (all_lines keys faults) ≡ length keys + length faults
lines_count keys faults =
    length-append (map unchecked keys) (map fault_line faults)
    ∙ ap (λ n. n + length (map fault_line faults)) (length-map keys unchecked)
    ∙ ap (λ n. length keys + n) (length-map faults fault_line)

no_number : (n : ℕ) → n < 2 ^ 128 → decimal n ≡ codes "unchecked" → ⊥
no_number n small same =
    let long = ap length same in
    let first = ap (λ l. get_or l 0 0) same in
    let inside : 0 < length (decimal n) = omega arith in
    let range = digit_at (decimal n) 0 (decimal_is_IsNumeral_wide n (few_digits n small)).0.1 inside in
    omega arith

-- no fault's line says of a key that it isn't checked
pub fault_says_none : (f : Fault) → IsUnchecked (fault_line f) → ⊥
fault_says_none f is =
    let small = small_number f.code in
    let cut = same_front (decimal (number f.code)) (codes "unchecked") _ is.0 (number_clean f.code)
    (no_space (codes "unchecked") refl) is.2 in
    no_number (number f.code) (omega arith) cut.0

has_space : (rest : List ℕ) → HasNoSpace (codes "part " ++ rest) → ⊥
has_space rest clean = clean 4 0 (omega arith) refl

-- nor does a closing line, which has more spaces
pub closing_says_none : (subject : Subject) (part : Part) (n : ℕ) → IsUnchecked (done_front subject part n) → ⊥
closing_says_none subject part n is =
    let cut = same_front (field subject.name) (codes "unchecked") _ is.0 (field_clean subject.name)
    (no_space (codes "unchecked") refl) is.2 in
    has_space _ (subst HasNoSpace (sym cut.1) (visible_clean is.0 is.1))
