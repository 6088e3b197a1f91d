-- Faults that are still to come of a report.
use Rattle.std.proofs.Common.{◌≡◌, ℕ, ◌++◌, ◌∷◌, List, [], Option, Some, Bool, true, refl, sym, ap, subst, ◌∙◌}
use Rattle.std.proofs.Common.{append_assoc, append-nil, codes}
use Rattle.std.specs.List.{concat}
use Rattle.bag_faults.proofs.Lines.{lines_tell_faults_apart}
use Rattle.bag_faults.specs.FaultLine.{fault_line}
use Rattle.bag_faults.specs.LineOf.{IsLineOf}
use Rattle.bag_faults.specs.declared.fault.Fault.{Fault}
use Rattle.bag_walk.specs.Ending.{written, written_line}
use Rattle.bag_reports.specs.Faults.{AreAfter, AreAhead, IsAfter, IsOther, last_of}
use Rattle.bag_reports.specs.Input.{HasNoEnd, HoldsAhead}
use Rattle.bag_reports.specs.Reports.{ReportsState}
use Rattle.bag_reports.proofs.Plain.{fault_plain, no_end}

-- what the next line is, where one stands ahead
abbrev pub ReadsFirst : ReportsState → List ℕ → ReportsState → List ℕ → List ℕ → Bool → Type 0
ReadsFirst now passed new passed' line has_end = (front rest : List ℕ) → HasNoEnd front
    → HoldsAhead now passed (front ++ 10 ∷ rest)
    → (has_end ≡ true) × (line ≡ front) × HoldsAhead new passed' rest

-- the next line is that of the first fault that is to come, or the line after them
abbrev pub IsNext : ReportsState → List ℕ → List ℕ → List Fault → List ℕ → List ℕ → Type 0
IsNext new passed line [] front rest = (line ≡ front) × HoldsAhead new passed rest
IsNext new passed line (f ∷ more) front rest = IsLineOf line f × AreAhead new passed more front rest

pub next_is : (now new : ReportsState) (passed passed' line : List ℕ) (has_end : Bool) (last : Option Fault)
    (later : List Fault) (front rest : List ℕ)
    → ReadsFirst now passed new passed' line has_end → IsOther front → AreAfter last later
    → AreAhead now passed later front rest → (has_end ≡ true) × IsNext new passed' line later front rest
next_is now new passed passed' line has_end last [] front rest reads other after ahead =
    let first = reads front rest other.plain ahead in (first.0, (first.1, first.2))
next_is now new passed passed' line has_end last (f ∷ more) front rest reads other after ahead =
    let behind = concat (written more) ++ (front ++ 10 ∷ rest) in
    let joined : concat (written (f ∷ more)) ++ (front ++ 10 ∷ rest) ≡ fault_line f ++ 10 ∷ behind =
    append_assoc (written_line f) (concat (written more)) (front ++ 10 ∷ rest)
    ∙ append_assoc (fault_line f) (codes "\n") behind in
    let first = reads (fault_line f) behind (no_end (fault_line f) (fault_plain f after.0))
    (subst (λ text. HoldsAhead now passed text) joined ahead) in
    (first.0, (record { fault = after.0; text = sym first.1 }, first.2))

-- those after the first ones
pub after_first : (last : Option Fault) (xs ys : List Fault) → AreAfter last (xs ++ ys) → AreAfter (last_of last xs) ys
after_first last [] ys p = p
after_first last (x ∷ xs) ys p = after_first (Some x) xs ys p.2

-- and the first ones
pub first_after : (last : Option Fault) (xs ys : List Fault) → AreAfter last (xs ++ ys) → AreAfter last xs
first_after last [] ys p = tt
first_after last (x ∷ xs) ys p = (p.0, p.1, first_after (Some x) xs ys p.2)

-- Whatever faults and line were ahead, these faults are the first of them, and the others are still ahead.
abbrev pub GoesOn : ReportsState → ReportsState → List ℕ → List ℕ → Option Fault → List Fault → Type 0
GoesOn start now before passed last found = (faults : List Fault) (front rest : List ℕ) → IsOther front
    → AreAhead start before faults front rest → AreAfter last faults
    → (later : List Fault) × (faults ≡ found ++ later) × AreAhead now passed later front rest

pub goes_on_at_first : (start : ReportsState) (before : List ℕ) (last : Option Fault)
    → GoesOn start start before before last []
goes_on_at_first start before last faults front rest other ahead after = (faults, refl, ahead)

same_fault : (line : List ℕ) (f g : Fault) → IsLineOf line f → IsLineOf line g → f ≡ g
same_fault line f g p q = lines_tell_faults_apart f g p.fault q.fault (p.text ∙ sym q.text)

goes_on_by : (new : ReportsState) (passed' line : List ℕ) (faults found later : List Fault) (f : Fault)
    (front rest : List ℕ) → IsLineOf line f → IsOther front → faults ≡ found ++ later
    → IsNext new passed' line later front rest
    → (more : List Fault) × (faults ≡ (found ++ f ∷ []) ++ more) × AreAhead new passed' more front rest
goes_on_by new passed' line faults found [] f front rest is other cut next =
    absurd (other.other f (subst (λ t. IsLineOf t f) next.0 is))
goes_on_by new passed' line faults found (g ∷ more) f front rest is other cut next =
    let same = same_fault line g f next.0 is in
    (more, cut ∙ ap (λ x. found ++ x ∷ more) same ∙ sym (append_assoc found (f ∷ []) more), next.1)

-- one fault more was found
pub goes_on_more : (start now new : ReportsState) (before passed passed' line : List ℕ) (has_end : Bool)
    (last : Option Fault) (found : List Fault) (f : Fault)
    → GoesOn start now before passed last found → ReadsFirst now passed new passed' line has_end → IsLineOf line f
    → GoesOn start new before passed' last (found ++ f ∷ [])
goes_on_more start now new before passed passed' line has_end last found f goes reads is faults front rest other ahead
    after =
    let here = goes faults front rest other ahead after in
    let later = after_first last found here.0 (subst (λ l. AreAfter last l) here.1 after) in
    let next = next_is now new passed passed' line has_end (last_of last found) here.0 front rest reads other later here.2
    in goes_on_by new passed' line faults found here.0 f front rest is other here.1 next.1

-- each line that is ahead has an end
pub has_end_ahead : (start now new : ReportsState) (before passed passed' line : List ℕ) (has_end : Bool)
    (last : Option Fault) (found faults : List Fault) (front rest : List ℕ)
    → GoesOn start now before passed last found → ReadsFirst now passed new passed' line has_end → IsOther front
    → AreAhead start before faults front rest → AreAfter last faults → has_end ≡ true
has_end_ahead start now new before passed passed' line has_end last found faults front rest goes reads other ahead
    after =
    let here = goes faults front rest other ahead after in
    let later = after_first last found here.0 (subst (λ l. AreAfter last l) here.1 after) in
    (next_is now new passed passed' line has_end (last_of last found) here.0 front rest reads other later here.2).0

found_all : (new : ReportsState) (passed' line : List ℕ) (faults found later : List Fault) (front rest : List ℕ)
    → ((f : Fault) → ¬ (IsLineOf line f)) → faults ≡ found ++ later → IsNext new passed' line later front rest
    → (found ≡ faults) × (line ≡ front) × HoldsAhead new passed' rest
found_all new passed' line faults found [] front rest none cut next =
    (sym (append-nil found) ∙ sym cut, next.0, next.1)
found_all new passed' line faults found (f ∷ more) front rest none cut next = absurd (none f next.0)

-- the first line that is no fault's is the one after all of them
pub found_whole : (start now new : ReportsState) (before passed passed' line : List ℕ) (has_end : Bool)
    (last : Option Fault) (found faults : List Fault) (front rest : List ℕ)
    → GoesOn start now before passed last found → ReadsFirst now passed new passed' line has_end
    → ((f : Fault) → ¬ (IsLineOf line f)) → IsOther front
    → AreAhead start before faults front rest → AreAfter last faults
    → (found ≡ faults) × (line ≡ front) × HoldsAhead new passed' rest
found_whole start now new before passed passed' line has_end last found faults front rest goes reads none other ahead
    after =
    let here = goes faults front rest other ahead after in
    let later = after_first last found here.0 (subst (λ l. AreAfter last l) here.1 after) in
    let next = next_is now new passed passed' line has_end (last_of last found) here.0 front rest reads other later here.2
    in found_all new passed' line faults found here.0 front rest none here.1 next.1

-- a fault that was found stands after those before it
pub found_after : (start now new : ReportsState) (before passed passed' line : List ℕ) (has_end : Bool)
    (last : Option Fault) (found faults : List Fault) (f : Fault) (front rest : List ℕ)
    → GoesOn start now before passed last found → ReadsFirst now passed new passed' line has_end → IsLineOf line f
    → IsOther front → AreAhead start before faults front rest → AreAfter last faults
    → IsAfter (last_of last found) f
found_after start now new before passed passed' line has_end last found faults f front rest goes reads is other ahead
    after =
    let here = goes_on_more start now new before passed passed' line has_end last found f goes reads is
    faults front rest other ahead after in
    let joined = append_assoc found (f ∷ []) here.0 in
    (after_first last found (f ∷ here.0) (subst (λ l. AreAfter last l) (here.1 ∙ joined) after)).1
