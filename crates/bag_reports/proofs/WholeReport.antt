-- A whole report, read after the lines at its head.
use Rattle.std.proofs.Common.{◌≡◌, ℕ, ◌+◌, ◌++◌, ◌∷◌, List, [], Option, Some, Bool, true, refl, sym, ap, subst, ◌∙◌}
use Rattle.std.proofs.Common.{append_assoc, arith, codes, length, ◌⊎◌, inl, inr}
use Rattle.std.specs.List.{concat}
use Rattle.bag_faults.proofs.Lines.{lines_tell_faults_apart}
use Rattle.bag_faults.specs.FaultLine.{fault_line}
use Rattle.bag_faults.specs.LineOf.{IsLineOf}
use Rattle.bag_faults.specs.declared.fault.Fault.{Fault}
use Rattle.bag_tree.specs.Out.{IsCut, OutState}
use Rattle.bag_walk.specs.Ending.{written, written_line}
use Rattle.bag_reports.specs.Faults.{AreAfter, AreAhead, IsAfter, IsOther, LeavesLines}
use Rattle.bag_reports.specs.Head.{AreKeys, IsUnchecked, head_of}
use Rattle.bag_reports.specs.Input.{HasNoEnd, HoldsAhead, MayRefuse}
use Rattle.bag_reports.specs.Reports.{ReportsState}
use Rattle.bag_reports.specs.declared.refusal.Cause.{Cause}
use Rattle.bag_reports.specs.declared.refusal.Cause.TheVariants.{OutOfOrder, Output}
use Rattle.bag_reports.proofs.Coming.{IsNext}
use Rattle.bag_reports.proofs.Faults.{writes_none}
use Rattle.bag_reports.proofs.FileLines.{fault_says_none}
use Rattle.bag_reports.proofs.LeftLines.{leaves_cut, leaves_none}
use Rattle.bag_reports.proofs.Plain.{fault_plain, no_end}

-- what the first line is that says of no key that it isn't checked
abbrev pub ReadsPast : ReportsState → List ℕ → ReportsState → List ℕ → List ℕ → Bool → Type 0
ReadsPast old passed new passed' line has_end = (keys : List (List ℕ)) (front rest : List ℕ) → AreKeys keys
    → HasNoEnd front → ¬ (IsUnchecked front) → HoldsAhead old passed (head_of keys ++ (front ++ 10 ∷ rest))
    → (has_end ≡ true) × (line ≡ front) × HoldsAhead new passed' rest

-- it is that of the first fault, or the line after them
pub first_is : (old new : ReportsState) (passed passed' line : List ℕ) (has_end : Bool) (last : Option Fault)
    (keys : List (List ℕ)) (faults : List Fault) (front rest : List ℕ)
    → ReadsPast old passed new passed' line has_end → IsOther front → ¬ (IsUnchecked front) → AreKeys keys
    → AreAfter last faults
    → HoldsAhead old passed (head_of keys ++ (concat (written faults) ++ (front ++ 10 ∷ rest)))
    → (has_end ≡ true) × IsNext new passed' line faults front rest
first_is old new passed passed' line has_end last keys [] front rest reads other none are after ahead =
    let first = reads keys front rest are other.plain none ahead in (first.0, (first.1, first.2))
first_is old new passed passed' line has_end last keys (f ∷ more) front rest reads other none are after ahead =
    let behind = concat (written more) ++ (front ++ 10 ∷ rest) in
    let joined : concat (written (f ∷ more)) ++ (front ++ 10 ∷ rest) ≡ fault_line f ++ 10 ∷ behind =
    append_assoc (written_line f) (concat (written more)) (front ++ 10 ∷ rest)
    ∙ append_assoc (fault_line f) (codes "\n") behind in
    let first = reads keys (fault_line f) behind are (no_end (fault_line f) (fault_plain f after.0)) (fault_says_none f)
    (subst (λ text. HoldsAhead old passed (head_of keys ++ text)) joined ahead) in
    (first.0, (record { fault = after.0; text = sym first.1 }, first.2))

-- where it is no fault's, there are none
pub none_first : (new : ReportsState) (passed' line : List ℕ) (faults : List Fault) (front rest : List ℕ)
    → ((f : Fault) → ¬ (IsLineOf line f)) → IsNext new passed' line faults front rest
    → (faults ≡ []) × (line ≡ front) × HoldsAhead new passed' rest
none_first new passed' line [] front rest none next = (refl, next.0, next.1)
none_first new passed' line (f ∷ more) front rest none next = absurd (none f next.0)

-- and where it is a fault's, that is the first
pub one_first : (new : ReportsState) (passed' line : List ℕ) (faults : List Fault) (f : Fault) (front rest : List ℕ)
    → IsOther front → IsLineOf line f → IsNext new passed' line faults front rest
    → (more : List Fault) × (faults ≡ f ∷ more) × AreAhead new passed' more front rest
one_first new passed' line [] f front rest other is next =
    absurd (other.other f (subst (λ t. IsLineOf t f) next.0 is))
one_first new passed' line (g ∷ more) f front rest other is next =
    let same : g ≡ f = lines_tell_faults_apart g f next.0.fault is.fault (next.0.text ∙ sym is.text) in
    (more, ap (λ h. h ∷ more) same, next.1)

-- what was read of it
pub read_on : (start mid new line ended after : List ℕ) (keys : List (List ℕ)) (faults : List Fault) (f : Fault)
    → IsLineOf line f → ended ≡ line ++ codes "\n" → mid ≡ start ++ (head_of keys ++ (line ++ codes "\n"))
    → new ≡ mid ++ (concat (written faults) ++ after)
    → new ≡ start ++ (head_of keys ++ (concat (written (f ∷ faults)) ++ after))
read_on start mid new line ended after keys faults f is ends first next =
    let head = head_of keys in
    let lines = concat (written faults) in
    next ∙ ap (λ t. t ++ (lines ++ after)) first
    ∙ append_assoc start (head ++ (line ++ codes "\n")) (lines ++ after)
    ∙ ap (λ t. start ++ t) (append_assoc head (line ++ codes "\n") (lines ++ after))
    ∙ ap (λ t. start ++ (head ++ ((t ++ codes "\n") ++ (lines ++ after)))) (sym is.text)
    ∙ ap (λ t. start ++ (head ++ t)) (sym (append_assoc (written_line f) lines after))

-- why the first line isn't written: it stands before the last one, or the output refused
abbrev pub IsNotFirst : Cause → Option Fault → OutState → OutState → Fault → List ℕ → Type 0
IsNotFirst cause last before after f ended =
    ((cause ≡ OutOfOrder) × ¬ (IsAfter last f) × (after ≡ before))
    ⊎ ((cause ≡ Output) × IsAfter last f × (after.has_refused ≡ true)
    × IsCut before.taken after.taken ended)

pub not_first : (cause : Cause) (last : Option Fault) (before after : OutState) (f : Fault) (line ended : List ℕ)
    → IsLineOf line f → ended ≡ line ++ codes "\n" → IsNotFirst cause last before after f ended
    → LeavesLines cause last before after
not_first cause last before after f line ended is ends (inl (order, not, same)) =
    subst (λ out. LeavesLines cause last before out) (sym same)
    (leaves_none cause last before (λ e. let two : OutOfOrder ≡ Output = sym order ∙ e in cc))
not_first cause last before after f line ended is ends (inr (output, above, refused, cut)) =
    leaves_cut cause last last before before after 0 [] f line ended output (writes_none last before) is above ends cut

pub refused_first : (cause : Cause) (reports : ReportsState) (last : Option Fault) (before after : OutState) (f : Fault)
    (ended : List ℕ) → IsAfter last f → IsNotFirst cause last before after f ended → MayRefuse cause reports after
refused_first cause reports last before after f ended above (inl (order, not, same)) = absurd (not above)
refused_first cause reports last before after f ended above (inr (output, is, refused, cut)) =
    subst (λ c. MayRefuse c reports after) (sym output) refused

-- the faults after the first one
pub record IsRest (last : Option Fault) (new : ReportsState) (passed' : List ℕ) (faults : List Fault) (f : Fault)
    (front rest : List ℕ) : Type 0 where
  pub more : List Fault
  pub cut : faults ≡ f ∷ more
  pub ahead : AreAhead new passed' more front rest
  pub above : IsAfter last f
  pub after : AreAfter (Some f) more
  pub count : length faults ≡ length more + 1

pub rest_is : (old new : ReportsState) (passed passed' line : List ℕ) (has_end : Bool) (last : Option Fault)
    (keys : List (List ℕ)) (faults : List Fault) (front rest : List ℕ) (f : Fault)
    → ReadsPast old passed new passed' line has_end → IsOther front → ¬ (IsUnchecked front) → AreKeys keys
    → AreAfter last faults
    → HoldsAhead old passed (head_of keys ++ (concat (written faults) ++ (front ++ 10 ∷ rest)))
    → IsLineOf line f → IsRest last new passed' faults f front rest
rest_is old new passed passed' line has_end last keys faults front rest f reads other none are after ahead is =
    let first = first_is old new passed passed' line has_end last keys faults front rest reads other none are after ahead in
    let later = one_first new passed' line faults f front rest other is first.1 in
    let next = subst (λ l. AreAfter last l) later.1 after in
    let long = ap length later.1 in
    record {
      more = later.0;
      cut = later.1;
      ahead = later.2;
      above = next.1;
      after = next.2;
      count = omega arith;
    }
