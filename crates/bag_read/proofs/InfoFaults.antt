-- The faults of numbered lines are those of the file, and no others.
use Rattle.bag_read.proofs.Common.{Bool, List, Some, [], add-zero, arith, false, inl, inr, refl, suc, take, true, ℕ}
use Rattle.bag_read.proofs.Common.{◌+◌, ◌-◌, ◌||◌, ◌∷◌, ◌≡◌, ◌⊎◌, or-false, or_assoc, none-some, enumerate_from}
use Rattle.bag_read.proofs.Common.{list_any, slice_get, nat_cmp, on, joined, nothing_listed, one_listed, only_from_some}
use Rattle.bag_read.proofs.Common.{only_listed, same_members, lines_of_file, IsListOf, IsNoText, IsText}
use Rattle.bag_read.proofs.Common.{begins_with_blank, is_blank_line, Rules, DoesNotSplit, IsElement, IsInfoFault}
use Rattle.bag_read.proofs.Common.{begins_element, is_continuation, split, fault_at, faults, wrong, AreFaults}
use Rattle.bag_read.proofs.Common.{line_fault_cmp, not_utf8, LineFault}
use Rattle.bag_read.proofs.FaultOrder.{is_fault, line_below}
use Rattle.bag_read.proofs.Utf8.{no_line}

module _ (rules : Rules) where
  -- why a line is wrong, by whether an earlier line should have begun an element
  abbrev Why : Bool → List ℕ → Type 0
  Why begun line = DoesNotSplit rules line ⊎ ((is_continuation line ≡ true) × (begun ≡ false))

  fault_read : (begun : Bool) (n : ℕ) (line : List ℕ) (f : LineFault) → fault_at rules begun n line ≡ Some f
      → (f ≡ wrong n) × Why begun line
  fault_read begun n line f h = grind (arith, is_blank_line, begins_with_blank, split)

  fault_made : (begun : Bool) (n : ℕ) (line : List ℕ) (f : LineFault) → f ≡ wrong n → Why begun line
      → fault_at rules begun n line ≡ Some f
  fault_made begun n line f same why = grind (arith, is_blank_line, begins_with_blank)

  -- a fault of lines that are counted from n
  abbrev WrongFrom : Bool → ℕ → List (List ℕ) → LineFault → Type 0
  WrongFrom begun n all f =
      (m : ℕ) × (line : List ℕ) × (slice_get all m ≡ Some line) × (f ≡ wrong (n + m))
      × Why (begun || list_any begins_element (take m all)) line

  faults_from : (begun : Bool) (n : ℕ) (all : List (List ℕ))
      → IsListOf line_fault_cmp (WrongFrom begun n all) (faults rules begun (enumerate_from n all))
  faults_from begun n [] = nothing_listed line_fault_cmp (WrongFrom begun n []) (λ f h. none-some h.1 h.2)
  faults_from begun n (line ∷ more) =
      same_members line_fault_cmp Either (WrongFrom begun n (line ∷ more)) _ to from
      (joined line_fault_cmp Head (WrongFrom (begun || begins_element line) (n + 1) more) _ _
      (only_listed line_fault_cmp Head (fault_at rules begun n line)
      (only_from_some Head (fault_at rules begun n line) (λ f h. h) (λ f h. h)))
      (faults_from (begun || begins_element line) (n + 1) more)
      (λ f g h k. let low = (fault_read begun n line f h).0 in line_below f g (grind (arith, k.3))))
    where
      Head : LineFault → Type 0
      Head f = fault_at rules begun n line ≡ Some f

      Either : LineFault → Type 0
      Either f = Head f ⊎ WrongFrom (begun || begins_element line) (n + 1) more f

      to : (f : LineFault) → Either f → WrongFrom begun n (line ∷ more) f
      to f (inl h) = let is = fault_read begun n line f h in (0, line, refl, rw add-zero is.0, rw or-false is.1)
      to f (inr (m, l, at, same, why)) = (suc m, l, at, grind arith, rw or_assoc at why)

      from : (f : LineFault) → WrongFrom begun n (line ∷ more) f → Either f
      from f is = grind (arith, fault_made, or-false, or_assoc)

  module _ (bytes : List ℕ) (is_utf8 : IsText bytes) where
    abbrev all : List (List ℕ)
    all = lines_of_file bytes

    fault_is : (f : LineFault) → WrongFrom false 1 all f → IsInfoFault rules bytes f
    fault_is f (m, line, at, same, why) =
        let place : m ≡ 1 + m - 1 =
        omega arith in rw same (line, refl, (omega arith, rw (← place) at), rw (← place) why)

    fault_from : (f : LineFault) → IsInfoFault rules bytes f → WrongFrom false 1 all f
    fault_from f h = grind (arith, is_fault)

    -- the faults of a file that is UTF-8
    pub faults_of_text : AreFaults (IsInfoFault rules bytes) (faults rules false (enumerate_from 1 all))
    faults_of_text =
        same_members line_fault_cmp (WrongFrom false 1 all) (IsInfoFault rules bytes) _ fault_is fault_from
        (faults_from false 1 all)

  module _ (bytes : List ℕ) (other : IsNoText bytes) where
    -- a file that isn't UTF-8 has no element and one fault
    pub elements_of_no_text : IsListOf (on (λ e. e.line) nat_cmp) (IsElement rules (lines_of_file bytes)) []
    elements_of_no_text =
        nothing_listed (on (λ e. e.line) nat_cmp) (IsElement rules (lines_of_file bytes)) (λ e h.
        no_line bytes other e.line h.0 h.2)

    only : (f : LineFault) → IsInfoFault rules bytes f → f ≡ not_utf8
    only f h = grind (arith, is_fault, no_line bytes other)

    pub faults_of_no_text : AreFaults (IsInfoFault rules bytes) (not_utf8 ∷ [])
    faults_of_no_text = one_listed line_fault_cmp (IsInfoFault rules bytes) not_utf8 (refl, refl, other) only
