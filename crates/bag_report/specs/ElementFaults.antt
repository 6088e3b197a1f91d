-- The faults of the elements of bag-info.txt, rule by rule (BagIt Profiles Specification,
-- Bag-Info).
use Rattle.std.specs.Prelude.{ℕ, Bool, true, not, List, [], ◌∷◌, ◌++◌, None, bytes_eq, map, filter}
use Rattle.std.specs.Prelude.{drop, if◌then◌else◌}
use Rattle.std.specs.Borrow.{Bor}
use Rattle.std.specs.List.{flat_map, list_any}
use Rattle.bag_text.specs.Text.{same_label}
use Rattle.bag_text.specs.declared.code.Code.{Code}
use Rattle.bag_text.specs.declared.code.Code.TheVariants.{ProfileIdentifier, LabelRequired}
use Rattle.bag_text.specs.declared.code.Code.TheVariants.{LabelRepeated, ValueNotAllowed}
use Rattle.bag_read.specs.declared.info.Element.{Element}
use Rattle.bag_faults.specs.FaultAt.{of_line}
use Rattle.bag_faults.specs.declared.fault.Fault.{Fault}
use Rattle.bag_profile.specs.declared.label.LabelRule.{LabelRule}
use Rattle.bag_stages.specs.MetadataStage.{pair, bag_info_txt}
use Rattle.bag_report.specs.ConformanceStage.{identifier_label}

-- elements that are lent
abbrev pub lent : List (Bor Element) → List Element
lent elements = map (λ e. e.now) elements

-- the elements of a label, whatever its case, in their order
abbrev pub labelled : List ℕ → List Element → List Element
labelled label elements = filter (λ e. same_label e.label label) elements

-- a fault in the file
abbrev pub in_info : Code → ℕ → List ℕ → Fault
in_info code line detail = of_line code bag_info_txt None line detail

abbrev pub has_value : List ℕ → Element → Bool
has_value value e = bytes_eq e.value value

-- none of the elements that may name the profile does
abbrev pub identifier_faults : List ℕ → List Element → List Fault
identifier_faults identifier found =
    if list_any (has_value identifier) found then []
    else in_info ProfileIdentifier 0 identifier ∷ []

-- whether a value is among these; all are where there is none
abbrev pub allows : List (List ℕ) → List ℕ → Bool
allows [] value = true
allows (first ∷ values) value = list_any (bytes_eq value) (first ∷ values)

-- an element that stands there again
abbrev pub later_fault : List ℕ → Element → Fault
later_fault label e = in_info LabelRepeated e.line label

-- a rule, and the elements of its label in line order
module _ (rule : LabelRule) where
  abbrev pub required_faults : List Element → List Fault
  required_faults [] = if rule.required then in_info LabelRequired 0 rule.label ∷ [] else []
  required_faults (e ∷ later) = []

  abbrev pub repeated_faults : List Element → List Fault
  repeated_faults found =
      if rule.repeatable then [] else map (later_fault rule.label) (drop 1 found)

  abbrev pub has_other : Element → Bool
  has_other e = not (allows rule.values e.value)

  abbrev pub value_fault : Element → Fault
  value_fault e = in_info ValueNotAllowed e.line (pair rule.label e.value)

  abbrev pub value_faults : List Element → List Fault
  value_faults found = map value_fault (filter has_other found)

  abbrev pub rule_faults : List Element → List Fault
  rule_faults found = required_faults found ++ repeated_faults found ++ value_faults found

-- the rules, and all elements
abbrev pub rules_faults : List Element → List LabelRule → List Fault
rules_faults elements rules =
    flat_map (λ rule. rule_faults rule (labelled rule.label elements)) rules

abbrev pub element_faults : List ℕ → List LabelRule → List Element → List Fault
element_faults identifier rules elements =
    identifier_faults identifier (labelled identifier_label elements) ++ rules_faults elements rules
