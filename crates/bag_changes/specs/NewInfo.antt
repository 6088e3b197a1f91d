-- The bag-info.txt of a renewed bag.
use Rattle.std.specs.Prelude.{ℕ, ◌≡◌, All, List, Option, None, Some, false, map, true}
use Rattle.std.specs.List.{list_any}
use Rattle.bag_read.specs.declared.info.Element.{Element}
use Rattle.bag_facts.specs.Facts.{rules_in}
use Rattle.bag_stages.specs.MetadataStage.{bag_info_txt}
use Rattle.bag_stages.specs.Payload.{oxum}
use Rattle.bag_read.specs.Oxum.{oxum_text}
use Rattle.bag_stages.specs.TagFiles.{lines_in}
use Rattle.bag_tags.specs.Element.{AreTexts, NewElement}
use Rattle.bag_tags.specs.OnLines.{is_bad_long_element, text_on_lines}
use Rattle.bag_tree.specs.Bag.{Bag}
use Rattle.bag_renewed.specs.Elements.{elements_on, renewed_elements}
use Rattle.bag_renewed.specs.Renewed.{writes_info}
use Rattle.bag_changes.specs.declared.fault.RenewFault.{RenewFault}
use Rattle.bag_changes.specs.declared.fault.RenewFault.TheVariants.{BadValue, Memory}
use Rattle.bag_renewed.specs.declared.renewal.Renewal.{Renewal}

-- the labels and the values of elements that were read
abbrev pub labels_and_values : List Element → List NewElement
labels_and_values elements = map {B = NewElement} (λ e. (e.label, e.value)) elements

-- elements that can be written
pub record CanBeWritten (elements : List NewElement) : Type 0 where
  pub texts : All AreTexts elements
  pub good : list_any is_bad_long_element elements ≡ false

-- the elements of the renewed bag, where the bag had these
abbrev pub elements_from : Bag → Renewal → List NewElement → List NewElement
elements_from bag renewal old = renewed_elements renewal.elements (oxum_text (oxum bag)) old

-- and where these were the lines of its bag-info.txt
abbrev pub elements_after : Bag → Renewal → List (List ℕ) → List NewElement
elements_after bag renewal lines = elements_from bag renewal (elements_on (rules_in bag) lines)

-- what is written then: the text of the new elements, which can be written; nothing where the
-- bag-info.txt that is there is kept
abbrev pub IsInfoAfter : Bag → Renewal → List (List ℕ) → Option (List ℕ) → Type 0
IsInfoAfter bag renewal lines None = writes_info bag renewal ≡ false
IsInfoAfter bag renewal lines (Some text) =
    (writes_info bag renewal ≡ true) × CanBeWritten (elements_after bag renewal lines)
    × (text ≡ text_on_lines (elements_after bag renewal lines))

-- bag-info.txt is kept, or the one that is to be written of the bag can be
abbrev pub CanWriteInfo : Bag → Renewal → Type 0
CanWriteInfo bag renewal =
    writes_info bag renewal ≡ true
    → list_any is_bad_long_element (elements_after bag renewal (lines_in bag bag_info_txt)) ≡ false

-- and what is written of the bag
abbrev pub IsNewInfo : Bag → Renewal → Option (List ℕ) → Type 0
IsNewInfo bag renewal info = IsInfoAfter bag renewal (lines_in bag bag_info_txt) info

-- elements aren't written, for one that can't be; or memory ran out
abbrev pub AreRefused : List NewElement → RenewFault → Type 0
AreRefused elements BadValue = list_any is_bad_long_element elements ≡ true
AreRefused elements Memory = Unit {0}
AreRefused elements fault = ⊥

-- so it is of a bag-info.txt that is to be written, where these were the lines of the old one
abbrev pub IsInfoRefusal : Bag → Renewal → List (List ℕ) → RenewFault → Type 0
IsInfoRefusal bag renewal lines fault =
    (writes_info bag renewal ≡ true) × AreRefused (elements_after bag renewal lines) fault
