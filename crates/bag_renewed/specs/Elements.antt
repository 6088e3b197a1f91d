-- The elements of bag-info.txt after a renewal (RFC 8493, 2.2.2).
use Rattle.std.specs.Prelude.{ℕ, ◌+◌, ◌&&◌, Bool, true, false, not, List, [], ◌∷◌, ◌++◌, bytes_eq}
use Rattle.std.specs.Prelude.{drop, filter, length, map, take_while, if◌then◌else◌}
use Rattle.std.specs.List.{enumerate_from, list_any}
use Rattle.bag_text.specs.Text.{same_label}
use Rattle.bag_text.specs.declared.rules.Rules.{Rules}
use Rattle.bag_read.specs.InfoReader.{elements}
use Rattle.bag_facts.specs.Facts.{rules_in}
use Rattle.bag_tree.specs.Bag.{Bag}
use Rattle.bag_tags.specs.Element.{NewElement}
use Rattle.bag_stages.specs.MetadataStage.{bag_info_txt, oxum_label}
use Rattle.bag_stages.specs.TagFiles.{lines_in}
use Rattle.bag_renewed.specs.declared.renewal.ElementChanges.{ElementChanges}

-- the elements on the lines of a bag-info.txt, in their order
abbrev pub elements_on : Rules → List (List ℕ) → List NewElement
elements_on rules lines =
    map {B = NewElement} (λ e. (e.label, e.value)) (elements rules (enumerate_from 1 lines))

-- the elements that a bag has
abbrev pub elements_of : Bag → List NewElement
elements_of bag = elements_on (rules_in bag) (lines_in bag bag_info_txt)

-- labels are compared ignoring ASCII case
abbrev pub has_label : List ℕ → NewElement → Bool
has_label label element = same_label element.0 label

abbrev pub some_has : List NewElement → List ℕ → Bool
some_has elements label = list_any (has_label label) elements

-- an element with this label and just this value
abbrev pub is_same : NewElement → NewElement → Bool
is_same one other = same_label other.0 one.0 && bytes_eq other.1 one.1

-- some element is to have no elements of this label
abbrev pub goes : ElementChanges → List ℕ → Bool
goes changes label = list_any (λ one. same_label one label) changes.unset

-- What stands in the place of an element: where some are set with its label, they all in the place
-- of the first one with that label, and nothing in that of the others; else nothing where its label
-- is unset, and else the element.
abbrev pub in_place_of : ElementChanges → List NewElement → NewElement → List NewElement
in_place_of changes before element =
    if some_has changes.set element.0
    then (if some_has before element.0 then [] else filter (has_label element.0) changes.set)
    else (if goes changes element.0 then [] else element ∷ [])

-- elements, of which these stand before, with what stands in the place of each
abbrev pub replaced : ElementChanges → List NewElement → List NewElement → List NewElement
replaced changes before [] = []
replaced changes before (element ∷ rest) =
    in_place_of changes before element ++ replaced changes (element ∷ before) rest

-- the elements that are set with labels that are new, those of one label together
abbrev pub new_ones : ElementChanges → List NewElement → List NewElement
new_ones changes old =
    filter (λ element. not (some_has old element.0)) (replaced changes [] changes.set)

-- the elements that are appended, but for those that stand there
abbrev pub appended_to : ElementChanges → List NewElement → List NewElement
appended_to changes standing =
    filter (λ element. not (list_any (is_same element) standing)) changes.appended

-- what stands before Payload-Oxum, and after it, but for another one
abbrev pub before_oxum : List NewElement → List NewElement
before_oxum elements = take_while (λ element. not (has_label oxum_label element)) elements

abbrev pub after_oxum : List NewElement → List NewElement
after_oxum elements =
    filter (λ element. not (has_label oxum_label element))
    (drop (length (before_oxum elements) + 1) elements)

-- the elements that are added: those that are set with new labels, and those that are appended
abbrev pub added_to : ElementChanges → List NewElement → List NewElement
added_to changes old =
    new_ones changes old
    ++ appended_to changes (replaced changes [] old ++ new_ones changes old)

-- The elements after a renewal: the old ones in their order, of which some are replaced; before
-- Payload-Oxum those that are added, and Payload-Oxum, last where there was none.
abbrev pub renewed_elements : ElementChanges → List ℕ → List NewElement → List NewElement
renewed_elements changes size old =
    let all = replaced changes [] old in
    before_oxum all ++ (added_to changes old ++ (oxum_label, size) ∷ after_oxum all)

abbrev is_empty : {A : Type 0} → List A → Bool
is_empty [] = true
is_empty (one ∷ more) = false

-- nothing is asked of elements
abbrev pub asks_nothing : ElementChanges → Bool
asks_nothing changes = is_empty changes.set && is_empty changes.appended && is_empty changes.unset
