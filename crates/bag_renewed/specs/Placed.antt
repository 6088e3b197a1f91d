-- What is placed of the elements that are set, one element after another.
use Rattle.std.specs.Prelude.{ℕ, ◌++◌, ◌∷◌, [], Bool, List, filter, if◌then◌else◌}
use Rattle.std.specs.List.{list_any}
use Rattle.bag_text.specs.Text.{same_label}
use Rattle.bag_tags.specs.Element.{NewElement}
use Rattle.bag_renewed.specs.Elements.{goes, has_label, some_has}
use Rattle.bag_renewed.specs.declared.renewal.ElementChanges.{ElementChanges}

-- the elements that are set with this label were placed, where those with these labels were
abbrev pub is_placed : List (List ℕ) → List ℕ → Bool
is_placed placed label = list_any (λ one. same_label one label) placed

-- what stands in the place of an element then
abbrev pub in_place : ElementChanges → List (List ℕ) → NewElement → List NewElement
in_place changes placed element =
    if some_has changes.set element.0
    then (if is_placed placed element.0 then [] else filter (has_label element.0) changes.set)
    else (if goes changes element.0 then [] else element ∷ [])

-- the labels whose elements were placed, with that of an element in whose place some are put
abbrev pub placed_with : ElementChanges → List (List ℕ) → NewElement → List (List ℕ)
placed_with changes placed element =
    if some_has changes.set element.0
    then (if is_placed placed element.0 then placed else placed ++ element.0 ∷ [])
    else placed
