-- What can't be asked of the elements of bag-info.txt.
use Rattle.std.specs.Prelude.{ℕ, ◌||◌, Bool, List}
use Rattle.std.specs.List.{list_any}
use Rattle.bag_text.specs.Text.{same_label}
use Rattle.bag_tags.specs.Element.{NewElement}
use Rattle.bag_tags.specs.OnLines.{is_bad_long_element}
use Rattle.bag_renewed.specs.Elements.{goes, has_label, some_has}
use Rattle.bag_stages.specs.MetadataStage.{oxum_label}
use Rattle.bag_renewed.specs.declared.renewal.ElementChanges.{ElementChanges}

-- an element that can't be given: one that can't be written, or Payload-Oxum, which is computed
abbrev pub is_refused : NewElement → Bool
is_refused element = is_bad_long_element element || has_label oxum_label element

-- the label of Payload-Oxum, whatever its case
abbrev pub is_oxum_label : List ℕ → Bool
is_oxum_label label = same_label label oxum_label

-- elements of this label are set, or are to go
abbrev pub is_given_otherwise : ElementChanges → NewElement → Bool
is_given_otherwise changes element = some_has changes.set element.0 || goes changes element.0

-- an element that is set or appended can't be given; Payload-Oxum is to go; or an element is
-- appended of which the label is also set or unset, so that it isn't said what is to be left
abbrev pub is_bad_request : ElementChanges → Bool
is_bad_request changes =
    list_any is_refused changes.set
    || (list_any is_refused changes.appended
    || (list_any is_oxum_label changes.unset
    || list_any (is_given_otherwise changes) changes.appended))
