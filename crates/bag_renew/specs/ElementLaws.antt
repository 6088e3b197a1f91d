-- Laws about the elements of bag-info.txt after a renewal (RFC 8493, 2.2.2).
use Rattle.std.specs.Prelude.{ℕ, ◌≡◌, ◌||◌, Bool, true, false, not, List, [], ◌∷◌, ◌++◌, filter}
use Rattle.std.specs.List.{list_any}
use Rattle.bag_text.specs.Text.{same_label}
use Rattle.bag_tags.specs.Element.{NewElement}
use Rattle.bag_stages.specs.MetadataStage.{oxum_label}
use Rattle.bag_renewed.specs.Elements.{after_oxum, before_oxum, goes, has_label, is_same}
use Rattle.bag_renewed.specs.Elements.{renewed_elements, some_has}
use Rattle.bag_renewed.specs.Request.{is_bad_request}
use Rattle.bag_renewed.specs.declared.renewal.ElementChanges.{ElementChanges}

-- those of these elements that have a label, in their order
abbrev pub those_with : List ℕ → List NewElement → List NewElement
those_with label elements = filter (has_label label) elements

-- the elements with this label are replaced: some are set, or it is Payload-Oxum
abbrev pub is_replaced : ElementChanges → List ℕ → Bool
is_replaced changes label = some_has changes.set label || same_label label oxum_label

-- something is asked of the elements with this label, or it is Payload-Oxum
abbrev pub is_asked : ElementChanges → List ℕ → Bool
is_asked changes label =
    is_replaced changes label || (some_has changes.appended label || goes changes label)

-- those of these elements of which nothing is asked, in their order
abbrev pub unasked : ElementChanges → List NewElement → List NewElement
unasked changes elements = filter (λ element. not (is_asked changes element.0)) elements

-- nothing is appended
abbrev pub without_appended : ElementChanges → ElementChanges
without_appended changes = record { set = changes.set; appended = []; unset = changes.unset }

-- Some elements of a renewed bag stand together. Of those of which nothing is asked these stand
-- before them, and those behind them. Of the labels that are replaced, and that the old bag had,
-- the same are before them.
pub record StandTogether (changes : ElementChanges) (old before behind : List NewElement)
    (them made : List NewElement) : Type 0 where
  pub front : List NewElement
  pub back : List NewElement
  pub whole : made ≡ front ++ (them ++ back)
  pub stay_before : unasked changes front ≡ unasked changes before
  pub stay_behind : unasked changes back ≡ unasked changes behind
  pub replaced_before : (label : List ℕ) → is_replaced changes label ≡ true
      → some_has old label ≡ true → some_has front label ≡ some_has before label

-- They stand together behind the old elements before Payload-Oxum, and before it; and, of labels
-- that are new, behind those of these elements, which were set sooner.
pub record StandBeforeOxum (changes : ElementChanges) (old sooner : List NewElement)
    (them made : List NewElement) : Type 0 where
  pub together : StandTogether changes old (before_oxum old) (after_oxum old) them made
  pub none_before : some_has together.front oxum_label ≡ false
  pub in_order : (label : List ℕ) → some_has changes.set label ≡ true
      → some_has old label ≡ false → some_has together.front label ≡ some_has sooner label

-- the law: elements of which nothing is asked are those of the old bag, in their order
abbrev pub UnaskedElementsStay : Type 0
UnaskedElementsStay =
    (changes : ElementChanges) (size : List ℕ) (old : List NewElement)
    → unasked changes (renewed_elements changes size old) ≡ unasked changes old

-- the law: with a label that is set there are just the elements that are set with it, each once
abbrev pub SetElementsAreThere : Type 0
SetElementsAreThere =
    (changes : ElementChanges) (size : List ℕ) (old : List NewElement) (label : List ℕ)
    → is_bad_request changes ≡ false → some_has changes.set label ≡ true
    → those_with label (renewed_elements changes size old) ≡ those_with label changes.set

-- the law: they stand in the place of the first old element with that label
abbrev pub SetElementsStandInPlace : Type 0
SetElementsStandInPlace =
    (changes : ElementChanges) (size : List ℕ) (before : List NewElement) (first : NewElement)
    (behind : List NewElement)
    → is_bad_request changes ≡ false
    → some_has changes.set first.0 ≡ true → some_has before first.0 ≡ false
    → let old = before ++ (first ∷ behind) in
    StandTogether changes old before behind (those_with first.0 changes.set)
    (renewed_elements changes size old)

-- the law: where there was none, they stand before Payload-Oxum
abbrev pub NewElementsStandBeforeOxum : Type 0
NewElementsStandBeforeOxum =
    (changes : ElementChanges) (size : List ℕ) (old : List NewElement)
    (sooner : List NewElement) (first : NewElement) (later : List NewElement)
    → is_bad_request changes ≡ false → changes.set ≡ sooner ++ (first ∷ later)
    → some_has sooner first.0 ≡ false → some_has old first.0 ≡ false
    → StandBeforeOxum changes old sooner (those_with first.0 changes.set)
    (renewed_elements changes size old)

-- the law: with a label that is unset, and not set, there is no element
abbrev pub UnsetElementsAreGone : Type 0
UnsetElementsAreGone =
    (changes : ElementChanges) (size : List ℕ) (old : List NewElement) (label : List ℕ)
    → is_bad_request changes ≡ false
    → goes changes label ≡ true → some_has changes.set label ≡ false
    → some_has (renewed_elements changes size old) label ≡ false

-- Of these elements some were appended: the last before Payload-Oxum, but for those that stand
-- among the others with just this value. The others are as they are without them.
pub record AreAppended (appended : List NewElement) (oxum : NewElement)
    (others made : List NewElement) : Type 0 where
  pub front : List NewElement
  pub added : List NewElement
  pub back : List NewElement
  pub whole : made ≡ front ++ (added ++ (oxum ∷ back))
  pub without : others ≡ front ++ (oxum ∷ back)
  pub added_are : added ≡ filter (λ one. not (list_any (is_same one) (front ++ back))) appended

-- the law: what is appended is last before Payload-Oxum, in its order, and changes no other
abbrev pub AppendedElementsAreLast : Type 0
AppendedElementsAreLast =
    (changes : ElementChanges) (size : List ℕ) (old : List NewElement)
    → is_bad_request changes ≡ false
    → AreAppended changes.appended (oxum_label, size)
    (renewed_elements (without_appended changes) size old) (renewed_elements changes size old)

-- the law: Payload-Oxum is there once
abbrev pub OxumIsThereOnce : Type 0
OxumIsThereOnce =
    (changes : ElementChanges) (size : List ℕ) (old : List NewElement)
    → is_bad_request changes ≡ false
    → those_with oxum_label (renewed_elements changes size old) ≡ (oxum_label, size) ∷ []

-- the law: in the place of the first that the old bag had
abbrev pub OxumStandsInPlace : Type 0
OxumStandsInPlace =
    (changes : ElementChanges) (size : List ℕ) (before : List NewElement) (first : NewElement)
    (behind : List NewElement)
    → is_bad_request changes ≡ false
    → has_label oxum_label first ≡ true → some_has before oxum_label ≡ false
    → let old = before ++ (first ∷ behind) in
    StandTogether changes old before behind ((oxum_label, size) ∷ [])
    (renewed_elements changes size old)

-- the law: and last where there was none
abbrev pub NewOxumIsLast : Type 0
NewOxumIsLast =
    (changes : ElementChanges) (size : List ℕ) (old : List NewElement)
    → is_bad_request changes ≡ false → some_has old oxum_label ≡ false
    → (front : List NewElement)
    × (renewed_elements changes size old ≡ front ++ ((oxum_label, size) ∷ []))
