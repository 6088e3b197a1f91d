-- Laws about the elements of bag-info.txt after a renewal.
use Rattle.bag_renew.proofs.Common.{arith, ◌≡◌, ◌⊎◌, ◌++◌, ◌∷◌, ◌∙◌, ◌||◌, inl, inr, ℕ, suc, Bool, true, false, not}
use Rattle.bag_renew.proofs.Common.{cond, List, [], length, refl, sym, ap, subst, Contains, append-nil, filter}
use Rattle.bag_renew.proofs.Common.{list_any, false_from_ne_true, false≢true, or_cases, or_from, or_left, or_right}
use Rattle.bag_renew.proofs.Common.{contains_cases, contains_either, contains_first, contains_nothing}
use Rattle.std.proofs.Common.{drop, ◌+◌}
use Rattle.std.proofs.lemmas.List.Elements.{filter-append}
use Rattle.std.specs.Str.{str_to_ascii_lowercase}
use Rattle.bag_facts.proofs.Mapped.{kept}
use Rattle.bag_text.specs.Text.{same_label}
use Rattle.bag_stages.specs.MetadataStage.{oxum_label}
use Rattle.bag_tags.specs.Element.{NewElement}
use Rattle.bag_renew.specs.ElementLaws.{OxumIsThereOnce, SetElementsAreThere, UnaskedElementsStay, UnsetElementsAreGone}
use Rattle.bag_renew.specs.ElementLaws.{is_asked, is_replaced}
use Rattle.bag_renewed.specs.Elements.{added_to, after_oxum, appended_to, before_oxum, goes, has_label, in_place_of}
use Rattle.bag_renewed.specs.Elements.{is_same, new_ones, replaced, some_has}
use Rattle.bag_renewed.specs.declared.renewal.ElementChanges.{ElementChanges}
use Rattle.bag_renew.proofs.ComposedElements.{any_alike, composed, filter_composed, filter_cut, filter_old}
use Rattle.bag_renew.proofs.ComposedElements.{filter_twice, not_other}
use Rattle.bag_renew.proofs.CutAtOxum.{before_all, before_of, first_oxum, is_other, is_oxum}
use Rattle.bag_renew.proofs.ElementsAgain.{CanBeAsked, appended_plain, can_be_asked, oxum_not_set, oxum_plain}
use Rattle.bag_renew.proofs.ReplacedAgain.{AreSame, Has, IsSet, are_same, block, filter_all, filter_none, goes_same}
use Rattle.bag_renew.proofs.ReplacedAgain.{has_back, has_either, has_front, has_member, has_none, has_same, has_seen}
use Rattle.bag_renew.proofs.ReplacedAgain.{in_block, member_has, place, place_has, place_is, plain_first}
use Rattle.bag_renew.proofs.ReplacedAgain.{replaced_append, replaced_has, same_block, same_so, seen, set_stays}
use Rattle.bag_renew.proofs.ReplacedAgain.{some_same}

pub oxum_is : (size : List ℕ) → is_oxum (oxum_label, size) ≡ true
oxum_is size = same_so oxum_label oxum_label refl

pub same_if : (a b : Bool) → (a ≡ true → b ≡ true) → (b ≡ true → a ≡ true) → a ≡ b
same_if true b there back = sym (there refl)
same_if false true there back = back refl
same_if false false there back = refl

pub none_with : (xs : List NewElement) (label : List ℕ) → (Has xs label → ⊥) → filter (has_label label) xs ≡ []
none_with xs label lacks =
    filter_none (has_label label) xs (λ x has.
    false_from_ne_true _ (λ is. lacks (member_has xs x label has (are_same x.0 label is))))

nil_parts : (xs ys : List NewElement) → xs ++ ys ≡ [] → (xs ≡ []) × (ys ≡ [])
nil_parts [] ys is = (refl, is)
nil_parts (x ∷ xs) ys is = let n : suc (length (xs ++ ys)) ≡ 0 = ap length is in absurd (omega arith)

-- what stands before Payload-Oxum is of these
pub before_in : (xs : List NewElement) (label : List ℕ) → Has (before_oxum xs) label → Has xs label
before_in xs label has = elim (first_oxum xs) [
  | inl none ↦ subst (λ es. Has es label) (before_all xs none) has
  | inr (first, rest, o, at) ↦
      subst (λ es. Has es label) (sym at.whole)
      (has_front first (o ∷ rest) label
      (subst (λ es. Has es label) (ap before_oxum at.whole ∙ before_of o rest first at.none at.is) has))
]

pub none_before : (xs : List NewElement) → list_any is_oxum (before_oxum xs) ≡ false
none_before xs = elim (first_oxum xs) [
  | inl none ↦ ap (list_any is_oxum) (before_all xs none) ∙ none
  | inr (first, rest, o, at) ↦
      ap (list_any is_oxum) (ap before_oxum at.whole ∙ before_of o rest first at.none at.is) ∙ at.none
]

module _ (changes : ElementChanges) where
  -- ---- elements of which nothing is asked

  abbrev pub is_unasked : NewElement → Bool
  is_unasked x = not (is_asked changes x.0)

  pub set_no : (x : NewElement) → IsSet changes x.0 → is_unasked x ≡ false
  set_no x is =
      ap not (or_left (is_replaced changes x.0) (some_has changes.appended x.0 || goes changes x.0)
      (or_left (some_has changes.set x.0) (same_label x.0 oxum_label) is))

  pub oxum_no : (x : NewElement) → is_oxum x ≡ true → is_unasked x ≡ false
  oxum_no x is =
      ap not (or_left (is_replaced changes x.0) (some_has changes.appended x.0 || goes changes x.0)
      (or_right (some_has changes.set x.0) (same_label x.0 oxum_label) is))

  appended_no : (x : NewElement) → Has changes.appended x.0 → is_unasked x ≡ false
  appended_no x is =
      ap not (or_right (is_replaced changes x.0) (some_has changes.appended x.0 || goes changes x.0)
      (or_left (some_has changes.appended x.0) (goes changes x.0) is))

  unset_no : (x : NewElement) → goes changes x.0 ≡ true → is_unasked x ≡ false
  unset_no x is =
      ap not (or_right (is_replaced changes x.0) (some_has changes.appended x.0 || goes changes x.0)
      (or_right (some_has changes.appended x.0) (goes changes x.0) is))

  pub other_no : (x : NewElement) → is_other x ≡ false → is_unasked x ≡ false
  other_no x is = oxum_no x (not_other x is)

  pub unasked_none : (xs : List NewElement) → ((x : NewElement) → Contains xs x → is_unasked x ≡ false)
      → filter is_unasked xs ≡ []
  unasked_none xs none = filter_none is_unasked xs none

  one_no : (x : NewElement) → is_unasked x ≡ false → filter is_unasked (x ∷ []) ≡ []
  one_no x is = ap (λ b. cond b (x ∷ []) []) is

  unasked_by : (x : NewElement) (s b g : Bool) → some_has changes.set x.0 ≡ s → goes changes x.0 ≡ g
      → filter is_unasked (place changes s b g x) ≡ filter is_unasked (x ∷ [])
  unasked_by x true true g is_set is_unset = sym (one_no x (set_no x is_set))
  unasked_by x true false g is_set is_unset =
      unasked_none (block changes x.0) (λ y has.
      set_no y (has_same changes.set x.0 y.0 (sym (in_block changes x.0 y has)) is_set))
      ∙ sym (one_no x (set_no x is_set))
  unasked_by x false b true is_set is_unset = sym (one_no x (unset_no x is_unset))
  unasked_by x false b false is_set is_unset = refl

  pub unasked_replaced : (xs before : List NewElement)
      → filter is_unasked (replaced changes before xs) ≡ filter is_unasked xs
  unasked_replaced [] before = refl
  unasked_replaced (x ∷ xs) before =
      filter-append is_unasked (in_place_of changes before x) (replaced changes (x ∷ before) xs)
      ∙ (λ i. unasked_by x (some_has changes.set x.0) (some_has before x.0) (goes changes x.0) refl refl i
      ++ unasked_replaced xs (x ∷ before) i)
      ∙ sym (filter-append is_unasked (x ∷ []) xs)

  -- ---- labels of elements that are replaced

  -- once some that are set were placed, no more are
  gone_before : (xs before : List NewElement) (label : List ℕ) → IsSet changes label → Has before label
      → Has (replaced changes before xs) label → ⊥
  gone_before [] before label is_set there has = has_none label has
  gone_before (x ∷ xs) before label is_set there has =
      elim (has_either (in_place_of changes before x) (replaced changes (x ∷ before) xs) label has) [
        | inl here ↦ (let same = place_has changes before x label here in
            has_none label (subst (λ es. Has es label)
            (place_is changes before x true true (goes changes x.0)
            (has_same changes.set label x.0 (sym same) is_set) (has_same before label x.0 (sym same) there) refl)
            here))
        | inr later ↦
            gone_before xs (x ∷ before) label is_set (has_back (x ∷ []) before label there) later
      ]

  gone_unset : (xs before : List NewElement) (label : List ℕ) → some_has changes.set label ≡ false
      → goes changes label ≡ true → Has (replaced changes before xs) label → ⊥
  gone_unset [] before label lacks is_unset has = has_none label has
  gone_unset (x ∷ xs) before label lacks is_unset has =
      elim (has_either (in_place_of changes before x) (replaced changes (x ∷ before) xs) label has) [
        | inl here ↦ (let same = place_has changes before x label here in
            has_none label (subst (λ es. Has es label)
            (place_is changes before x false (some_has before x.0) true
            (some_same changes.set x.0 label same ∙ lacks) refl (goes_same changes x.0 label same ∙ is_unset)) here))
        | inr later ↦ gone_unset xs (x ∷ before) label lacks is_unset later
      ]

  plain_stays : (xs before : List NewElement) (label : List ℕ) → some_has changes.set label ≡ false
      → goes changes label ≡ false → Has xs label → Has (replaced changes before xs) label
  plain_stays [] before label lacks stays has = absurd (has_none label has)
  plain_stays (x ∷ xs) before label lacks stays has = elim (has_either (x ∷ []) xs label has) [
    | inl one ↦ (let m = has_member (x ∷ []) label one in
        elim (contains_cases x [] m.0 m.1) [
          | inl is ↦ here (ap (λ (e : NewElement). str_to_ascii_lowercase e.0) is ∙ m.2)
          | inr nothing ↦ absurd (contains_nothing m.0 nothing)
        ])
    | inr more ↦
        has_back (in_place_of changes before x) (replaced changes (x ∷ before) xs) label
        (plain_stays xs (x ∷ before) label lacks stays more)
  ]
    where
      here : AreSame x.0 label → Has (replaced changes before (x ∷ xs)) label
      here same =
          subst (λ es. Has es label)
          (sym (plain_first changes x xs before
          (some_same changes.set x.0 label same ∙ lacks, goes_same changes x.0 label same ∙ stays)))
          (has_front (x ∷ []) (replaced changes (x ∷ before) xs) label
          (member_has (x ∷ []) x label (contains_first x []) same))

  block_alone : (label : List ℕ) → filter (has_label label) (block changes label) ≡ block changes label
  block_alone label =
      filter_all (has_label label) (block changes label) (λ x has. (kept (has_label label) changes.set x has).0)

  set_by : (x : NewElement) (xs before : List NewElement) (label : List ℕ) → IsSet changes label
      → some_has before label ≡ false
      → (same_label x.0 label ≡ false
      → filter (has_label label) (replaced changes (x ∷ before) xs) ≡ block changes label)
      → (b : Bool) → same_label x.0 label ≡ b
      → filter (has_label label) (replaced changes before (x ∷ xs)) ≡ block changes label
  set_by x xs before label is_set none more true is =
      let same = are_same x.0 label is in
      let later = replaced changes (x ∷ before) xs in
      ap (λ zs. filter (has_label label) (zs ++ later))
      (place_is changes before x true false (goes changes x.0) (has_same changes.set label x.0 (sym same) is_set)
      (some_same before x.0 label same ∙ none) refl ∙ same_block changes x.0 label same)
      ∙ filter-append (has_label label) (block changes label) later
      ∙ (λ i. block_alone label i ++ none_with later label (gone_before xs (x ∷ before) label is_set
      (member_has (x ∷ before) x label (contains_first x before) same)) i)
      ∙ append-nil (block changes label)
  set_by x xs before label is_set none more false isnt =
      let later = replaced changes (x ∷ before) xs in
      filter-append (has_label label) (in_place_of changes before x) later
      ∙ ap (λ zs. zs ++ filter (has_label label) later) (none_with (in_place_of changes before x) label (λ has.
      false≢true (sym isnt ∙ same_so x.0 label (place_has changes before x label has))))
      ∙ more isnt

  -- those that are set with a label stand where the first one was
  set_block : (xs before : List NewElement) (label : List ℕ) → IsSet changes label → some_has before label ≡ false
      → Has xs label → filter (has_label label) (replaced changes before xs) ≡ block changes label
  set_block [] before label is_set none has = absurd (has_none label has)
  set_block (x ∷ xs) before label is_set none has =
      set_by x xs before label is_set none
      (λ isnt. set_block xs (x ∷ before) label is_set (or_from (same_label x.0 label) (some_has before label) isnt none)
      (sym (ap (λ b. b || some_has xs label) isnt) ∙ has))
      (same_label x.0 label) refl

  -- and stand together there
  pub set_at : (first : List NewElement) (x : NewElement) (rest : List NewElement) → IsSet changes x.0
      → some_has first x.0 ≡ false
      → replaced changes [] (first ++ (x ∷ rest))
      ≡ replaced changes [] first ++ (block changes x.0 ++ replaced changes (x ∷ seen first []) rest)
  set_at first x rest is_set none =
      replaced_append changes first (x ∷ rest) []
      ∙ ap (λ zs. replaced changes [] first ++ (zs ++ replaced changes (x ∷ seen first []) rest))
      (place_is changes (seen first []) x true false (goes changes x.0) is_set
      (false_from_ne_true _ (λ has. elim (has_seen first [] x.0 has) [
        | inl there ↦ false≢true (sym none ∙ there)
        | inr nothing ↦ has_none x.0 nothing
      ])) refl)

  -- ---- elements that are added

  module _ (old : List NewElement) where
    abbrev pub is_new : NewElement → Bool
    is_new x = not (some_has old x.0)

    new_lacks : (x : NewElement) → is_new x ≡ true → Has old x.0 → ⊥
    new_lacks x is has = false≢true (sym (ap not has) ∙ is)

    pub is_new_so : (x : NewElement) → some_has old x.0 ≡ false → is_new x ≡ true
    is_new_so x lacks = ap not lacks

    -- some that are set with labels that are new
    pub in_new : (xs : List NewElement) → ((label : List ℕ) → Has xs label → IsSet changes label) → (x : NewElement)
        → Contains (filter is_new (replaced changes [] xs)) x → IsSet changes x.0 × (Has old x.0 → ⊥)
    in_new xs of_set x has =
        let two = kept is_new (replaced changes [] xs) x has in (
          of_set x.0 (replaced_has changes xs [] x.0 (member_has (replaced changes [] xs) x x.0 two.1 refl)),
          new_lacks x two.0,
        )

    pub new_is : (x : NewElement) → Contains (new_ones changes old) x → IsSet changes x.0 × (Has old x.0 → ⊥)
    new_is x has = in_new changes.set (λ label is. is) x has

    pub appended_is : (standing : List NewElement) (x : NewElement) → Contains (appended_to changes standing) x
        → Contains changes.appended x
    appended_is standing x has =
        (kept (λ (element : NewElement). not (list_any (is_same element) standing)) changes.appended x has).1

    abbrev pub all : List NewElement
    all = replaced changes [] old

    abbrev pub added : List NewElement
    added = added_to changes old

    added_is : (x : NewElement) → Contains added x
        → (IsSet changes x.0 × (Has old x.0 → ⊥)) ⊎ Contains changes.appended x
    added_is x has =
        let new = new_ones changes old in
        elim (contains_either new (appended_to changes (all ++ new)) x has) [
          | inl first ↦ inl (new_is x first)
          | inr more ↦ inr (appended_is (all ++ new) x more)
        ]

    pub appended_unasked : (standing : List NewElement) → filter is_unasked (appended_to changes standing) ≡ []
    appended_unasked standing =
        unasked_none (appended_to changes standing) (λ x has.
        appended_no x (member_has changes.appended x x.0 (appended_is standing x has) refl))

    pub added_unasked : filter is_unasked added ≡ []
    added_unasked = unasked_none added (λ x has. elim (added_is x has) [
      | inl new ↦ set_no x new.0
      | inr more ↦ appended_no x (member_has changes.appended x x.0 more refl)
    ])

    -- of elements that are composed with them nothing is asked but of the old ones
    pub unasked_composed : (size : List ℕ) (xs : List NewElement)
        → filter is_unasked (composed size added xs) ≡ filter is_unasked xs
    unasked_composed size xs =
        filter_old size added is_unasked xs oxum_no (oxum_no (oxum_label, size) (oxum_is size)) added_unasked

  -- ---- where all of it can be asked

  module _ (asked : CanBeAsked changes) where
    -- a label that is set isn't Payload-Oxum
    pub oxum_out : (label : List ℕ) → IsSet changes label → (x : NewElement) → is_oxum x ≡ true
        → has_label label x ≡ false
    oxum_out label is_set x is = false_from_ne_true _ (λ same.
        oxum_not_set changes asked label (sym (are_same x.0 oxum_label is) ∙ are_same x.0 label same) is_set)

    oxum_plain_label : (label : List ℕ) → AreSame label oxum_label
        → (some_has changes.set label ≡ false) × (goes changes label ≡ false)
    oxum_plain_label label same = oxum_plain changes asked (label, []) same

    -- replaced elements stand where they stood
    pub same_labels : (xs : List NewElement) (label : List ℕ) → is_replaced changes label ≡ true
        → some_has (replaced changes [] xs) label ≡ some_has xs label
    same_labels xs label is =
        same_if _ _ (replaced_has changes xs [] label) (λ has.
        elim (or_cases (some_has changes.set label) (same_label label oxum_label) is) [
          | inl is_set ↦ elim (set_stays changes xs [] label is_set has) [
            | inl nothing ↦ absurd (has_none label nothing)
            | inr there ↦ there
          ]
          | inr is_oxum_label ↦ (let plain = oxum_plain_label label (are_same label oxum_label is_oxum_label) in
              plain_stays xs [] label plain.0 plain.1 has)
        ])

    module _ (old : List NewElement) where
      -- of a label that is set and was there none are added
      pub none_added : (label : List ℕ) → IsSet changes label → Has old label → Has (added old) label → ⊥
      none_added label is_set there has =
          let m = has_member (added old) label has in
          elim (added_is old m.0 m.1) [
            | inl new ↦ new.1 (has_same old label m.0.0 (sym m.2) there)
            | inr more ↦ false≢true (sym (appended_plain changes asked m.0 more).0
                ∙ has_same changes.set label m.0.0 (sym m.2) is_set)
          ]

      pub no_oxum_added : Has (added old) oxum_label → ⊥
      no_oxum_added has =
          let m = has_member (added old) oxum_label has in
          elim (added_is old m.0 m.1) [
            | inl new ↦ oxum_not_set changes asked m.0.0 (sym m.2) new.0
            | inr more ↦ false≢true (sym asked.appended ∙ member_has changes.appended m.0 oxum_label more m.2)
          ]

      pub no_replaced_added : (label : List ℕ) → is_replaced changes label ≡ true → Has old label
          → Has (added old) label → ⊥
      no_replaced_added label is there has =
          elim (or_cases (some_has changes.set label) (same_label label oxum_label) is) [
            | inl is_set ↦ none_added label is_set there has
            | inr same ↦
                no_oxum_added (has_same (added old) label oxum_label (are_same label oxum_label same) has)
          ]

      module _ (size : List ℕ) where
        abbrev pub made : List NewElement → List NewElement
        made xs = composed size (added old) xs

        -- ---- set

        -- with a label that is set
        pub with_set : (label : List ℕ) (xs : List NewElement) → IsSet changes label
            → filter (has_label label) (added old) ≡ []
            → filter (has_label label) (made xs) ≡ filter (has_label label) xs
        with_set label xs is_set none =
            filter_old size (added old) (has_label label) xs (oxum_out label is_set)
            (oxum_out label is_set (oxum_label, size) (oxum_is size)) none

        new_with : (label : List ℕ) → IsSet changes label → some_has old label ≡ false
            → filter (has_label label) (added old) ≡ block changes label
        new_with label is_set lacks =
            let standing = all old ++ new_ones changes old in
            filter-append (has_label label) (new_ones changes old) (appended_to changes standing)
            ∙ (λ i. (filter_twice (has_label label) (is_new old) (replaced changes [] changes.set) in_old
            ∙ set_block changes.set [] label is_set refl is_set) i
            ++ none_with (appended_to changes standing) label (λ has.
            let m = has_member (appended_to changes standing) label has in
            false≢true (sym (appended_plain changes asked m.0 (appended_is old standing m.0 m.1)).0
            ∙ has_same changes.set label m.0.0 (sym m.2) is_set)) i)
            ∙ append-nil (block changes label)
          where
            by_test : (b : Bool) → not b ≡ false → b ≡ true
            by_test true is = refl
            by_test false is = absurd (false≢true (sym is))

            in_old : (x : NewElement) → is_new old x ≡ false → has_label label x ≡ false
            in_old x isnt = false_from_ne_true _ (λ same. false≢true (sym lacks
                ∙ has_same old x.0 label (are_same x.0 label same) (by_test (some_has old x.0) isnt)))

        set_there : (label : List ℕ) → IsSet changes label → (b : Bool) → some_has old label ≡ b
            → filter (has_label label) (made (all old)) ≡ block changes label
        set_there label is_set true there =
            with_set label (all old) is_set (none_with (added old) label (none_added label is_set there))
            ∙ set_block old [] label is_set refl there
        set_there label is_set false lacks =
            let none : filter (has_label label) (all old) ≡ [] = none_with (all old) label (λ has.
            false≢true (sym lacks ∙ replaced_has changes old [] label has)) in
            let parts = nil_parts (filter (has_label label) (before_oxum (all old)))
            (filter (has_label label) (after_oxum (all old)))
            (filter_cut (has_label label) (all old) (oxum_out label is_set) ∙ none) in
            filter_composed size (added old) (has_label label) (all old)
            (oxum_out label is_set (oxum_label, size) (oxum_is size))
            ∙ (λ i. parts.0 i ++ (new_with label is_set lacks i ++ parts.1 i)) ∙ append-nil (block changes label)

        -- ---- unset

        unset_gone : (label : List ℕ) → goes changes label ≡ true → some_has changes.set label ≡ false
            → some_has (made (all old)) label ≡ false
        unset_gone label is_unset lacks =
            any_alike (has_label label) (made (all old)) [] (filter_old size (added old) (has_label label) (all old)
            out (out (oxum_label, size) (oxum_is size)) (none_with (added old) label no_added)
            ∙ none_with (all old) label (gone_unset old [] label lacks is_unset))
          where
            out : (x : NewElement) → is_oxum x ≡ true → has_label label x ≡ false
            out x is = false_from_ne_true _ (λ same. false≢true
                (sym (oxum_plain_label label (sym (are_same x.0 label same) ∙ are_same x.0 oxum_label is)).1
                ∙ is_unset))

            no_added : Has (added old) label → ⊥
            no_added has =
                let m = has_member (added old) label has in
                elim (added_is old m.0 m.1) [
                  | inl new ↦ false≢true (sym lacks ∙ has_same changes.set m.0.0 label m.2 new.0)
                  | inr more ↦ false≢true (sym (appended_plain changes asked m.0 more).1
                      ∙ goes_same changes m.0.0 label m.2 ∙ is_unset)
                ]

        -- ---- Payload-Oxum

        oxum_once : filter is_oxum (made (all old)) ≡ (oxum_label, size) ∷ []
        oxum_once =
            filter-append is_oxum (before_oxum (all old)) (added old ++ ((oxum_label, size) ∷ after_oxum (all old)))
            ∙ (λ i. no_oxum_before i ++ filter-append is_oxum (added old) ((oxum_label, size) ∷ after_oxum (all old)) i)
            ∙ (λ i. none_with (added old) oxum_label no_oxum_added i
            ++ cond (oxum_is size i) ((oxum_label, size) ∷ none_after i) (none_after i))
          where
            no_oxum_before : filter is_oxum (before_oxum (all old)) ≡ []
            no_oxum_before =
                none_with (before_oxum (all old)) oxum_label (λ has. false≢true (sym (none_before (all old)) ∙ has))

            none_after : filter is_oxum (after_oxum (all old)) ≡ []
            none_after = none_with (after_oxum (all old)) oxum_label (λ has.
                let m = has_member (after_oxum (all old)) oxum_label has in
                false≢true (sym (ap not (same_so m.0.0 oxum_label m.2))
                ∙ (kept is_other (drop (length (before_oxum (all old)) + 1) (all old)) m.0 m.1).0))

pub unasked_stay : UnaskedElementsStay
unasked_stay changes size old =
    unasked_composed changes old size (replaced changes [] old) ∙ unasked_replaced changes old []

pub set_are_there : SetElementsAreThere
set_are_there changes size old label good is_set =
    set_there changes (can_be_asked changes good) old size label is_set (some_has old label) refl

pub unset_are_gone : UnsetElementsAreGone
unset_are_gone changes size old label good is_unset lacks =
    unset_gone changes (can_be_asked changes good) old size label is_unset lacks

pub oxum_is_there_once : OxumIsThereOnce
oxum_is_there_once changes size old good = oxum_once changes (can_be_asked changes good) old size
