-- Elements that were renewed are the same when that is asked again.
use Rattle.bag_renew.proofs.Common.{◌≡◌, ◌⊎◌, ◌++◌, ◌∷◌, ◌∙◌, ◌||◌, inl, inr, ℕ, Bool, true, false, not, List, []}
use Rattle.bag_renew.proofs.Common.{refl, sym, ap, subst, Contains, append-nil, append_assoc, and_parts, and_from}
use Rattle.bag_renew.proofs.Common.{bytes_eq, bytes_eq-Decides, false_from_ne_true, false≢true, or_parts, or_right}
use Rattle.bag_renew.proofs.Common.{any_from, from_any, contains_behind, contains_cases, contains_either}
use Rattle.bag_renew.proofs.Common.{contains_nothing, contains_back, contains_front, filter, list_any}
use Rattle.std.specs.Str.{str_to_ascii_lowercase}
use Rattle.bag_facts.proofs.Mapped.{kept, passed}
use Rattle.bag_text.specs.Text.{same_label}
use Rattle.bag_stages.specs.MetadataStage.{oxum_label}
use Rattle.bag_tags.specs.Element.{NewElement}
use Rattle.bag_renew.specs.Again.{ElementsAreRenewedOnce}
use Rattle.bag_renewed.specs.Elements.{added_to, after_oxum, appended_to, before_oxum, goes, is_same, new_ones}
use Rattle.bag_renewed.specs.Elements.{renewed_elements, replaced, some_has}
use Rattle.bag_renewed.specs.Request.{is_bad_request, is_given_otherwise, is_oxum_label, is_refused}
use Rattle.bag_renewed.specs.declared.renewal.ElementChanges.{ElementChanges}
use Rattle.bag_tags.specs.OnLines.{is_bad_long_element}
use Rattle.bag_renew.proofs.CutAtOxum.{IsFirstOxum, after_none, after_of, before_all, before_of, first_oxum, is_other}
use Rattle.bag_renew.proofs.CutAtOxum.{is_oxum}
use Rattle.bag_renew.proofs.ReplacedAgain.{AreSame, Fixed, Has, IsPlain, IsSet, again, are_same, filter_all}
use Rattle.bag_renew.proofs.ReplacedAgain.{filter_none, fixed_append, fixed_plain, goes_same, has_back, has_either}
use Rattle.bag_renew.proofs.ReplacedAgain.{has_front, has_member, has_none, has_same, has_seen, member_has}
use Rattle.bag_renew.proofs.ReplacedAgain.{plain_first, replaced_append, replaced_has, same_so, seen, seen_has}
use Rattle.bag_renew.proofs.ReplacedAgain.{set_stays, some_same}

none_of : {A : Type 0} (p : A → Bool) (xs : List A) (x : A) → list_any p xs ≡ false → Contains xs x → p x ≡ false
none_of p xs x none has = false_from_ne_true _ (λ is. false≢true (sym none ∙ any_from p xs x has is))

abbrev Stands : NewElement → List NewElement → Type 0
Stands a xs = list_any (is_same a) xs ≡ true

same_element : (a y : NewElement) → is_same a y ≡ true → AreSame y.0 a.0
same_element a y is = are_same y.0 a.0 (and_parts (same_label y.0 a.0) (bytes_eq y.1 a.1) is).0

itself_same : (a : NewElement) → is_same a a ≡ true
itself_same a =
    and_from (same_label a.0 a.0) (bytes_eq a.1 a.1) (same_so a.0 a.0 refl) ((bytes_eq-Decides a.1 a.1).1 refl)

-- a label that isn't Payload-Oxum
abbrev other_label : List ℕ → Bool
other_label label = not (same_label label oxum_label)

other_so : (label : List ℕ) → (AreSame label oxum_label → ⊥) → other_label label ≡ true
other_so label differ = ap not (false_from_ne_true _ (λ is. differ (are_same label oxum_label is)))

not_oxum : (label : List ℕ) → other_label label ≡ true → AreSame label oxum_label → ⊥
not_oxum label is same = false≢true (sym (ap not (same_so label oxum_label same)) ∙ is)

respects_other : (a b : List ℕ) → AreSame a b → other_label a ≡ true → other_label b ≡ true
respects_other a b same is =
    sym (ap (λ t. not (bytes_eq t (str_to_ascii_lowercase oxum_label))) same) ∙ is

-- nothing is asked of Payload-Oxum, and no label of an element that is appended is set or unset
pub record CanBeAsked (changes : ElementChanges) : Type 0 where
  pub set : list_any is_oxum changes.set ≡ false
  pub appended : list_any is_oxum changes.appended ≡ false
  pub unset : goes changes oxum_label ≡ false
  pub apart : list_any (is_given_otherwise changes) changes.appended ≡ false

not_refused : (xs : List NewElement) → list_any is_refused xs ≡ false → list_any is_oxum xs ≡ false
not_refused xs none = false_from_ne_true _ (λ has.
    let m = from_any is_oxum xs has in
    false≢true (sym none ∙ any_from is_refused xs m.0 m.1 (or_right (is_bad_long_element m.0) (is_oxum m.0) m.2)))

pub can_be_asked : (changes : ElementChanges) → is_bad_request changes ≡ false → CanBeAsked changes
can_be_asked changes good =
    let by_appended = list_any is_refused changes.appended in
    let by_unset = list_any is_oxum_label changes.unset in
    let by_both = list_any (is_given_otherwise changes) changes.appended in
    let a = or_parts (list_any is_refused changes.set) (by_appended || (by_unset || by_both)) good in
    let b = or_parts by_appended (by_unset || by_both) a.1 in
    let c = or_parts by_unset by_both b.1 in
    record {
      set = not_refused changes.set a.0;
      appended = not_refused changes.appended b.0;
      unset = c.0;
      apart = c.1;
    }

module _ (changes : ElementChanges) (asked : CanBeAsked changes) where
  -- nothing is asked of Payload-Oxum
  pub oxum_plain : (x : NewElement) → AreSame x.0 oxum_label → IsPlain changes x
  oxum_plain x same = (
    false_from_ne_true _ (λ has. false≢true (sym asked.set ∙ has_same changes.set x.0 oxum_label same has)),
    goes_same changes x.0 oxum_label same ∙ asked.unset,
  )

  pub oxum_not_set : (label : List ℕ) → AreSame oxum_label label → IsSet changes label → ⊥
  oxum_not_set label same is_set =
      false≢true (sym asked.set ∙ has_same changes.set label oxum_label (sym same) is_set)

  -- nor of what is appended
  pub appended_plain : (x : NewElement) → Contains changes.appended x → IsPlain changes x
  appended_plain x has =
      or_parts (some_has changes.set x.0) (goes changes x.0)
      (none_of (is_given_otherwise changes) changes.appended x asked.apart has)

  -- ---- the old elements, cut at the first Payload-Oxum

  abbrev others_of : List NewElement → List NewElement → List NewElement
  others_of before rest = filter is_other (replaced changes before rest)

  record IsCut (old : List NewElement) : Type 0 where
    pub first : List NewElement
    pub rest : List NewElement
    pub before : List NewElement
    pub front : before_oxum (replaced changes [] old) ≡ replaced changes [] first
    pub back : after_oxum (replaced changes [] old) ≡ others_of before rest
    pub none : list_any is_oxum first ≡ false
    pub first_in : (label : List ℕ) → Has first label → Has old label
    pub rest_in : (label : List ℕ) → Has rest label → Has old label
    pub either : (label : List ℕ) → IsSet changes label → Has old label → Has first label ⊎ Has rest label
    pub seen_first : (label : List ℕ) → Has first label → Has before label
    pub first_seen : (label : List ℕ) → IsSet changes label → Has before label → Has first label
    pub stands : (a : NewElement) → (AreSame a.0 oxum_label → ⊥) → Stands a (replaced changes [] old)
        → Stands a (replaced changes [] first) ⊎ Stands a (others_of before rest)

  pub none_replaced : (xs : List NewElement) → list_any is_oxum xs ≡ false
      → list_any is_oxum (replaced changes [] xs) ≡ false
  none_replaced xs none =
      false_from_ne_true _ (λ has. false≢true (sym none ∙ replaced_has changes xs [] oxum_label has))

  cut_nowhere : (old : List NewElement) → list_any is_oxum old ≡ false → IsCut old
  cut_nowhere old none = record {
    first = old;
    rest = [];
    before = old;
    front = before_all (replaced changes [] old) (none_replaced old none);
    back = after_none (replaced changes [] old) (none_replaced old none);
    none = none;
    first_in = λ label has. has;
    rest_in = λ label has. absurd (has_none label has);
    either = λ label is_set has. inl has;
    seen_first = λ label has. has;
    first_seen = λ label is_set has. has;
    stands = λ a other there. inl there;
  }

  module _ (old first rest : List NewElement) (o : NewElement) (cut : IsFirstOxum old first rest o) where
    is_same_oxum : AreSame o.0 oxum_label
    is_same_oxum = are_same o.0 oxum_label cut.is

    abbrev before : List NewElement
    before = o ∷ seen first []

    abbrev now : List NewElement
    now = replaced changes [] first

    abbrev later : List NewElement
    later = replaced changes before rest

    replaced_so : replaced changes [] old ≡ now ++ (o ∷ later)
    replaced_so =
        ap (replaced changes []) cut.whole ∙ replaced_append changes first (o ∷ rest) []
        ∙ ap (λ zs. now ++ zs) (plain_first changes o rest (seen first []) (oxum_plain o is_same_oxum))

    in_two : (label : List ℕ) → IsSet changes label → (xs : List NewElement) → Has (o ∷ xs) label → Has xs label
    in_two label is_set xs has = elim (has_either (o ∷ []) xs label has) [
      | inl one ↦ (let m = has_member (o ∷ []) label one in
          elim (contains_cases o [] m.0 m.1) [
            | inl same ↦ absurd (oxum_not_set label
                (sym is_same_oxum ∙ ap (λ (e : NewElement). str_to_ascii_lowercase e.0) same ∙ m.2) is_set)
            | inr nothing ↦ absurd (contains_nothing m.0 nothing)
          ])
      | inr more ↦ more
    ]

    of_first : (label : List ℕ) → Has (seen first []) label → Has first label
    of_first label has = elim (has_seen first [] label has) [
      | inl there ↦ there
      | inr nothing ↦ absurd (has_none label nothing)
    ]

    stands_so : (a : NewElement) → (AreSame a.0 oxum_label → ⊥) → Stands a (now ++ (o ∷ later))
        → Stands a now ⊎ Stands a (filter is_other later)
    stands_so a other there =
        let m = from_any (is_same a) (now ++ (o ∷ later)) there in
        elim (contains_either now (o ∷ later) m.0 m.1) [
          | inl in_now ↦ inl (any_from (is_same a) now m.0 in_now m.2)
          | inr more ↦ elim (contains_cases o later m.0 more) [
            | inl same ↦ absurd (other (sym (same_element a m.0 m.2)
                ∙ sym (ap (λ (e : NewElement). str_to_ascii_lowercase e.0) same) ∙ is_same_oxum))
            | inr in_later ↦ inr (any_from (is_same a) (filter is_other later) m.0
                (passed is_other later m.0 (other_so m.0.0 (λ is. other (sym (same_element a m.0 m.2) ∙ is)))
                in_later) m.2)
          ]
        ]

    cut_there : IsCut old
    cut_there = record {
      first = first;
      rest = rest;
      before = before;
      front = ap before_oxum replaced_so ∙ before_of o later now (none_replaced first cut.none) cut.is;
      back = ap after_oxum replaced_so ∙ after_of o later now (none_replaced first cut.none) cut.is;
      none = cut.none;
      first_in = λ label has.
          subst (λ xs. Has xs label) (sym cut.whole) (has_front first (o ∷ rest) label has);
      rest_in = λ label has. subst (λ xs. Has xs label) (sym cut.whole)
          (has_back first (o ∷ rest) label (has_back (o ∷ []) rest label has));
      either = λ label is_set has.
          elim (has_either first (o ∷ rest) label (subst (λ xs. Has xs label) cut.whole has)) [
            | inl there ↦ inl there
            | inr more ↦ inr (in_two label is_set rest more)
          ];
      seen_first = λ label has. has_back (o ∷ []) (seen first []) label (seen_has first [] label (inl has));
      first_seen = λ label is_set has. of_first label (in_two label is_set (seen first []) has);
      stands = λ a other there. stands_so a other (subst (Stands a) replaced_so there);
    }

  cut : (old : List NewElement) → IsCut old
  cut old = elim (first_oxum old) [
    | inl none ↦ cut_nowhere old none
    | inr (first, rest, o, is) ↦ cut_there old first rest o is
  ]

  -- ---- renewed once

  module _ (size : List ℕ) (old : List NewElement) where
    abbrev here : IsCut old
    here = cut old

    abbrev oxum : NewElement
    oxum = (oxum_label, size)

    abbrev front : List NewElement
    front = replaced changes [] here.first

    abbrev back : List NewElement
    back = others_of here.before here.rest

    abbrev new : List NewElement
    new = new_ones changes old

    abbrev added : List NewElement
    added = appended_to changes (replaced changes [] old ++ new)

    abbrev all_front : List NewElement
    all_front = front ++ (new ++ added)

    abbrev made : List NewElement
    made = renewed_elements changes size old

    whole : made ≡ all_front ++ (oxum ∷ back)
    whole =
        (λ i. here.front i ++ ((new ++ added) ++ (oxum ∷ here.back i)))
        ∙ sym (append_assoc front (new ++ added) (oxum ∷ back))

    -- an element that is new has a label that none had
    new_label : (x : NewElement) → Contains new x → Has old x.0 → ⊥
    new_label x has old_has =
        false≢true (sym (ap not old_has)
        ∙ (kept (λ (element : NewElement). not (some_has old element.0)) (replaced changes [] changes.set) x has).0)

    in_added : (x : NewElement) → Contains added x → Contains changes.appended x
    in_added x has =
        (kept (λ (element : NewElement). not (list_any (is_same element) (replaced changes [] old ++ new)))
        changes.appended x has).1

    -- ---- and again: each part stays

    fixed_front : Fixed changes [] front
    fixed_front =
        subst (Fixed changes []) (filter_all is_other front (λ y has. other_so y.0 (λ same.
        false≢true (sym here.none
        ∙ replaced_has changes here.first [] oxum_label (member_has front y oxum_label has same)))))
        (again changes other_label respects_other here.first [] [] (λ label has passing is_set nothing. nothing))

    has_front_label : (label : List ℕ) → Has front label → Has old label
    has_front_label label has = here.first_in label (replaced_has changes here.first [] label has)

    fixed_new : Fixed changes (seen front []) new
    fixed_new =
        again changes (λ label. not (some_has old label))
        (λ a b same is. sym (ap not (some_same old a b same)) ∙ is) changes.set [] (seen front [])
        (λ label has passing is_set there. elim (has_seen front [] label there) [
          | inl in_front ↦ absurd (false≢true (sym (ap not (has_front_label label in_front)) ∙ passing))
          | inr nothing ↦ nothing
        ])

    fixed_added : Fixed changes (seen new (seen front [])) added
    fixed_added = fixed_plain changes added (seen new (seen front [])) (λ x has. appended_plain x (in_added x has))

    fixed_back : Fixed changes (seen (oxum ∷ []) (seen all_front [])) back
    fixed_back =
        again changes other_label respects_other here.rest here.before (seen (oxum ∷ []) (seen all_front []))
        (λ label has passing is_set there. elim (has_seen (oxum ∷ []) (seen all_front []) label there) [
          | inl one ↦ (let m = has_member (oxum ∷ []) label one in
              elim (contains_cases oxum [] m.0 m.1) [
                | inl same ↦ absurd (oxum_not_set label
                    (ap (λ (e : NewElement). str_to_ascii_lowercase e.0) same ∙ m.2) is_set)
                | inr nothing ↦ absurd (contains_nothing m.0 nothing)
              ])
          | inr more ↦ elim (has_seen all_front [] label more) [
            | inl in_it ↦ of_front label has is_set (has_either front (new ++ added) label in_it)
            | inr nothing ↦ absurd (has_none label nothing)
          ]
        ])
      where
        of_added : (label : List ℕ) → Has here.rest label → IsSet changes label → Has new label ⊎ Has added label → ⊥
        of_added label has is_set (inl is_new) =
            let m = has_member new label is_new in
            new_label m.0 m.1 (has_same old label m.0.0 (sym m.2) (here.rest_in label has))
        of_added label has is_set (inr is_added) =
            let m = has_member added label is_added in
            false≢true (sym (appended_plain m.0 (in_added m.0 m.1)).0
            ∙ has_same changes.set label m.0.0 (sym m.2) is_set)

        of_front : (label : List ℕ) → Has here.rest label → IsSet changes label
            → Has front label ⊎ Has (new ++ added) label → Has here.before label
        of_front label has is_set (inl in_front) =
            here.seen_first label (replaced_has changes here.first [] label in_front)
        of_front label has is_set (inr more) = absurd (of_added label has is_set (has_either new added label more))

    fixed : Fixed changes [] made
    fixed =
        subst (Fixed changes []) (sym whole)
        (fixed_append changes all_front (oxum ∷ back) []
        (fixed_append changes front (new ++ added) [] fixed_front
        (fixed_append changes new added (seen front []) fixed_new fixed_added))
        (fixed_append changes (oxum ∷ []) back (seen all_front [])
        (fixed_plain changes (oxum ∷ []) (seen all_front []) (λ x has. elim (contains_cases oxum [] x has) [
          | inl same ↦ subst (IsPlain changes) same (oxum_plain oxum refl)
          | inr nothing ↦ absurd (contains_nothing x nothing)
        ])) fixed_back))

    -- ---- Payload-Oxum stays in its place

    none_in_front : list_any is_oxum all_front ≡ false
    none_in_front = false_from_ne_true _ (λ has. elim (has_either front (new ++ added) oxum_label has) [
      | inl in_front ↦ false≢true (sym here.none ∙ replaced_has changes here.first [] oxum_label in_front)
      | inr more ↦ elim (has_either new added oxum_label more) [
        | inl is_new ↦ (let m = has_member new oxum_label is_new in
            false≢true (sym asked.set
            ∙ replaced_has changes changes.set [] oxum_label
            (member_has (replaced changes [] changes.set) m.0 oxum_label
            (kept (λ (element : NewElement). not (some_has old element.0)) (replaced changes [] changes.set) m.0 m.1).1
            m.2)))
        | inr is_added ↦ (let m = has_member added oxum_label is_added in
            false≢true (sym asked.appended ∙ member_has changes.appended m.0 oxum_label (in_added m.0 m.1) m.2))
      ]
    ])

    oxum_is : is_oxum oxum ≡ true
    oxum_is = same_so oxum_label oxum_label refl

    same_front : before_oxum (replaced changes [] made) ≡ all_front
    same_front =
        ap before_oxum (fixed ∙ whole) ∙ before_of oxum back all_front none_in_front oxum_is

    same_back : after_oxum (replaced changes [] made) ≡ back
    same_back =
        ap after_oxum (fixed ∙ whole) ∙ after_of oxum back all_front none_in_front oxum_is
        ∙ filter_all is_other back (λ y has. (kept is_other (replaced changes here.before here.rest) y has).0)

    -- ---- nothing is added again

    in_made : (x : NewElement) → Contains all_front x ⊎ Contains back x → Contains made x
    in_made x (inl has) =
        subst (λ xs. Contains xs x) (sym whole) (contains_front all_front (oxum ∷ back) x has)
    in_made x (inr has) =
        subst (λ xs. Contains xs x) (sym whole)
        (contains_back all_front (oxum ∷ back) x (contains_behind oxum back x has))

    in_added_part : (x : NewElement) → Contains new x ⊎ Contains added x → Contains made x
    in_added_part x (inl has) =
        in_made x (inl (contains_back front (new ++ added) x (contains_front new added x has)))
    in_added_part x (inr has) =
        in_made x (inl (contains_back front (new ++ added) x (contains_back new added x has)))

    made_has : (xs : List NewElement) (label : List ℕ) → ((x : NewElement) → Contains xs x → Contains made x)
        → Has xs label → Has made label
    made_has xs label each has =
        let m = has_member xs label has in member_has made m.0 label (each m.0 m.1) m.2

    set_in_front : (label : List ℕ) → IsSet changes label → Has here.first label → Has made label
    set_in_front label is_set has = elim (set_stays changes here.first [] label is_set has) [
      | inl nothing ↦ absurd (has_none label nothing)
      | inr there ↦
          made_has front label (λ x in_it. in_made x (inl (contains_front front (new ++ added) x in_it))) there
    ]

    set_in_back : (label : List ℕ) → IsSet changes label → Has here.rest label → Has made label
    set_in_back label is_set has = elim (set_stays changes here.rest here.before label is_set has) [
      | inl before ↦ set_in_front label is_set (here.first_seen label is_set before)
      | inr there ↦ (let m = has_member (replaced changes here.before here.rest) label there in
          let in_it = passed is_other (replaced changes here.before here.rest) m.0
          (other_so m.0.0 (λ same. oxum_not_set label (sym same ∙ m.2) is_set)) m.1 in
          member_has made m.0 label (in_made m.0 (inr in_it)) m.2)
    ]

    set_is_there : (x : NewElement) → Contains (replaced changes [] changes.set) x → Has made x.0
    set_is_there x has = by_test (some_has old x.0) refl
      where
        is_set : IsSet changes x.0
        is_set =
            replaced_has changes changes.set [] x.0 (member_has (replaced changes [] changes.set) x x.0 has refl)

        by_test : (b : Bool) → some_has old x.0 ≡ b → Has made x.0
        by_test true old_has = elim (here.either x.0 is_set old_has) [
          | inl in_first ↦ set_in_front x.0 is_set in_first
          | inr in_rest ↦ set_in_back x.0 is_set in_rest
        ]
        by_test false lacks =
            member_has made x x.0
            (in_added_part x (inl (passed (λ (element : NewElement). not (some_has old element.0))
            (replaced changes [] changes.set) x (ap not lacks) has))) refl

    none_new : new_ones changes made ≡ []
    none_new =
        filter_none (λ (element : NewElement). not (some_has made element.0)) (replaced changes [] changes.set)
        (λ x has. ap not (set_is_there x has))

    stands_in : (xs : List NewElement) (a : NewElement) → ((x : NewElement) → Contains xs x → Contains made x)
        → Stands a xs → Stands a made
    stands_in xs a each there =
        let m = from_any (is_same a) xs there in any_from (is_same a) made m.0 (each m.0 m.1) m.2

    stands_once : (a : NewElement) → Contains changes.appended a → Stands a (replaced changes [] old ++ new)
        → Stands a made
    stands_once a has there =
        let m = from_any (is_same a) (replaced changes [] old ++ new) there in
        elim (contains_either (replaced changes [] old) new m.0 m.1) [
          | inl in_old ↦ elim (here.stands a other (any_from (is_same a) (replaced changes [] old) m.0 in_old m.2)) [
            | inl in_front ↦
                stands_in front a (λ x in_it. in_made x (inl (contains_front front (new ++ added) x in_it))) in_front
            | inr in_back ↦ stands_in back a (λ x in_it. in_made x (inr in_it)) in_back
          ]
          | inr is_new ↦ any_from (is_same a) made m.0 (in_added_part m.0 (inl is_new)) m.2
        ]
      where
        other : AreSame a.0 oxum_label → ⊥
        other same = false≢true (sym asked.appended ∙ member_has changes.appended a oxum_label has same)

    appended_stands : (a : NewElement) → Contains changes.appended a → Stands a made
    appended_stands a has = by_test (list_any (is_same a) (replaced changes [] old ++ new)) refl
      where
        by_test : (b : Bool) → list_any (is_same a) (replaced changes [] old ++ new) ≡ b → Stands a made
        by_test true there = stands_once a has there
        by_test false lacks =
            any_from (is_same a) made a
            (in_added_part a (inr (passed
            (λ (element : NewElement). not (list_any (is_same element) (replaced changes [] old ++ new)))
            changes.appended a (ap not lacks) has))) (itself_same a)

    none_appended : appended_to changes (replaced changes [] made ++ new_ones changes made) ≡ []
    none_appended =
        filter_none (λ (element : NewElement).
        not (list_any (is_same element) (replaced changes [] made ++ new_ones changes made))) changes.appended
        (λ a has. ap not
        (subst (Stands a) (sym (append-nil made) ∙ (λ i. sym fixed i ++ sym none_new i)) (appended_stands a has)))

    none_added : added_to changes made ≡ []
    none_added = λ i. none_new i ++ none_appended i

    renewed_once : renewed_elements changes size made ≡ made
    renewed_once = (λ i. same_front i ++ (none_added i ++ (oxum ∷ same_back i))) ∙ sym whole

pub renewed_once_only : ElementsAreRenewedOnce
renewed_once_only changes size old good = renewed_once changes (can_be_asked changes good) size old
