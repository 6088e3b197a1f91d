-- Places of the elements of bag-info.txt after a renewal.
use Rattle.bag_renew.proofs.Common.{◌≡◌, ◌++◌, ◌∷◌, ◌∙◌, ◌||◌, inl, inr, ℕ, Bool, true, false, not, List, [], refl, sym}
use Rattle.bag_renew.proofs.Common.{ap, subst, Contains, append-nil, append_assoc, filter, list_any, false_from_ne_true}
use Rattle.bag_renew.proofs.Common.{false≢true, or_cases, contains_first, contains_back, and_parts, bytes_eq, cond}
use Rattle.std.proofs.lemmas.List.Elements.{filter-append}
use Rattle.std.proofs.lemmas.List.Folds.{list_any-append}
use Rattle.bag_facts.proofs.Mapped.{kept, passed}
use Rattle.bag_text.specs.Text.{same_label}
use Rattle.bag_stages.specs.MetadataStage.{oxum_label}
use Rattle.bag_tags.specs.Element.{NewElement}
use Rattle.bag_renew.specs.ElementLaws.{AppendedElementsAreLast, AreAppended, NewElementsStandBeforeOxum, NewOxumIsLast}
use Rattle.bag_renew.specs.ElementLaws.{OxumStandsInPlace, SetElementsStandInPlace, StandTogether, is_replaced}
use Rattle.bag_renew.specs.ElementLaws.{without_appended}
use Rattle.bag_renewed.specs.Elements.{after_oxum, appended_to, before_oxum, has_label, in_place_of, is_same, new_ones}
use Rattle.bag_renewed.specs.Elements.{renewed_elements, replaced, some_has}
use Rattle.bag_renewed.specs.declared.renewal.ElementChanges.{ElementChanges}
use Rattle.bag_renew.proofs.ComposedElements.{any_alike, any_cut, composed_after, composed_at, composed_past}
use Rattle.bag_renew.proofs.ComposedElements.{filter_alike, filter_twice}
use Rattle.bag_renew.proofs.CutAtOxum.{IsFirstOxum, after_none, after_of, before_all, before_of, first_oxum, is_other}
use Rattle.bag_renew.proofs.CutAtOxum.{is_oxum}
use Rattle.bag_renew.proofs.ElementLaws.{added, added_unasked, all, appended_unasked, before_in, in_new, is_new}
use Rattle.bag_renew.proofs.ElementLaws.{is_new_so, is_unasked, made, no_replaced_added, none_added, none_before}
use Rattle.bag_renew.proofs.ElementLaws.{none_with, other_no, oxum_is, oxum_no, same_if, same_labels, set_at, set_no}
use Rattle.bag_renew.proofs.ElementLaws.{unasked_composed, unasked_none, unasked_replaced, with_set}
use Rattle.bag_renew.proofs.ElementsAgain.{CanBeAsked, can_be_asked, none_replaced, oxum_not_set, oxum_plain}
use Rattle.bag_renew.proofs.ReplacedAgain.{Has, IsSet, are_same, block, filter_all, has_back, has_either, has_filtered}
use Rattle.bag_renew.proofs.ReplacedAgain.{has_front, has_member, has_none, has_same, in_block, member_has, plain_first}
use Rattle.bag_renew.proofs.ReplacedAgain.{replaced_append, replaced_has, same_so, seen, set_stays, some_same}

module _ (changes : ElementChanges) (asked : CanBeAsked changes) where
  unasked_others : (xs before : List NewElement)
      → filter (is_unasked changes) (filter is_other (replaced changes before xs)) ≡ filter (is_unasked changes) xs
  unasked_others xs before =
      filter_twice (is_unasked changes) is_other (replaced changes before xs) (other_no changes)
      ∙ unasked_replaced changes xs before

  block_other : (label : List ℕ) → IsSet changes label → (x : NewElement) → Contains (block changes label) x
      → is_oxum x ≡ false
  block_other label is_set x has = false_from_ne_true _ (λ is.
      oxum_not_set changes asked label (sym (are_same x.0 oxum_label is) ∙ in_block changes label x has) is_set)

  -- ---- in the place of the first

  module _ (size : List ℕ) (before : List NewElement) (first : NewElement) (behind : List NewElement) where
    abbrev old : List NewElement
    old = before ++ (first ∷ behind)

    abbrev front : List NewElement
    front = replaced changes [] before

    abbrev back : List NewElement
    back = replaced changes (first ∷ seen before []) behind

    abbrev put : List NewElement → List NewElement
    put xs = made changes asked old size xs

    module _ (is_set : IsSet changes first.0) (none : some_has before first.0 ≡ false) where
      abbrev them : List NewElement
      them = block changes first.0

      set_here : all changes old ≡ front ++ (them ++ back)
      set_here = set_at changes before first behind is_set none

      none_of_them : list_any is_oxum them ≡ false
      none_of_them = false_from_ne_true _ (λ has.
          let m = has_member them oxum_label has in
          false≢true (sym (block_other first.0 is_set m.0 m.1) ∙ same_so m.0.0 oxum_label m.2))

      set_before : list_any is_oxum front ≡ false
          → StandTogether changes old before behind them (put (all changes old))
      set_before lacks = record {
        front = front;
        back = put back;
        whole =
            ap put set_here ∙ composed_past size (added changes old) front (them ++ back) lacks
            ∙ ap (λ zs. front ++ zs) (composed_past size (added changes old) them back none_of_them);
        stay_before = unasked_replaced changes before [];
        stay_behind =
            unasked_composed changes old size back ∙ unasked_replaced changes behind (first ∷ seen before []);
        replaced_before = λ label is there. same_labels changes asked before label is;
      }

      set_after : list_any is_oxum front ≡ true
          → StandTogether changes old before behind them (put (all changes old))
      set_after has = record {
        front = put front;
        back = filter is_other back;
        whole =
            ap put set_here ∙ composed_after size (added changes old) front (them ++ back) has
            ∙ ap (λ zs. put front ++ zs) (filter-append is_other them back
            ∙ ap (λ zs. zs ++ filter is_other back)
            (filter_all is_other them (λ x there. ap not (block_other first.0 is_set x there))));
        stay_before = unasked_composed changes old size front ∙ unasked_replaced changes before [];
        stay_behind = unasked_others behind (first ∷ seen before []);
        replaced_before = λ label is there.
            elim (or_cases (some_has changes.set label) (same_label label oxum_label) is) [
              | inl label_set ↦
                  any_alike (has_label label) (put front) front (with_set changes asked old size label front label_set
                  (none_with (added changes old) label (none_added changes asked old label label_set there)))
                  ∙ same_labels changes asked before label is
              | inr same ↦ (let same_is = are_same label oxum_label same in
                  has_same (put front) oxum_label label (sym same_is)
                  (has_back (before_oxum front) (added changes old ++ ((oxum_label, size) ∷ after_oxum front))
                  oxum_label
                  (has_back (added changes old) ((oxum_label, size) ∷ after_oxum front) oxum_label
                  (member_has ((oxum_label, size) ∷ after_oxum front) (oxum_label, size) oxum_label
                  (contains_first (oxum_label, size) (after_oxum front)) refl)))
                  ∙ sym (has_same before oxum_label label (sym same_is)
                  (replaced_has changes before [] oxum_label has)))
            ];
      }

      set_stand : (b : Bool) → list_any is_oxum front ≡ b
          → StandTogether changes old before behind them (put (all changes old))
      set_stand true has = set_after has
      set_stand false lacks = set_before lacks

    module _ (is : is_oxum first ≡ true) (none : some_has before oxum_label ≡ false) where
      oxum_here : all changes old ≡ front ++ (first ∷ back)
      oxum_here =
          replaced_append changes before (first ∷ behind) []
          ∙ ap (λ zs. front ++ zs)
          (plain_first changes first behind (seen before [])
          (oxum_plain changes asked first (are_same first.0 oxum_label is)))

      oxum_stands : StandTogether changes old before behind ((oxum_label, size) ∷ []) (put (all changes old))
      oxum_stands = record {
        front = front ++ added changes old;
        back = filter is_other back;
        whole =
            ap put oxum_here
            ∙ composed_at size (added changes old) front back first (none_replaced changes asked before none) is
            ∙ sym (append_assoc front (added changes old) ((oxum_label, size) ∷ filter is_other back));
        stay_before =
            filter-append (is_unasked changes) front (added changes old)
            ∙ (λ i. unasked_replaced changes before [] i ++ added_unasked changes old i)
            ∙ append-nil (filter (is_unasked changes) before);
        stay_behind = unasked_others behind (first ∷ seen before []);
        replaced_before = λ label is there. same_if _ _
            (λ has. elim (has_either front (added changes old) label has) [
              | inl in_front ↦ replaced_has changes before [] label in_front
              | inr more ↦ absurd (no_replaced_added changes asked old label is there more)
            ])
            (λ has. has_front front (added changes old) label (same_labels changes asked before label is ∙ has));
      }

  module _ (size : List ℕ) (old : List NewElement) where
    abbrev size_of : NewElement
    size_of = (oxum_label, size)

    abbrev whole_of : List NewElement
    whole_of = all changes old

    -- ---- Payload-Oxum where there was none

    oxum_last : some_has old oxum_label ≡ false
        → (front : List NewElement) × (made changes asked old size whole_of ≡ front ++ (size_of ∷ []))
    oxum_last lacks = (
      whole_of ++ added changes old,
      ap (made changes asked old size) (sym (append-nil whole_of))
          ∙ composed_past size (added changes old) whole_of [] (none_replaced changes asked old lacks)
          ∙ sym (append_assoc whole_of (added changes old) (size_of ∷ [])),
    )

    -- ---- the elements before Payload-Oxum, and behind it

    cut_so : (start end : List NewElement) (o : NewElement) → IsFirstOxum old start end o
        → whole_of ≡ replaced changes [] start ++ (o ∷ replaced changes (o ∷ seen start []) end)
    cut_so start end o at =
        ap (replaced changes []) at.whole ∙ replaced_append changes start (o ∷ end) []
        ∙ ap (λ zs. replaced changes [] start ++ zs)
        (plain_first changes o end (seen start []) (oxum_plain changes asked o (are_same o.0 oxum_label at.is)))

    before_so : (start end : List NewElement) (o : NewElement) → IsFirstOxum old start end o
        → before_oxum whole_of ≡ replaced changes [] start
    before_so start end o at =
        ap before_oxum (cut_so start end o at)
        ∙ before_of o (replaced changes (o ∷ seen start []) end) (replaced changes [] start)
        (none_replaced changes asked start at.none) at.is

    after_so : (start end : List NewElement) (o : NewElement) → IsFirstOxum old start end o
        → after_oxum whole_of ≡ filter is_other (replaced changes (o ∷ seen start []) end)
    after_so start end o at =
        ap after_oxum (cut_so start end o at)
        ∙ after_of o (replaced changes (o ∷ seen start []) end) (replaced changes [] start)
        (none_replaced changes asked start at.none) at.is

    old_before : (filter (is_unasked changes) (before_oxum whole_of) ≡ filter (is_unasked changes) (before_oxum old))
        × (filter (is_unasked changes) (after_oxum whole_of) ≡ filter (is_unasked changes) (after_oxum old))
    old_before = elim (first_oxum old) [
      | inl lacks ↦ (
        ap (filter (is_unasked changes)) (before_all whole_of (none_replaced changes asked old lacks))
            ∙ unasked_replaced changes old [] ∙ sym (ap (filter (is_unasked changes)) (before_all old lacks)),
        ap (filter (is_unasked changes)) (after_none whole_of (none_replaced changes asked old lacks))
            ∙ sym (ap (filter (is_unasked changes)) (after_none old lacks)),
      )
      | inr (start, end, o, at) ↦ (
        ap (filter (is_unasked changes)) (before_so start end o at) ∙ unasked_replaced changes start []
            ∙ sym (ap (filter (is_unasked changes)) (ap before_oxum at.whole ∙ before_of o end start at.none at.is)),
        ap (filter (is_unasked changes)) (after_so start end o at) ∙ unasked_others end (o ∷ seen start [])
            ∙ sym (ap (filter (is_unasked changes)) (ap after_oxum at.whole ∙ after_of o end start at.none at.is)
            ∙ filter_twice (is_unasked changes) is_other end (other_no changes)),
      )
    ]

    old_labels : (label : List ℕ) → is_replaced changes label ≡ true
        → some_has (before_oxum whole_of) label ≡ some_has (before_oxum old) label
    old_labels label is = elim (first_oxum old) [
      | inl lacks ↦
          ap (λ es. some_has es label) (before_all whole_of (none_replaced changes asked old lacks))
          ∙ same_labels changes asked old label is ∙ sym (ap (λ es. some_has es label) (before_all old lacks))
      | inr (start, end, o, at) ↦
          ap (λ es. some_has es label) (before_so start end o at) ∙ same_labels changes asked start label is
          ∙ sym (ap (λ es. some_has es label) (ap before_oxum at.whole ∙ before_of o end start at.none at.is))
    ]

    -- ---- set where there was none

    module _ (sooner : List NewElement) (first : NewElement) (later : List NewElement)
        (set_is : changes.set ≡ sooner ++ (first ∷ later)) (none : some_has sooner first.0 ≡ false)
        (lacks : some_has old first.0 ≡ false) where
      abbrev news : List NewElement → List NewElement
      news xs = filter (is_new changes old) xs

      abbrev block_of : List NewElement
      block_of = block changes first.0

      abbrev ones : List NewElement
      ones = news (replaced changes [] sooner)

      abbrev more : List NewElement
      more = news (replaced changes (first ∷ seen sooner []) later)

      abbrev appended : List NewElement
      appended = appended_to changes (whole_of ++ new_ones changes old)

      abbrev rest : List NewElement
      rest = more ++ (appended ++ (size_of ∷ after_oxum whole_of))

      sooner_set : (label : List ℕ) → Has sooner label → IsSet changes label
      sooner_set label has =
          subst (λ xs. Has xs label) (sym set_is) (has_front sooner (first ∷ later) label has)

      first_set : IsSet changes first.0
      first_set = member_has changes.set first first.0
          (subst (λ xs. Contains xs first) (sym set_is)
          (contains_back sooner (first ∷ later) first (contains_first first later))) refl

      later_set : (label : List ℕ) → Has later label → IsSet changes label
      later_set label has =
          subst (λ xs. Has xs label) (sym set_is)
          (has_back sooner (first ∷ later) label (has_back (first ∷ []) later label has))

      block_new : news block_of ≡ block_of
      block_new = filter_all (is_new changes old) block_of (λ x has. is_new_so changes old x
          (false_from_ne_true _ (λ there. false≢true (sym lacks
          ∙ has_same old x.0 first.0 (in_block changes first.0 x has) there))))

      new_is_so : new_ones changes old ≡ ones ++ (block_of ++ more)
      new_is_so =
          ap (λ xs. news (replaced changes [] xs)) set_is
          ∙ ap news (set_at changes sooner first later first_set none)
          ∙ filter-append (is_new changes old) (replaced changes [] sooner)
          (block_of ++ replaced changes (first ∷ seen sooner []) later)
          ∙ ap (λ zs. ones ++ zs)
          (filter-append (is_new changes old) block_of (replaced changes (first ∷ seen sooner []) later)
          ∙ ap (λ zs. zs ++ more) block_new)

      regrouped : (b n k m a r : List NewElement)
          → b ++ (((n ++ (k ++ m)) ++ a) ++ r) ≡ (b ++ n) ++ (k ++ (m ++ (a ++ r)))
      regrouped b n k m a r =
          ap (λ zs. b ++ zs) (append_assoc (n ++ (k ++ m)) a r ∙ append_assoc n (k ++ m) (a ++ r)
          ∙ ap (λ zs. n ++ zs) (append_assoc k m (a ++ r)))
          ∙ sym (append_assoc b n (k ++ (m ++ (a ++ r))))

      -- those that are new, of some that are set
      new_unasked : (xs before : List NewElement) → ((label : List ℕ) → Has xs label → IsSet changes label)
          → filter (is_unasked changes) (news (replaced changes before xs)) ≡ []
      new_unasked xs before of_set = unasked_none changes (news (replaced changes before xs)) (λ x has.
          set_no changes x (of_set x.0 (replaced_has changes xs before x.0
          (member_has (replaced changes before xs) x x.0
          (kept (is_new changes old) (replaced changes before xs) x has).1 refl))))

      none_new : (label : List ℕ) → Has old label → Has ones label → ⊥
      none_new label there has =
          let m = has_member ones label has in
          (in_new changes old sooner sooner_set m.0 m.1).1 (has_same old label m.0.0 (sym m.2) there)

      no_oxum_in_ones : Has ones oxum_label → ⊥
      no_oxum_in_ones has =
          let m = has_member ones oxum_label has in
          oxum_not_set changes asked m.0.0 (sym m.2) (in_new changes old sooner sooner_set m.0 m.1).0

      no_oxum_in_front : some_has (before_oxum whole_of ++ ones) oxum_label ≡ false
      no_oxum_in_front = false_from_ne_true _ (λ has. elim (has_either (before_oxum whole_of) ones oxum_label has) [
        | inl in_old ↦ false≢true (sym (none_before whole_of) ∙ in_old)
        | inr in_ones ↦ no_oxum_in_ones in_ones
      ])

      new_labels : (label : List ℕ) → IsSet changes label → some_has old label ≡ false
          → some_has (before_oxum whole_of ++ ones) label ≡ some_has sooner label
      new_labels label is_set lacks_it = same_if _ _
          (λ has. elim (has_either (before_oxum whole_of) ones label has) [
            | inl in_old ↦ absurd (false≢true (sym lacks_it
                ∙ replaced_has changes old [] label (before_in whole_of label in_old)))
            | inr in_ones ↦
                replaced_has changes sooner [] label
                (has_filtered (is_new changes old) (replaced changes [] sooner) label in_ones)
          ])
          (λ has. elim (set_stays changes sooner [] label is_set has) [
            | inl nothing ↦ absurd (has_none label nothing)
            | inr there ↦ (let m = has_member (replaced changes [] sooner) label there in
                has_back (before_oxum whole_of) ones label
                (member_has ones m.0 label
                (passed (is_new changes old) (replaced changes [] sooner) m.0
                (is_new_so changes old m.0 (some_same old m.0.0 label m.2 ∙ lacks_it)) m.1) m.2))
          ])

      new_stands : StandTogether changes old (before_oxum old) (after_oxum old) block_of
          (made changes asked old size whole_of)
      new_stands = record {
        front = before_oxum whole_of ++ ones;
        back = rest;
        whole =
            ap (λ zs. before_oxum whole_of ++ ((zs ++ appended) ++ (size_of ∷ after_oxum whole_of))) new_is_so
            ∙ regrouped (before_oxum whole_of) ones block_of more appended (size_of ∷ after_oxum whole_of);
        stay_before =
            filter-append (is_unasked changes) (before_oxum whole_of) ones
            ∙ (λ i. old_before.0 i ++ new_unasked sooner [] sooner_set i)
            ∙ append-nil (filter (is_unasked changes) (before_oxum old));
        stay_behind =
            filter-append (is_unasked changes) more (appended ++ (size_of ∷ after_oxum whole_of))
            ∙ (λ i. new_unasked later (first ∷ seen sooner []) later_set i
            ++ filter-append (is_unasked changes) appended (size_of ∷ after_oxum whole_of) i)
            ∙ (λ i. appended_unasked changes old (whole_of ++ new_ones changes old) i
            ++ cond (oxum_no changes size_of (oxum_is size) i)
            (size_of ∷ filter (is_unasked changes) (after_oxum whole_of))
            (filter (is_unasked changes) (after_oxum whole_of)))
            ∙ old_before.1;
        replaced_before = λ label is there.
            same_if _ _
            (λ has. elim (has_either (before_oxum whole_of) ones label has) [
              | inl in_old ↦ sym (old_labels label is) ∙ in_old
              | inr in_ones ↦ absurd (none_new label there in_ones)
            ])
            (λ has. has_front (before_oxum whole_of) ones label (old_labels label is ∙ has));
      }

    -- ---- appended

    of_appended : (one : NewElement) → Contains changes.appended one → (x : NewElement) → is_oxum x ≡ true
        → is_same one x ≡ false
    of_appended one has x is = false_from_ne_true _ (λ same.
        false≢true (sym asked.appended
        ∙ member_has changes.appended one oxum_label has
        (sym (are_same x.0 one.0 (and_parts (same_label x.0 one.0) (bytes_eq x.1 one.1) same).0)
        ∙ are_same x.0 oxum_label is)))

    swapped : (a b c : Bool) → ((a || c) || b) ≡ ((a || b) || c)
    swapped true b c = refl
    swapped false true true = refl
    swapped false true false = refl
    swapped false false true = refl
    swapped false false false = refl

    stands_alike : (one : NewElement) → Contains changes.appended one
        → list_any (is_same one) (whole_of ++ new_ones changes old)
        ≡ list_any (is_same one) ((before_oxum whole_of ++ new_ones changes old) ++ after_oxum whole_of)
    stands_alike one has =
        let any = list_any (is_same one) in
        let front = before_oxum whole_of in
        let new = new_ones changes old in
        list_any-append (is_same one) whole_of new
        ∙ ap (λ b. b || any new) (sym (any_cut (is_same one) whole_of (of_appended one has)))
        ∙ swapped (any front) (any new) (any (after_oxum whole_of))
        ∙ ap (λ b. b || any (after_oxum whole_of)) (sym (list_any-append (is_same one) front new))
        ∙ sym (list_any-append (is_same one) (front ++ new) (after_oxum whole_of))

    same_replaced : (xs before : List NewElement)
        → replaced (without_appended changes) before xs ≡ replaced changes before xs
    same_replaced [] before = refl
    same_replaced (x ∷ xs) before = ap (λ zs. in_place_of changes before x ++ zs) (same_replaced xs (x ∷ before))

    appended_last : AreAppended changes.appended size_of (renewed_elements (without_appended changes) size old)
        (renewed_elements changes size old)
    appended_last =
        let front = before_oxum whole_of in
        let new = new_ones changes old in
        let added = appended_to changes (whole_of ++ new) in
        let back = after_oxum whole_of in
        record {
          front = front ++ new;
          added = added;
          back = back;
          whole =
              ap (λ zs. front ++ zs) (append_assoc new added (size_of ∷ back))
              ∙ sym (append_assoc front new (added ++ (size_of ∷ back)));
          without =
              (λ i. before_oxum (same_replaced old [] i)
              ++ ((filter (is_new changes old) (same_replaced changes.set [] i) ++ [])
              ++ (size_of ∷ after_oxum (same_replaced old [] i))))
              ∙ ap (λ zs. front ++ (zs ++ (size_of ∷ back))) (append-nil new)
              ∙ sym (append_assoc front new (size_of ∷ back));
          added_are =
              filter_alike (λ one. not (list_any (is_same one) (whole_of ++ new)))
              (λ one. not (list_any (is_same one) ((front ++ new) ++ back))) changes.appended
              (λ one has. ap not (stands_alike one has));
        }

pub set_stand_in_place : SetElementsStandInPlace
set_stand_in_place changes size before first behind good is_set none =
    set_stand changes (can_be_asked changes good) size before first behind is_set none
    (list_any is_oxum (replaced changes [] before)) refl

pub new_stand_before_oxum : NewElementsStandBeforeOxum
unfolding new_stands
new_stand_before_oxum changes size old sooner first later good set_is none lacks =
    let asked = can_be_asked changes good in
    record {
      together = new_stands changes asked size old sooner first later set_is none lacks;
      none_before = no_oxum_in_front changes asked size old sooner first later set_is none lacks;
      in_order = new_labels changes asked size old sooner first later set_is none lacks;
    }

pub appended_are_last : AppendedElementsAreLast
appended_are_last changes size old good = appended_last changes (can_be_asked changes good) size old

pub oxum_stands_in_place : OxumStandsInPlace
oxum_stands_in_place changes size before first behind good is none =
    oxum_stands changes (can_be_asked changes good) size before first behind is none

pub new_oxum_is_last : NewOxumIsLast
new_oxum_is_last changes size old good lacks = oxum_last changes (can_be_asked changes good) size old lacks
