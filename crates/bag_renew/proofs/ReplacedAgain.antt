-- Elements of which some were replaced: replaced again, they are the same.
use Rattle.bag_renew.proofs.Common.{◌≡◌, ◌⊎◌, ◌++◌, ◌∷◌, ◌∙◌, inl, inr, ℕ, Bool, true, false, cond, List, [], refl}
use Rattle.bag_renew.proofs.Common.{sym, ap, subst, Contains, append-nil, append_assoc, bytes_eq, bytes_eq-Decides}
use Rattle.bag_renew.proofs.Common.{false_from_ne_true, false≢true, any_from, from_any, contains_behind}
use Rattle.bag_renew.proofs.Common.{contains_cases, contains_either, contains_first, contains_nothing, contains_back}
use Rattle.bag_renew.proofs.Common.{contains_front, filter, list_any}
use Rattle.std.proofs.lemmas.List.Elements.{filter-append}
use Rattle.std.specs.Str.{str_to_ascii_lowercase}
use Rattle.bag_facts.proofs.Mapped.{kept, passed}
use Rattle.bag_text.specs.Text.{same_label}
use Rattle.bag_tags.specs.Element.{NewElement}
use Rattle.bag_renewed.specs.Elements.{goes, has_label, in_place_of, replaced, some_has}
use Rattle.bag_renewed.specs.declared.renewal.ElementChanges.{ElementChanges}

-- ---- labels

-- two labels are the same, but for their case
abbrev pub AreSame : List ℕ → List ℕ → Type 0
AreSame a b = str_to_ascii_lowercase a ≡ str_to_ascii_lowercase b

pub are_same : (a b : List ℕ) → same_label a b ≡ true → AreSame a b
are_same a b is = (bytes_eq-Decides (str_to_ascii_lowercase a) (str_to_ascii_lowercase b)).0 is

pub same_so : (a b : List ℕ) → AreSame a b → same_label a b ≡ true
same_so a b same = (bytes_eq-Decides (str_to_ascii_lowercase a) (str_to_ascii_lowercase b)).1 same

-- some element has the label
abbrev pub Has : List NewElement → List ℕ → Type 0
Has xs label = some_has xs label ≡ true

pub member_has : (xs : List NewElement) (x : NewElement) (label : List ℕ) → Contains xs x → AreSame x.0 label
    → Has xs label
member_has xs x label in_it same = any_from (has_label label) xs x in_it (same_so x.0 label same)

pub has_member : (xs : List NewElement) (label : List ℕ) → Has xs label
    → (x : NewElement) × Contains xs x × AreSame x.0 label
has_member xs label has =
    let m = from_any (has_label label) xs has in (m.0, m.1, are_same m.0.0 label m.2)

pub has_same : (xs : List NewElement) (a b : List ℕ) → AreSame a b → Has xs a → Has xs b
has_same xs a b same has = let m = has_member xs a has in member_has xs m.0 b m.1 (m.2 ∙ same)

pub has_front : (xs ys : List NewElement) (label : List ℕ) → Has xs label → Has (xs ++ ys) label
has_front xs ys label has =
    let m = has_member xs label has in member_has (xs ++ ys) m.0 label (contains_front xs ys m.0 m.1) m.2

pub has_back : (xs ys : List NewElement) (label : List ℕ) → Has ys label → Has (xs ++ ys) label
has_back xs ys label has =
    let m = has_member ys label has in member_has (xs ++ ys) m.0 label (contains_back xs ys m.0 m.1) m.2

pub has_either : (xs ys : List NewElement) (label : List ℕ) → Has (xs ++ ys) label → Has xs label ⊎ Has ys label
has_either xs ys label has =
    let m = has_member (xs ++ ys) label has in
    elim (contains_either xs ys m.0 m.1) [
      | inl in_xs ↦ inl (member_has xs m.0 label in_xs m.2)
      | inr in_ys ↦ inr (member_has ys m.0 label in_ys m.2)
    ]

pub has_filtered : (p : NewElement → Bool) (xs : List NewElement) (label : List ℕ) → Has (filter p xs) label
    → Has xs label
has_filtered p xs label has =
    let m = has_member (filter p xs) label has in member_has xs m.0 label (kept p xs m.0 m.1).1 m.2

pub has_none : (label : List ℕ) → Has [] label → ⊥
has_none label has = false≢true has

pub some_same : (xs : List NewElement) (a b : List ℕ) → AreSame a b → some_has xs a ≡ some_has xs b
some_same xs a b same = ap (λ t. list_any (λ (e : NewElement). bytes_eq (str_to_ascii_lowercase e.0) t) xs) same

-- the same label is unset
pub goes_same : (changes : ElementChanges) (a b : List ℕ) → AreSame a b → goes changes a ≡ goes changes b
goes_same changes a b same = ap (λ t. list_any (λ one. bytes_eq (str_to_ascii_lowercase one) t) changes.unset) same

-- ---- filters

pub filter_all : {A : Type 0} (p : A → Bool) (xs : List A) → ((x : A) → Contains xs x → p x ≡ true)
    → filter p xs ≡ xs
filter_all p [] all = refl
filter_all p (x ∷ xs) all =
    ap (λ b. cond b (x ∷ filter p xs) (filter p xs)) (all x (contains_first x xs))
    ∙ ap (λ ys. x ∷ ys) (filter_all p xs (λ y has. all y (contains_behind x xs y has)))

pub filter_none : {A : Type 0} (p : A → Bool) (xs : List A) → ((x : A) → Contains xs x → p x ≡ false)
    → filter p xs ≡ []
filter_none p [] none = refl
filter_none p (x ∷ xs) none =
    ap (λ b. cond b (x ∷ filter p xs) (filter p xs)) (none x (contains_first x xs))
    ∙ filter_none p xs (λ y has. none y (contains_behind x xs y has))

-- ---- what was seen before

-- the elements that were seen after some more
abbrev pub seen : List NewElement → List NewElement → List NewElement
seen [] before = before
seen (x ∷ xs) before = seen xs (x ∷ before)

pub has_seen : (xs before : List NewElement) (label : List ℕ) → Has (seen xs before) label
    → Has xs label ⊎ Has before label
has_seen [] before label has = inr has
has_seen (x ∷ xs) before label has = elim (has_seen xs (x ∷ before) label has) [
  | inl later ↦ inl (has_back (x ∷ []) xs label later)
  | inr first ↦ elim (has_either (x ∷ []) before label first) [
    | inl one ↦ inl (has_front (x ∷ []) xs label one)
    | inr old ↦ inr old
  ]
]

pub seen_has : (xs before : List NewElement) (label : List ℕ) → Has xs label ⊎ Has before label
    → Has (seen xs before) label
seen_has [] before label (inl has) = absurd (has_none label has)
seen_has [] before label (inr has) = has
seen_has (x ∷ xs) before label (inl has) = elim (has_either (x ∷ []) xs label has) [
  | inl one ↦ seen_has xs (x ∷ before) label (inr (has_front (x ∷ []) before label one))
  | inr more ↦ seen_has xs (x ∷ before) label (inl more)
]
seen_has (x ∷ xs) before label (inr has) =
    seen_has xs (x ∷ before) label (inr (has_back (x ∷ []) before label has))

module _ (changes : ElementChanges) where
  abbrev pub IsSet : List ℕ → Type 0
  IsSet label = Has changes.set label

  -- the elements that are set with a label
  abbrev pub block : List ℕ → List NewElement
  block label = filter (has_label label) changes.set

  pub in_block : (label : List ℕ) (x : NewElement) → Contains (block label) x → AreSame x.0 label
  in_block label x has = are_same x.0 label (kept (has_label label) changes.set x has).0

  pub same_block : (a b : List ℕ) → AreSame a b → block a ≡ block b
  same_block a b same =
      ap (λ t. filter (λ (e : NewElement). bytes_eq (str_to_ascii_lowercase e.0) t) changes.set) same

  pub replaced_append : (xs ys before : List NewElement)
      → replaced changes before (xs ++ ys) ≡ replaced changes before xs ++ replaced changes (seen xs before) ys
  replaced_append [] ys before = refl
  replaced_append (x ∷ xs) ys before =
      ap (λ zs. in_place_of changes before x ++ zs) (replaced_append xs ys (x ∷ before))
      ∙ sym (append_assoc (in_place_of changes before x) (replaced changes (x ∷ before) xs)
      (replaced changes (seen xs (x ∷ before)) ys))

  -- ---- what stands in the place of one

  abbrev pub place : Bool → Bool → Bool → NewElement → List NewElement
  place set before unset x = cond set (cond before [] (block x.0)) (cond unset [] (x ∷ []))

  module _ (before : List NewElement) (x : NewElement) where
    pub place_is : (s b g : Bool) → some_has changes.set x.0 ≡ s → some_has before x.0 ≡ b → goes changes x.0 ≡ g
        → in_place_of changes before x ≡ place s b g x
    place_is s b g is_set is_before is_unset =
        ap (λ t. place t (some_has before x.0) (goes changes x.0) x) is_set
        ∙ ap (λ t. place s t (goes changes x.0) x) is_before ∙ ap (λ t. place s b t x) is_unset

    in_place_by : (s b g : Bool) (y : NewElement) → Contains (place s b g x) y → AreSame y.0 x.0
    in_place_by true true g y has = absurd (contains_nothing y has)
    in_place_by true false g y has = in_block x.0 y has
    in_place_by false b true y has = absurd (contains_nothing y has)
    in_place_by false b false y has = elim (contains_cases x [] y has) [
      | inl same ↦ sym (ap (λ (e : NewElement). str_to_ascii_lowercase e.0) same)
      | inr none ↦ absurd (contains_nothing y none)
    ]

    -- has its label
    pub in_place : (y : NewElement) → Contains (in_place_of changes before x) y → AreSame y.0 x.0
    in_place y has =
        in_place_by (some_has changes.set x.0) (some_has before x.0) (goes changes x.0) y has

    pub place_has : (label : List ℕ) → Has (in_place_of changes before x) label → AreSame x.0 label
    place_has label has =
        let m = has_member (in_place_of changes before x) label has in sym (in_place m.0 m.1) ∙ m.2

  -- so no label is new
  pub replaced_has : (xs before : List NewElement) (label : List ℕ) → Has (replaced changes before xs) label
      → Has xs label
  replaced_has [] before label has = has
  replaced_has (x ∷ xs) before label has =
      elim (has_either (in_place_of changes before x) (replaced changes (x ∷ before) xs) label has) [
        | inl here ↦ member_has (x ∷ xs) x label (contains_first x xs) (place_has before x label here)
        | inr later ↦ has_back (x ∷ []) xs label (replaced_has xs (x ∷ before) label later)
      ]

  -- and one that is set stays, where it wasn't there before
  pub set_stays : (xs before : List NewElement) (label : List ℕ) → IsSet label → Has xs label
      → Has before label ⊎ Has (replaced changes before xs) label
  set_stays [] before label is_set has = absurd (has_none label has)
  set_stays (x ∷ xs) before label is_set has = elim (has_either (x ∷ []) xs label has) [
    | inl one ↦ (let m = has_member (x ∷ []) label one in
        first (only m.0 m.1 m.2) (some_has before x.0) refl)
    | inr more ↦ elim (set_stays xs (x ∷ before) label is_set more) [
      | inl there ↦ elim (has_either (x ∷ []) before label there) [
        | inl one ↦ (let m = has_member (x ∷ []) label one in
            first (only m.0 m.1 m.2) (some_has before x.0) refl)
        | inr old ↦ inl old
      ]
      | inr later ↦ inr (has_back (in_place_of changes before x) (replaced changes (x ∷ before) xs) label later)
    ]
  ]
    where
      only : (y : NewElement) → Contains (x ∷ []) y → AreSame y.0 label → AreSame x.0 label
      only y in_it same = elim (contains_cases x [] y in_it) [
        | inl one ↦ ap (λ (e : NewElement). str_to_ascii_lowercase e.0) one ∙ same
        | inr none ↦ absurd (contains_nothing y none)
      ]

      first : AreSame x.0 label → (b : Bool) → some_has before x.0 ≡ b
          → Has before label ⊎ Has (replaced changes before (x ∷ xs)) label
      first same true is_before = inl (has_same before x.0 label same is_before)
      first same false is_before =
          let m = has_member changes.set label is_set in
          let in_it : Contains (block x.0) m.0 =
          passed (has_label x.0) changes.set m.0 (same_so m.0.0 x.0 (m.2 ∙ sym same)) m.1 in
          let is = place_is before x true false (goes changes x.0)
          (has_same changes.set label x.0 (sym same) is_set) is_before refl in
          inr (has_front (in_place_of changes before x) (replaced changes (x ∷ before) xs) label
          (subst (λ es. Has es label) (sym is) (member_has (block x.0) m.0 label in_it m.2)))

  -- ---- what is the same when it is replaced

  abbrev pub Fixed : List NewElement → List NewElement → Type 0
  Fixed before xs = replaced changes before xs ≡ xs

  pub fixed_append : (xs ys before : List NewElement) → Fixed before xs → Fixed (seen xs before) ys
      → Fixed before (xs ++ ys)
  fixed_append xs ys before first later =
      replaced_append xs ys before ∙ ap (λ zs. zs ++ replaced changes (seen xs before) ys) first
      ∙ ap (λ zs. xs ++ zs) later

  -- an element that is neither set nor unset
  abbrev pub IsPlain : NewElement → Type 0
  IsPlain x = (some_has changes.set x.0 ≡ false) × (goes changes x.0 ≡ false)

  -- stands in its place
  pub plain_first : (x : NewElement) (xs before : List NewElement) → IsPlain x
      → replaced changes before (x ∷ xs) ≡ x ∷ replaced changes (x ∷ before) xs
  plain_first x xs before plain =
      ap (λ zs. zs ++ replaced changes (x ∷ before) xs)
      (place_is before x false (some_has before x.0) false plain.0 refl plain.1)

  pub fixed_plain : (xs before : List NewElement) → ((x : NewElement) → Contains xs x → IsPlain x) → Fixed before xs
  fixed_plain [] before plain = refl
  fixed_plain (x ∷ xs) before plain =
      plain_first x xs before (plain x (contains_first x xs))
      ∙ ap (λ zs. x ∷ zs) (fixed_plain xs (x ∷ before) (λ y has. plain y (contains_behind x xs y has)))

  -- the others with a label that is set go, once one was there
  others_go : (es before : List NewElement) (label : List ℕ) → IsSet label → Has before label
      → ((x : NewElement) → Contains es x → AreSame x.0 label) → replaced changes before es ≡ []
  others_go [] before label is_set there all = refl
  others_go (x ∷ es) before label is_set there all =
      let same = all x (contains_first x es) in
      ap (λ zs. zs ++ replaced changes (x ∷ before) es)
      (place_is before x true true (goes changes x.0) (has_same changes.set label x.0 (sym same) is_set)
      (has_same before label x.0 (sym same) there) refl)
      ∙ others_go es (x ∷ before) label is_set (has_back (x ∷ []) before label there)
      (λ y has. all y (contains_behind x es y has))

  -- all that are set with a label stand in the place of the first
  fixed_block : (es before : List NewElement) (label : List ℕ) → IsSet label → some_has before label ≡ false
      → block label ≡ es → Fixed before es
  fixed_block [] before label is_set none is = refl
  fixed_block (x ∷ es) before label is_set none is =
      let all : (y : NewElement) → Contains (x ∷ es) y → AreSame y.0 label =
      λ y has. in_block label y (subst (λ l. Contains l y) (sym is) has) in
      let same = all x (contains_first x es) in
      let fresh : some_has before x.0 ≡ false =
      false_from_ne_true _ (λ has. false≢true (sym none ∙ has_same before x.0 label same has)) in
      ap (λ zs. zs ++ replaced changes (x ∷ before) es)
      (place_is before x true false (goes changes x.0) (has_same changes.set label x.0 (sym same) is_set) fresh refl
      ∙ same_block x.0 label same ∙ is)
      ∙ ap (λ zs. (x ∷ es) ++ zs) (others_go es (x ∷ before) label is_set
      (member_has (x ∷ before) x label (contains_first x before) same)
      (λ y has. all y (contains_behind x es y has)))
      ∙ append-nil (x ∷ es)

  -- ---- replaced, and then replaced again

  -- of those whose label passes
  module _ (test : List ℕ → Bool) (respects : (a b : List ℕ) → AreSame a b → test a ≡ true → test b ≡ true) where
    abbrev pub passes : NewElement → Bool
    passes x = test x.0

    abbrev kept_of : List NewElement → List NewElement
    kept_of xs = filter passes xs

    -- a label that is set and was seen now was seen before
    abbrev pub IsSeenAlike : List NewElement → List NewElement → List NewElement → Type 0
    IsSeenAlike xs now before =
        (label : List ℕ) → Has xs label → test label ≡ true → IsSet label → Has now label → Has before label

    fixed_by : (x : NewElement) (before now : List NewElement) → IsSeenAlike (x ∷ []) now before
        → (t s b g : Bool) → test x.0 ≡ t → some_has changes.set x.0 ≡ s → some_has before x.0 ≡ b
        → goes changes x.0 ≡ g → Fixed now (kept_of (place s b g x))
    fixed_by x before now alike false s b g is_out is_set is_before is_unset =
        subst (Fixed now) (sym (filter_none passes (place s b g x) (λ y has.
        false_from_ne_true _ (λ is. false≢true (sym is_out
        ∙ respects y.0 x.0 (in_place_by before x s b g y has) is))))) refl
    fixed_by x before now alike true true true g is_in is_set is_before is_unset = refl
    fixed_by x before now alike true true false g is_in is_set is_before is_unset =
        subst (Fixed now) (sym (filter_all passes (block x.0) (λ y has.
        respects x.0 y.0 (sym (in_block x.0 y has)) is_in)))
        (fixed_block (block x.0) now x.0 is_set
        (false_from_ne_true _ (λ has. false≢true (sym is_before
        ∙ alike x.0 (member_has (x ∷ []) x x.0 (contains_first x []) refl) is_in is_set has))) refl)
    fixed_by x before now alike true false b true is_in is_set is_before is_unset = refl
    fixed_by x before now alike true false b false is_in is_set is_before is_unset =
        subst (Fixed now) (sym (filter_all passes (x ∷ []) (λ y has. elim (contains_cases x [] y has) [
          | inl same ↦ ap passes (sym same) ∙ is_in
          | inr none ↦ absurd (contains_nothing y none)
        ])))
        (fixed_plain (x ∷ []) now (λ y has. elim (contains_cases x [] y has) [
          | inl same ↦ subst IsPlain same (is_set, is_unset)
          | inr none ↦ absurd (contains_nothing y none)
        ]))

    pub again : (xs before now : List NewElement) → IsSeenAlike xs now before
        → Fixed now (kept_of (replaced changes before xs))
    again [] before now alike = refl
    again (x ∷ xs) before now alike =
        let here = in_place_of changes before x in
        let later = replaced changes (x ∷ before) xs in
        subst (Fixed now) (sym (filter-append passes here later))
        (fixed_append (kept_of here) (kept_of later) now
        (fixed_by x before now
        (λ label has. alike label (has_front (x ∷ []) xs label has))
        (test x.0) (some_has changes.set x.0) (some_has before x.0) (goes changes x.0) refl refl refl refl)
        (again xs (x ∷ before) (seen (kept_of here) now) (λ label has passing is_set there.
        elim (has_seen (kept_of here) now label there) [
          | inl one ↦ member_has (x ∷ before) x label (contains_first x before)
              (place_has before x label (has_filtered passes here label one))
          | inr old ↦ has_back (x ∷ []) before label
              (alike label (has_back (x ∷ []) xs label has) passing is_set old)
        ])))
