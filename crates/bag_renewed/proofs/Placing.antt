-- Elements that are placed one after another, and Payload-Oxum among them.
use Rattle.std.proofs.Common.{Bool, List, [], ap, append-nil, append_assoc, arith, cond, false, get_or, not, refl, sym}
use Rattle.std.proofs.Common.{inl, inr, length, take, drop, true, ℕ, ◌++◌, ◌+◌, ◌<◌, ◌∙◌, ◌∷◌, ◌≡◌, ◌||◌}
use Rattle.std.proofs.lemmas.Bool.{cases_lt}
use Rattle.std.proofs.lemmas.List.{drop_all, drop_more, length-take-le}
use Rattle.std.proofs.lemmas.List.Folds.{list_any-append}
use Rattle.std.proofs.lemmas.List.Sums.{prefix_len-le-length, prefix_len_stops}
use Rattle.std.proofs.lemmas.Slice.Eq.{bytes_eq-Decides}
use Rattle.std.specs.List.{list_any, prefix_len}
use Rattle.std.specs.Prelude.{bytes_eq, filter}
use Rattle.std.specs.Str.{str_to_ascii_lowercase}
use Rattle.bag_facts.proofs.Mapped.{take_one_more}
use Rattle.bag_text.specs.Text.{same_label}
use Rattle.bag_tags.specs.Element.{NewElement}
use Rattle.bag_renewed.specs.Elements.{added_to, after_oxum, has_label, in_place_of, renewed_elements, replaced}
use Rattle.bag_renewed.specs.Elements.{some_has}
use Rattle.bag_stages.specs.MetadataStage.{oxum_label}
use Rattle.bag_renewed.specs.Placed.{in_place, is_placed, placed_with}
use Rattle.bag_renewed.specs.declared.renewal.ElementChanges.{ElementChanges}

-- ---- labels that are one

same_lower : (a l : List ℕ) → same_label a l ≡ true → str_to_ascii_lowercase a ≡ str_to_ascii_lowercase l
same_lower a l is = (bytes_eq-Decides (str_to_ascii_lowercase a) (str_to_ascii_lowercase l)).0 is

some_has_same : (es : List NewElement) (a l : List ℕ) → same_label a l ≡ true → some_has es a ≡ some_has es l
some_has_same es a l is = λ i. list_any (λ e. bytes_eq (str_to_ascii_lowercase e.0) (same_lower a l is i)) es

is_placed_same : (placed : List (List ℕ)) (a l : List ℕ) → same_label a l ≡ true
    → is_placed placed a ≡ is_placed placed l
is_placed_same placed a l is = λ i. list_any (λ p. bytes_eq (str_to_ascii_lowercase p) (same_lower a l is i)) placed

-- ---- one element more

cond_where : {A : Type 0} (b : Bool) (x y z : A) → (b ≡ true → x ≡ y) → cond b x z ≡ cond b y z
cond_where true x y z same = same refl
cond_where false x y z same = refl

-- what stands before, one element after another
abbrev passed : List NewElement → List NewElement → List NewElement
passed before [] = before
passed before (x ∷ xs) = passed (x ∷ before) xs

passed_has : (before xs : List NewElement) (l : List ℕ)
    → some_has (passed before xs) l ≡ (some_has before l || some_has xs l)
passed_has before [] l = grind arith
passed_has before (x ∷ xs) l = grind (arith, passed_has (x ∷ before) xs l)

module _ (changes : ElementChanges) where
  replaced_more : (before xs : List NewElement) (e : NewElement)
      → replaced changes before (xs ++ e ∷ []) ≡ replaced changes before xs ++ in_place_of changes (passed before xs) e
  replaced_more before [] e = append-nil (in_place_of changes before e)
  replaced_more before (x ∷ xs) e =
      ap (λ t. in_place_of changes before x ++ t) (replaced_more (x ∷ before) xs e)
      ∙ sym (append_assoc (in_place_of changes before x) (replaced changes (x ∷ before) xs)
      (in_place_of changes (passed (x ∷ before) xs) e))

  -- the first elements were replaced, and the labels are known whose elements were placed
  pub record PlacedSo (all : List NewElement) (labels : List (List ℕ)) (done : List NewElement) : Type 0 where
    pub made : all ≡ replaced changes [] done
    pub placed : (l : List ℕ) → some_has changes.set l ≡ true → is_placed labels l ≡ some_has done l

  pub none_placed : PlacedSo [] [] []
  none_placed = record { made = refl; placed = λ l is. refl }

  module _ (made : List NewElement) (placed : List (List ℕ)) (done : List NewElement) (h : PlacedSo made placed done)
      (e : NewElement) where
    same_place : in_place changes placed e ≡ in_place_of changes (passed [] done) e
    same_place =
        cond_where (some_has changes.set e.0) _ _ _
        (λ is. ap (λ t. cond t [] (filter (has_label e.0) changes.set))
        (h.placed e.0 is ∙ sym (passed_has [] done e.0)))

    has_more : (l : List ℕ) → some_has (done ++ e ∷ []) l ≡ (some_has done l || same_label e.0 l)
    has_more l = grind (arith, list_any-append (has_label l) done (e ∷ []))

    other_label : (l : List ℕ) → some_has changes.set l ≡ true → some_has changes.set e.0 ≡ false
        → (b : Bool) → same_label e.0 l ≡ b → is_placed placed l ≡ (some_has done l || b)
    other_label l is none true same =
        let clash : false ≡ true = sym none ∙ some_has_same changes.set e.0 l same ∙ is in cc
    other_label l is none false same = grind (arith, h.placed l is)

    known_label : (l : List ℕ) → some_has changes.set l ≡ true → is_placed placed e.0 ≡ true
        → (b : Bool) → same_label e.0 l ≡ b → is_placed placed l ≡ (some_has done l || b)
    known_label l is known true same = grind (arith, h.placed l is, is_placed_same placed e.0 l same)
    known_label l is known false same = grind (arith, h.placed l is)

    new_label : (l : List ℕ) → some_has changes.set l ≡ true
        → is_placed (placed ++ e.0 ∷ []) l ≡ (some_has done l || same_label e.0 l)
    new_label l is = grind (arith, h.placed l is, list_any-append (λ one. same_label one l) placed (e.0 ∷ []))

    by_known : (b : Bool) → is_placed placed e.0 ≡ b → (l : List ℕ) → some_has changes.set l ≡ true
        → is_placed (cond b placed (placed ++ e.0 ∷ [])) l ≡ (some_has done l || same_label e.0 l)
    by_known true known l is = known_label l is known (same_label e.0 l) refl
    by_known false known l is = new_label l is

    by_set : (b : Bool) → some_has changes.set e.0 ≡ b → (l : List ℕ) → some_has changes.set l ≡ true
        → is_placed (cond b (cond (is_placed placed e.0) placed (placed ++ e.0 ∷ [])) placed) l
        ≡ (some_has done l || same_label e.0 l)
    by_set true set l is = by_known (is_placed placed e.0) refl l is
    by_set false set l is = other_label l is set (same_label e.0 l) refl

    -- one more
    pub placed_one_more : PlacedSo (made ++ in_place changes placed e) (placed_with changes placed e) (done ++ e ∷ [])
    placed_one_more = record {
      made =
          (λ i. h.made i ++ same_place i) ∙ sym (replaced_more [] done e);
      placed = λ l is. by_set (some_has changes.set e.0) refl l is ∙ sym (has_more l);
    }

  -- one more of a list
  pub placed_next : (elements : List NewElement) (i : ℕ) (e : NewElement) → i < length elements
      → e ≡ get_or elements i e → (all made : List NewElement) (labels placed : List (List ℕ))
      → PlacedSo all labels (take i elements) → made ≡ all ++ in_place changes labels e
      → placed ≡ placed_with changes labels e → PlacedSo made placed (take (i + 1) elements)
  placed_next elements i e lt is all made labels placed h more labelled =
      let one = placed_one_more all labels (take i elements) h e in
      let next = take_one_more elements i e lt is in record {
        made = more ∙ one.made ∙ ap (replaced changes []) (sym next);
        placed = λ l has.
            ap (λ ls. is_placed ls l) labelled ∙ one.placed l has ∙ ap (λ done. some_has done l) (sym next);
      }

-- ---- Payload-Oxum

module _ (p : NewElement → Bool) where
  abbrev none : NewElement
  none = ([], [])

  -- from the first that doesn't pass on, those that pass stand after it
  past_first : (xs : List NewElement) → filter p (drop (prefix_len p xs) xs) ≡ filter p (drop (prefix_len p xs + 1) xs)
  past_first xs = elim (cases_lt (prefix_len p xs) (length xs)) [
    | inl lt ↦
        ap (filter p) (drop_more xs (prefix_len p xs) none lt)
        ∙ ap (λ b. cond b (get_or xs (prefix_len p xs) none ∷ filter p (drop (prefix_len p xs + 1) xs))
        (filter p (drop (prefix_len p xs + 1) xs))) (prefix_len_stops p xs none lt)
    | inr le ↦
        ap (filter p) (drop_all (prefix_len p xs) xs le ∙ sym (drop_all (prefix_len p xs + 1) xs (omega arith)))
  ]

pub after_is : (xs : List NewElement)
    → filter (λ element. not (has_label oxum_label element))
    (drop (prefix_len (λ element. not (has_label oxum_label element)) xs) xs)
    ≡ after_oxum xs
after_is xs =
    let p : NewElement → Bool = λ element. not (has_label oxum_label element) in
    past_first p xs
    ∙ ap (λ n. filter p (drop (n + 1) xs)) (sym (length-take-le (prefix_len p xs) xs (prefix_len-le-length p xs)))

-- the elements that are composed so
module _ (changes : ElementChanges) (size : List ℕ) (old : List NewElement) where
  abbrev keep : NewElement → Bool
  keep element = not (has_label oxum_label element)

  abbrev composed : List NewElement → ℕ → List NewElement
  composed all at =
      ((take at all ++ added_to changes old) ++ (oxum_label, size) ∷ []) ++ filter keep (drop at all)

  grouped : (all : List NewElement)
      → composed all (prefix_len keep all)
      ≡ take (prefix_len keep all) all ++ (added_to changes old ++ (oxum_label, size) ∷ after_oxum all)
  grouped all =
      let front = take (prefix_len keep all) all in
      let added = added_to changes old in
      let behind = filter keep (drop (prefix_len keep all) all) in
      append_assoc (front ++ added) ((oxum_label, size) ∷ []) behind
      ∙ append_assoc front added ((oxum_label, size) ∷ behind)
      ∙ ap (λ t. front ++ (added ++ (oxum_label, size) ∷ t)) (after_is all)

  pub are_renewed : (all front added with_added with_size after kept made : List NewElement) (at : ℕ)
      → all ≡ replaced changes [] old → at ≡ prefix_len keep all → front ≡ take at all
      → added ≡ added_to changes old → with_added ≡ front ++ added
      → with_size ≡ with_added ++ (oxum_label, size) ∷ [] → after ≡ drop at all → kept ≡ filter keep after
      → made ≡ with_size ++ kept → made ≡ renewed_elements changes size old
  are_renewed all front added with_added with_size after kept made at is place taken new joined sized dropped passed
      whole =
      whole ∙ (λ i. sized i ++ kept) ∙ (λ i. (joined i ++ (oxum_label, size) ∷ []) ++ kept)
      ∙ (λ i. ((taken i ++ new i) ++ (oxum_label, size) ∷ []) ++ (passed ∙ ap (filter keep) dropped) i)
      ∙ ap (composed all) place ∙ ap (λ xs. composed xs (prefix_len keep xs)) is
      ∙ grouped (replaced changes [] old)
