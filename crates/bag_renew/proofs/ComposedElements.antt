-- Elements composed of those before Payload-Oxum, some that are added, and those after it.
use Rattle.bag_renew.proofs.Common.{arith, ◌≡◌, ◌++◌, ◌+◌, ◌∷◌, ◌∙◌, inl, inr, ℕ, suc, Bool, true, false, not, cond}
use Rattle.bag_renew.proofs.Common.{List, [], length, refl, sym, ap, subst, take, append-nil, append_assoc, list_any}
use Rattle.bag_renew.proofs.Common.{filter, false≢true, or_parts, Contains, contains_behind, contains_first, ◌||◌}
use Rattle.std.proofs.Common.{drop}
use Rattle.std.proofs.lemmas.List.Elements.{filter-append}
use Rattle.std.proofs.lemmas.List.Folds.{list_any-append}
use Rattle.std.specs.List.{prefix_len}
use Rattle.bag_stages.specs.MetadataStage.{oxum_label}
use Rattle.bag_tags.specs.Element.{NewElement}
use Rattle.bag_renewed.specs.Elements.{after_oxum, before_oxum}
use Rattle.bag_renew.proofs.CutAtOxum.{after_none, after_of, before_all, before_of, first_oxum, is_other, is_oxum}

-- ---- filters

-- what a filter keeps is kept of what another keeps, where that loses none of it
pub filter_twice : {A : Type 0} (q p : A → Bool) (xs : List A) → ((x : A) → p x ≡ false → q x ≡ false)
    → filter q (filter p xs) ≡ filter q xs
filter_twice q p [] below = refl
filter_twice q p (x ∷ xs) below = by_test (filter_twice q p xs below) (p x) refl
  where
    by_test : filter q (filter p xs) ≡ filter q xs → (b : Bool) → p x ≡ b
        → filter q (cond b (x ∷ filter p xs) (filter p xs)) ≡ filter q (x ∷ xs)
    by_test more true is = ap (λ ys. cond (q x) (x ∷ ys) ys) more
    by_test more false is = more ∙ sym (ap (λ b. cond b (x ∷ filter q xs) (filter q xs)) (below x is))

-- tests that agree keep the same
pub filter_alike : {A : Type 0} (p q : A → Bool) (xs : List A) → ((x : A) → Contains xs x → p x ≡ q x)
    → filter p xs ≡ filter q xs
filter_alike p q [] alike = refl
filter_alike p q (x ∷ xs) alike =
    (λ i. cond (alike x (contains_first x xs) i) (x ∷ filter p xs) (filter p xs))
    ∙ ap (λ ys. cond (q x) (x ∷ ys) ys) (filter_alike p q xs (λ y has. alike y (contains_behind x xs y has)))

any_kept : {A : Type 0} (p : A → Bool) (xs : List A) → list_any p (filter p xs) ≡ list_any p xs
any_kept p [] = refl
any_kept p (x ∷ xs) = by_test (any_kept p xs) (p x) refl
  where
    by_test : list_any p (filter p xs) ≡ list_any p xs → (b : Bool) → p x ≡ b
        → list_any p (cond b (x ∷ filter p xs) (filter p xs)) ≡ list_any p (x ∷ xs)
    by_test more true is = ap (λ b. b || list_any p (filter p xs)) is ∙ sym (ap (λ b. b || list_any p xs) is)
    by_test more false is = more ∙ sym (ap (λ b. b || list_any p xs) is)

-- where the same pass, both have one that passes, or none has
pub any_alike : {A : Type 0} (p : A → Bool) (xs ys : List A) → filter p xs ≡ filter p ys
    → list_any p xs ≡ list_any p ys
any_alike p xs ys same = sym (any_kept p xs) ∙ ap (list_any p) same ∙ any_kept p ys

-- ---- elements of which the first ones have no Payload-Oxum

before_more : (x : NewElement) (xs : List NewElement) → is_oxum x ≡ false → before_oxum (x ∷ xs) ≡ x ∷ before_oxum xs
before_more x xs other =
    let n = prefix_len is_other xs in
    let more : 1 + n ≡ suc n = omega arith in
    ap (λ b. take (cond (not b) (1 + n) 0) (x ∷ xs)) other ∙ ap (λ m. take m (x ∷ xs)) more

after_more : (x : NewElement) (xs : List NewElement) → is_oxum x ≡ false → after_oxum (x ∷ xs) ≡ after_oxum xs
after_more x xs other =
    let more : length (x ∷ before_oxum xs) + 1 ≡ suc (length (before_oxum xs) + 1) = omega arith in
    ap (λ es. filter is_other (drop (length es + 1) (x ∷ xs))) (before_more x xs other)
    ∙ ap (λ n. filter is_other (drop n (x ∷ xs))) more

pub before_past : (xs ys : List NewElement) → list_any is_oxum xs ≡ false
    → before_oxum (xs ++ ys) ≡ xs ++ before_oxum ys
before_past [] ys none = refl
before_past (x ∷ xs) ys none =
    let two = or_parts (is_oxum x) (list_any is_oxum xs) none in
    before_more x (xs ++ ys) two.0 ∙ ap (λ zs. x ∷ zs) (before_past xs ys two.1)

after_past : (xs ys : List NewElement) → list_any is_oxum xs ≡ false → after_oxum (xs ++ ys) ≡ after_oxum ys
after_past [] ys none = refl
after_past (x ∷ xs) ys none =
    let two = or_parts (is_oxum x) (list_any is_oxum xs) none in
    after_more x (xs ++ ys) two.0 ∙ after_past xs ys two.1

pub not_other : (x : NewElement) → is_other x ≡ false → is_oxum x ≡ true
not_other x is = by_test (is_oxum x) is
  where
    by_test : (b : Bool) → not b ≡ false → b ≡ true
    by_test true is = refl
    by_test false is = absurd (false≢true (sym is))

-- what passes no Payload-Oxum passes before it, and after it
pub filter_cut : (q : NewElement → Bool) (xs : List NewElement) → ((x : NewElement) → is_oxum x ≡ true → q x ≡ false)
    → filter q (before_oxum xs) ++ filter q (after_oxum xs) ≡ filter q xs
filter_cut q xs out = elim (first_oxum xs) [
  | inl none ↦
      (λ i. filter q (before_all xs none i) ++ filter q (after_none xs none i)) ∙ append-nil (filter q xs)
  | inr (first, rest, o, at) ↦
      subst (λ es. filter q (before_oxum es) ++ filter q (after_oxum es) ≡ filter q es) (sym at.whole)
      ((λ i. filter q (before_of o rest first at.none at.is i) ++ filter q (after_of o rest first at.none at.is i))
      ∙ ap (λ zs. filter q first ++ zs) (filter_twice q is_other rest (λ x is. out x (not_other x is)))
      ∙ sym (filter-append q first (o ∷ rest)
      ∙ ap (λ b. filter q first ++ cond b (o ∷ filter q rest) (filter q rest)) (out o at.is)))
]

-- one of them that passes is before it or after it
pub any_cut : (q : NewElement → Bool) (xs : List NewElement) → ((x : NewElement) → is_oxum x ≡ true → q x ≡ false)
    → (list_any q (before_oxum xs) || list_any q (after_oxum xs)) ≡ list_any q xs
any_cut q xs out =
    (λ i. sym (any_kept q (before_oxum xs)) i || sym (any_kept q (after_oxum xs)) i)
    ∙ sym (list_any-append q (filter q (before_oxum xs)) (filter q (after_oxum xs)))
    ∙ ap (list_any q) (filter_cut q xs out) ∙ any_kept q xs

-- ---- composed

module _ (size : List ℕ) (added : List NewElement) where
  abbrev pub oxum : NewElement
  oxum = (oxum_label, size)

  abbrev pub composed : List NewElement → List NewElement
  composed xs = before_oxum xs ++ (added ++ (oxum ∷ after_oxum xs))

  -- those before the first Payload-Oxum stand before all else
  pub composed_past : (xs ys : List NewElement) → list_any is_oxum xs ≡ false
      → composed (xs ++ ys) ≡ xs ++ composed ys
  composed_past xs ys none =
      (λ i. before_past xs ys none i ++ (added ++ (oxum ∷ after_past xs ys none i)))
      ∙ append_assoc xs (before_oxum ys) (added ++ (oxum ∷ after_oxum ys))

  pub composed_at : (first rest : List NewElement) (o : NewElement) → list_any is_oxum first ≡ false
      → is_oxum o ≡ true → composed (first ++ (o ∷ rest)) ≡ first ++ (added ++ (oxum ∷ filter is_other rest))
  composed_at first rest o none is =
      λ i. before_of o rest first none is i ++ (added ++ (oxum ∷ after_of o rest first none is i))

  -- and those after it stand after all else
  pub composed_after : (xs ys : List NewElement) → list_any is_oxum xs ≡ true
      → composed (xs ++ ys) ≡ composed xs ++ filter is_other ys
  composed_after xs ys has = elim (first_oxum xs) [
    | inl none ↦ absurd (false≢true (sym none ∙ has))
    | inr (first, rest, o, at) ↦
        subst (λ es. composed (es ++ ys) ≡ composed es ++ filter is_other ys) (sym at.whole)
        (ap composed (append_assoc first (o ∷ rest) ys) ∙ composed_at first (rest ++ ys) o at.none at.is
        ∙ ap (λ zs. first ++ (added ++ (oxum ∷ zs))) (filter-append is_other rest ys)
        ∙ sym (ap (λ zs. zs ++ filter is_other ys) (composed_at first rest o at.none at.is)
        ∙ regrouped first added (oxum ∷ filter is_other rest) (filter is_other ys)))
  ]
    where
      regrouped : (a b c d : List NewElement) → (a ++ (b ++ c)) ++ d ≡ a ++ (b ++ (c ++ d))
      regrouped a b c d = append_assoc a (b ++ c) d ∙ ap (λ zs. a ++ zs) (append_assoc b c d)

  -- of all these, what passes no Payload-Oxum
  pub filter_composed : (q : NewElement → Bool) (xs : List NewElement) → q oxum ≡ false
      → filter q (composed xs) ≡ filter q (before_oxum xs) ++ (filter q added ++ filter q (after_oxum xs))
  filter_composed q xs out =
      let back = after_oxum xs in
      filter-append q (before_oxum xs) (added ++ (oxum ∷ back))
      ∙ ap (λ zs. filter q (before_oxum xs) ++ zs) (filter-append q added (oxum ∷ back))
      ∙ ap (λ b. filter q (before_oxum xs) ++ (filter q added ++ cond b (oxum ∷ filter q back) (filter q back))) out

  pub filter_old : (q : NewElement → Bool) (xs : List NewElement)
      → ((x : NewElement) → is_oxum x ≡ true → q x ≡ false) → q oxum ≡ false → filter q added ≡ []
      → filter q (composed xs) ≡ filter q xs
  filter_old q xs out one none =
      filter_composed q xs one
      ∙ ap (λ zs. filter q (before_oxum xs) ++ (zs ++ filter q (after_oxum xs))) none ∙ filter_cut q xs out
