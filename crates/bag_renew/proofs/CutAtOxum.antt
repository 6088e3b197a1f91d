-- Elements before Payload-Oxum, and after it.
use Rattle.bag_renew.proofs.Common.{arith, ◌≡◌, ◌⊎◌, ◌++◌, ◌+◌, ◌∷◌, ◌∙◌, inl, inr, ℕ, suc, Bool, true, false, not}
use Rattle.bag_renew.proofs.Common.{cond, List, [], length, refl, ap, take, or_from, or_parts, list_any, filter}
use Rattle.std.proofs.Common.{drop}
use Rattle.std.specs.List.{prefix_len}
use Rattle.bag_stages.specs.MetadataStage.{oxum_label}
use Rattle.bag_tags.specs.Element.{NewElement}
use Rattle.bag_renewed.specs.Elements.{after_oxum, before_oxum, has_label}

abbrev pub is_oxum : NewElement → Bool
is_oxum x = has_label oxum_label x

abbrev pub is_other : NewElement → Bool
is_other x = not (is_oxum x)

one_more : (n : ℕ) → 1 + n ≡ suc n
one_more n = omega arith

pub before_all : (ys : List NewElement) → list_any is_oxum ys ≡ false → before_oxum ys ≡ ys
before_all [] none = refl
before_all (y ∷ ys) none =
    let two = or_parts (is_oxum y) (list_any is_oxum ys) none in
    let n = prefix_len is_other ys in
    ap (λ b. take (cond (not b) (1 + n) 0) (y ∷ ys)) two.0 ∙ ap (λ m. take m (y ∷ ys)) (one_more n)
    ∙ ap (λ zs. y ∷ zs) (before_all ys two.1)

module _ (o : NewElement) (zs : List NewElement) where
  pub before_of : (ys : List NewElement) → list_any is_oxum ys ≡ false → is_oxum o ≡ true
      → before_oxum (ys ++ (o ∷ zs)) ≡ ys
  before_of [] none is = ap (λ b. take (cond (not b) (1 + prefix_len is_other zs) 0) (o ∷ zs)) is
  before_of (y ∷ ys) none is =
      let two = or_parts (is_oxum y) (list_any is_oxum ys) none in
      let n = prefix_len is_other (ys ++ (o ∷ zs)) in
      ap (λ b. take (cond (not b) (1 + n) 0) (y ∷ (ys ++ (o ∷ zs)))) two.0
      ∙ ap (λ m. take m (y ∷ (ys ++ (o ∷ zs)))) (one_more n) ∙ ap (λ xs. y ∷ xs) (before_of ys two.1 is)

  drop_past : (ys : List NewElement) → drop (length ys + 1) (ys ++ (o ∷ zs)) ≡ zs
  drop_past [] = refl
  drop_past (y ∷ ys) =
      let more : length (y ∷ ys) + 1 ≡ suc (length ys + 1) = omega arith in
      ap (λ n. drop n (y ∷ (ys ++ (o ∷ zs)))) more ∙ drop_past ys

  pub after_of : (ys : List NewElement) → list_any is_oxum ys ≡ false → is_oxum o ≡ true
      → after_oxum (ys ++ (o ∷ zs)) ≡ filter is_other zs
  after_of ys none is =
      ap (λ es. filter is_other (drop (length es + 1) (ys ++ (o ∷ zs)))) (before_of ys none is)
      ∙ ap (filter is_other) (drop_past ys)

drop_all : (ys : List NewElement) → drop (length ys + 1) ys ≡ []
drop_all [] = refl
drop_all (y ∷ ys) =
    let more : length (y ∷ ys) + 1 ≡ suc (length ys + 1) = omega arith in
    ap (λ n. drop n (y ∷ ys)) more ∙ drop_all ys

pub after_none : (ys : List NewElement) → list_any is_oxum ys ≡ false → after_oxum ys ≡ []
after_none ys none =
    ap (λ es. filter is_other (drop (length es + 1) ys)) (before_all ys none) ∙ ap (filter is_other) (drop_all ys)

-- the first Payload-Oxum of elements, if any
pub record IsFirstOxum (xs first rest : List NewElement) (o : NewElement) : Type 0 where
  pub whole : xs ≡ first ++ (o ∷ rest)
  pub none : list_any is_oxum first ≡ false
  pub is : is_oxum o ≡ true

abbrev pub HasFirstOxum : List NewElement → Type 0
HasFirstOxum xs = (first : List NewElement) × (rest : List NewElement) × (o : NewElement) × IsFirstOxum xs first rest o

pub first_oxum : (xs : List NewElement) → (list_any is_oxum xs ≡ false) ⊎ HasFirstOxum xs
first_oxum [] = inl refl
first_oxum (x ∷ xs) = by_test (is_oxum x) refl (first_oxum xs)
  where
    by_test : (b : Bool) → is_oxum x ≡ b → (list_any is_oxum xs ≡ false) ⊎ HasFirstOxum xs
        → (list_any is_oxum (x ∷ xs) ≡ false) ⊎ HasFirstOxum (x ∷ xs)
    by_test true is more = inr ([], xs, x, record { whole = refl; none = refl; is = is })
    by_test false isnt (inl none) = inl (or_from (is_oxum x) (list_any is_oxum xs) isnt none)
    by_test false isnt (inr (first, rest, o, here)) = inr (
      x ∷ first,
      rest,
      o,
      record {
        whole = ap (λ ys. x ∷ ys) here.whole;
        none = or_from (is_oxum x) (list_any is_oxum first) isnt here.none;
        is = here.is;
      },
    )
