-- The first component of a path, and what is within a name.
use Rattle.bag_make.proofs.Common.{◌≡◌, ℕ, ◌<◌, ◌≤◌, ◌==◌, ◌⊎◌, inl, inr, true, List, ◌∷◌, ◌++◌, length, ap, sym, ◌∙◌}
use Rattle.bag_make.proofs.Common.{arith, ⊎_elim, after_first, position_or_len, and_parts, and_from, eqb-true, ltb-true}
use Rattle.bag_make.proofs.Common.{cases_lt, take_all, fails_before_first, slash, components, is_path, is_base_name}
use Rattle.bag_make.proofs.Common.{first_component, under, is_slash, in_folder, first_is_base_name}
use Rattle.std.proofs.lemmas.List.Splits.{slice_split_none}
use Rattle.std.proofs.lemmas.List.Sums.{passes_at_first, split_at_first}

pub whole : (t : List ℕ) → length t ≤ position_or_len is_slash t → first_component t ≡ t
whole t none = take_all (position_or_len is_slash t) t none

-- a name is its first component
pub first-name : (name : List ℕ) → is_base_name name ≡ true → first_component name ≡ name
first-name name is =
    let one : length (components name) ≡ 1 =
    eqb-true (length (components name)) 1 (and_parts (is_path name) (length (components name) == 1) is).1 in
    ⊎_elim (λ place. let two : 1
    < length (components name) = ltb-true 1 (length (components name)) (in_folder name place)
    in absurd (omega arith)) (whole name) (cases_lt (position_or_len is_slash name) (length name))

-- the first component of a path is a name
pub first_is_name : (path : List ℕ) → is_path path ≡ true → is_base_name (first_component path) ≡ true
first_is_name path is =
    grind (
      arith,
      ⊎_elim,
      first_is_base_name,
      in_folder,
      whole,
      and_from,
      cases_lt,
      is_slash,
      slice_split_none,
      fails_before_first,
    )

-- a path is its first component, or stands under it
pub parts : (path : List ℕ)
    → (path ≡ first_component path) ⊎ ((rest : List ℕ) × (path ≡ under (first_component path) rest))
parts path = elim (cases_lt (position_or_len is_slash path) (length path)) [
  | inl at ↦ inr (
    after_first is_slash path,
    split_at_first is_slash path 0 at
        ∙ ap (λ c. first_component path ++ c ∷ after_first is_slash path)
        (eqb-true _ slash (passes_at_first is_slash path 0 at)),
  )
  | inr none ↦ inl (sym (whole path none))
]
