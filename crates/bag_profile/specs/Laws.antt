-- Laws about patterns and sets of texts.
use Rattle.std.specs.Prelude.{ℕ, ◌≡◌, ◌↔◌, ◌==◌, true, List, [], ◌∷◌, ◌++◌, Contains}
use Rattle.std.specs.List.{slice_split}
use Rattle.bag_text.specs.Order.{IsListOf}
use Rattle.bag_text.specs.Text.{text_cmp}
use Rattle.bag_profile.specs.Pattern.{star, matches}
use Rattle.bag_profile.specs.TextSet.{text_set}

-- the law: it is the ascending list whose members are exactly the texts of the list
abbrev pub TextSetsAreLists : Type 0
TextSetsAreLists = (ts : List (List ℕ)) → IsListOf text_cmp (Contains ts) (text_set ts)

-- the name is these pieces in order, with some text between each two
abbrev pub IsPieces : List (List ℕ) → List ℕ → Type 0
IsPieces [] name = ⊥
IsPieces (piece ∷ []) name = name ≡ piece
IsPieces (piece ∷ next ∷ pieces) name =
    (gap rest : List ℕ) × (name ≡ piece ++ gap ++ rest) × IsPieces (next ∷ pieces) rest

-- the law: a name matches where it is what stands between the stars of the pattern, with some text
-- at each star
abbrev pub MatchesArePieces : Type 0
MatchesArePieces =
    (pattern name : List ℕ)
    → (matches pattern name ≡ true) ↔ IsPieces (slice_split (λ c. c == star) pattern) name
