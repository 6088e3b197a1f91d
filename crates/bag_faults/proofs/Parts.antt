-- The parts of a text before and after its first space.
use Rattle.bag_faults.proofs.Common.{arith, ◌≡◌, ℕ, List, ◌∷◌, ◌++◌, Option, Some, None, lit<, sym, MatchOption}
use Rattle.std.specs.Borrow.{Bor}
use Rattle.std.proofs.lemmas.Str.Pattern.{IsSplitOnceResult, split_after}
use Rattle.bag_faults.proofs.Spaces.{HasNoSpace}

abbrev Parts : Type 0
Parts = Bor (List ℕ) × Bor (List ℕ)

at_first_space : (text front rest : List ℕ) (found : Option Parts) → IsSplitOnceResult 32 text found → HasNoSpace front
    → front ++ 32 ∷ rest ≡ text
    → MatchOption found ⊥ (λ parts. (parts.0.now ≡ front) × (parts.1.now ≡ rest))
at_first_space text front rest found cases clean is =
    split_after 32 text front rest found cases (lit< tt) (sym is) (λ i inside. clean i 0 inside)

pub parts_of : (text front rest : List ℕ) (found : Option Parts) (parts : Parts) → IsSplitOnceResult 32 text found
    → HasNoSpace front → front ++ 32 ∷ rest ≡ text
    → found ≡ Some parts → (parts.0.now ≡ front) × (parts.1.now ≡ rest)
parts_of text front rest found parts cases clean is some =
    grind (arith, at_first_space text front rest found cases clean is)

pub has_parts : (text front rest : List ℕ) (found : Option Parts) → IsSplitOnceResult 32 text found → HasNoSpace front
    → front ++ 32 ∷ rest ≡ text → found ≡ None → ⊥
has_parts text front rest found cases clean is none = grind (arith, at_first_space text front rest found cases clean is)
