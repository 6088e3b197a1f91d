-- What trimming takes from a text (RFC 8493, 2.2.2), and the law that its definition keeps.
use Rattle.std.specs.Prelude.{ℕ, ◌≡◌, false, List, [], ◌∷◌, ◌++◌, IsTrue}
use Rattle.std.specs.List.{list_all}
use Rattle.bag_text.specs.Text.{is_blank, trim}

-- the first character is no blank
abbrev pub BeginsWithNoBlank : List ℕ → Type 0
BeginsWithNoBlank t = (c : ℕ) (more : List ℕ) → t ≡ c ∷ more → is_blank c ≡ false

-- the last character is no blank
abbrev pub EndsWithNoBlank : List ℕ → Type 0
EndsWithNoBlank t = (front : List ℕ) (c : ℕ) → t ≡ front ++ c ∷ [] → is_blank c ≡ false

-- the text is blanks, what is left of it, and blanks; what is left neither begins nor ends with one
abbrev pub IsTrimmed : List ℕ → List ℕ → Type 0
IsTrimmed t left =
    (front back : List ℕ) × (t ≡ front ++ left ++ back) × IsTrue (list_all is_blank front)
    × IsTrue (list_all is_blank back)
    × BeginsWithNoBlank left × EndsWithNoBlank left

-- the law: trimming takes the blanks at both ends, and nothing else
abbrev pub TrimTakesOuterBlanks : Type 0
TrimTakesOuterBlanks = (t : List ℕ) → IsTrimmed t (trim t)
