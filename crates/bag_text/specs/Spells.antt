-- What the spelling of a path spells.
use Rattle.std.specs.Prelude.{ℕ, ◌≡◌, ◌≢◌, ◌⊎◌, ◌++◌, List, [], ◌∷◌, Some}
use Rattle.bag_text.specs.Bytes.{Path}
use Rattle.bag_text.specs.declared.rules.Rules.{Rules}
use Rattle.bag_text.specs.declared.rules.Rules.TheVariants.{V10, V097}
use Rattle.bag_text.specs.Spelling.{percent, escaped, line_end}

-- the text begins with the escape of a character, with the rest after it
abbrev pub BeginsWith : List ℕ → ℕ → List ℕ → Type 0
BeginsWith s c rest =
    (high low : ℕ) × (s ≡ percent ∷ high ∷ low ∷ rest) × (line_end high low ≡ Some c)

abbrev pub BeginsWithNone : List ℕ → Type 0
BeginsWithNone s = (c : ℕ) (rest : List ℕ) → ¬ (BeginsWith s c rest)

-- the spelling has the characters of the path in order: an escape is the end of a line, and every
-- other character itself
abbrev pub SpellsLineEnds : List ℕ → Path → Type 0
SpellsLineEnds s [] = s ≡ []
SpellsLineEnds s (c ∷ path) =
    (rest : List ℕ) × SpellsLineEnds rest path
    × (BeginsWith s c rest ⊎ ((s ≡ c ∷ rest) × BeginsWithNone s))

-- what may stand for a character: itself, but for %, or an escape of it
abbrev pub SpellsOne : List ℕ → ℕ → Type 0
SpellsOne front c =
    ((c ≢ percent) × (front ≡ c ∷ []))
    ⊎ ((high low : ℕ) × (front ≡ percent ∷ high ∷ low ∷ []) × (escaped high low ≡ Some c))

-- the spelling has the characters of the path in order
abbrev pub SpellsStrictly : List ℕ → Path → Type 0
SpellsStrictly s [] = s ≡ []
SpellsStrictly s (c ∷ path) =
    (front rest : List ℕ) × (s ≡ front ++ rest) × SpellsOne front c × SpellsStrictly rest path

-- the spelling has the characters of the path in order
abbrev pub Spells : Rules → List ℕ → Path → Type 0
Spells V10 s path = SpellsStrictly s path
Spells V097 s path = SpellsLineEnds s path
