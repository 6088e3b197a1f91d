-- Lines that are written (RFC 8493, 2.1.3 and 2.2.2).
use Rattle.std.specs.Prelude.{ℕ, ◌≡◌, ◌++◌, ◌∷◌, [], List}
use Rattle.bag_text.specs.Lines.{line_feed}

-- the text as it was, and a part of a line after it
abbrev pub HasPartOf : List ℕ → List ℕ → List ℕ → Type 0
HasPartOf line old new = (part rest : List ℕ) × (line ≡ part ++ rest) × (new ≡ old ++ part)

-- the text as it was, and the line with its LF after it
abbrev pub AddsLine : List ℕ → List ℕ → List ℕ → Type 0
AddsLine line old new = new ≡ old ++ line ++ line_feed ∷ []

-- the text as it was, and a part of the line with its LF after it
abbrev pub AddsPartOfLine : List ℕ → List ℕ → List ℕ → Type 0
AddsPartOfLine line old new = HasPartOf (line ++ line_feed ∷ []) old new
