-- Patterns of file names (BagIt Profiles Specification, Tag-Files-Allowed).
use Rattle.std.specs.Prelude.{ℕ, ◌==◌, ◌&&◌, ◌||◌, Bool, false, List, [], ◌∷◌, bytes_eq}
use Rattle.std.specs.Prelude.{if◌then◌else◌}
use Rattle.std.specs.Str.{byte}

abbrev pub star : ℕ
star = byte "*"

-- the text or one of its tails passes
abbrev pub some_tail : (List ℕ → Bool) → List ℕ → Bool
some_tail passes [] = passes []
some_tail passes (c ∷ t) = passes (c ∷ t) || some_tail passes t

-- the name begins with the character, and what follows it passes
abbrev pub begins : ℕ → (List ℕ → Bool) → List ℕ → Bool
begins c passes [] = false
begins c passes (d ∷ rest) = c == d && passes rest

-- A star stands for any characters, / among them, and every other character for itself.
abbrev pub matches : List ℕ → List ℕ → Bool
matches [] name = bytes_eq name []
matches (c ∷ pattern) name =
    if c == star then some_tail (matches pattern) name else begins c (matches pattern) name
