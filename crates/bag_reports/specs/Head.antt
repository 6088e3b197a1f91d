-- The lines at the head of a file that holds a report.
use Rattle.std.specs.Prelude.{ℕ, ◌≡◌, ◌++◌, ◌∷◌, ◌&&◌, Bool, true, List, [], codes, nat_lt, ⊤}
use Rattle.std.specs.List.{list_all}

abbrev pub is_visible : ℕ → Bool
is_visible byte = nat_lt 32 byte && nat_lt byte 127

-- a key of a profile as a field of a line: ASCII, with no space and no end of a line within it
abbrev pub IsKey : List ℕ → Type 0
IsKey key = list_all is_visible key ≡ true

-- the line, without its end, that says that a key of the profile isn't checked
abbrev pub unchecked : List ℕ → List ℕ
unchecked key = codes "unchecked " ++ key

abbrev pub IsUnchecked : List ℕ → Type 0
IsUnchecked line = (key : List ℕ) × IsKey key × (line ≡ unchecked key)

-- the lines of keys, with their ends, one after another
abbrev pub head_of : List (List ℕ) → List ℕ
head_of [] = []
head_of (key ∷ keys) = unchecked key ++ 10 ∷ head_of keys

abbrev pub AreKeys : List (List ℕ) → Type 0
AreKeys [] = ⊤
AreKeys (key ∷ keys) = IsKey key × AreKeys keys
