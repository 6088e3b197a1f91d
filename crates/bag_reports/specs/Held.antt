-- Reports that are held in memory.
use Rattle.std.specs.Prelude.{ℕ, ◌≡◌, ◌≤◌, ◌<◌, List, [], length, slice_index_or, take}

-- so many bytes of the text with this number were given, where there is one
abbrev pub IsAt : List (List ℕ) → ℕ → ℕ → List ℕ → Type 0
IsAt texts number at given = number < length texts
    → (at ≤ length (slice_index_or texts number []))
    × (given ≡ take at (slice_index_or texts number []))
