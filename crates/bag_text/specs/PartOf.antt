-- Texts that stand in longer ones.
use Rattle.std.specs.Prelude.{ℕ, ◌+◌, ◌<◌, ◌^◌, ◌≡◌, List, Option, MatchOption, length, slice_range}
use Rattle.std.specs.Str.{IsCharBoundary}

-- the text stands at this place of a longer one, both counted in bytes: it begins and ends where
-- characters do, and before 2^32
abbrev pub StandsAt : List ℕ → ℕ → List ℕ → Type 0
StandsAt whole place text =
    IsCharBoundary whole place × IsCharBoundary whole (place + length text)
    × (slice_range whole place (place + length text) ≡ text) × (place + length text < 2 ^ 32)

-- what is found is the text, and it is found exactly where it stands there
abbrev pub IsPartOf : List ℕ → ℕ → List ℕ → Option (List ℕ) → Type 0
IsPartOf whole place text found =
    MatchOption found (¬ (StandsAt whole place text)) (λ part. (part ≡ text) × StandsAt whole place text)
