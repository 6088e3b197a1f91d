-- What a star of a pattern stands for.
use Rattle.std.specs.Prelude.{ℕ, Bool, List}
use Rattle.bag_profile.specs.Pattern.{some_tail, matches}

-- some characters, and then what the pattern stands for
abbrev pub matches_after_star : List ℕ → List ℕ → Bool
matches_after_star pattern name = some_tail (matches pattern) name
