-- The common front of byte strings, and numbers that sort as sixteen bytes do.
use Rattle.std.specs.Prelude.{ℕ, ◌≡◌, ◌≤◌, ◌==◌, ◌++◌, List, length, take, drop, replicate}
use Rattle.std.specs.List.{common_prefix_len}
use Rattle.std.specs.Int.{from_be_bytes, w128}

-- the longest front that both have
abbrev pub common_front : List ℕ → List ℕ → List ℕ
common_front first second = take (common_prefix_len (λ a b. a == b) first second) first

-- the text begins with this front
abbrev pub IsFront : List ℕ → List ℕ → Type 0
IsFront front t = (rest : List ℕ) × (t ≡ front ++ rest)

-- a front of both, and no longer one is
abbrev pub IsLongestFront : List ℕ → List ℕ → List ℕ → Type 0
IsLongestFront front first second =
    IsFront front first × IsFront front second
    × ((other : List ℕ) → IsFront other first → IsFront other second → length other ≤ length front)

-- the law: it is the longest
abbrev pub CommonFrontIsTheLongest : Type 0
CommonFrontIsTheLongest = (first second : List ℕ)
    → IsLongestFront (common_front first second) first second

-- sixteen bytes with zeros after them where there are fewer
abbrev pub front_of_sixteen : List ℕ → List ℕ
front_of_sixteen bytes = take 16 (bytes ++ replicate 16 0)

-- the number of the sixteen bytes after the first n, the first worth most
abbrev pub key_after : List ℕ → ℕ → ℕ
key_after bytes skipped = from_be_bytes w128 (front_of_sixteen (drop skipped bytes))
