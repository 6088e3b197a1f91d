-- A part of a check, which a process of its own can write.
use Rattle.std.specs.Prelude.{ℕ, ◌<◌, ◌≤◌, ◌&&◌, Option, Some, None, if◌then◌else◌, nat_lt, nat_le}

-- which one, counted from 0, and of how many
pub record Part : Type 0 where
  pub number : ℕ
  pub of : ℕ

-- it is one of them, and they aren't too many
pub record IsPart (part : Part) : Type 0 where
  pub below : part.number < part.of
  pub most : part.of ≤ 65536

-- the part with this number of so many, where there is one
abbrev pub part_at : ℕ → ℕ → Option Part
part_at number of =
    if nat_lt number of && nat_le of 65536 then Some (record { number = number; of = of }) else None
