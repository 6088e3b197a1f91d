-- Sets that a list has.
use Rattle.std.specs.Prelude.{◌↔◌, List, Contains}

-- some list has exactly these members
abbrev pub HasList : {A : Type 0} → (A → Type 0) → Type 0
HasList {A} IsMember = (xs : List A) × ((x : A) → Contains xs x ↔ IsMember x)
