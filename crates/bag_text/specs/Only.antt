-- The only one of a list.
use Rattle.std.specs.Prelude.{◌≡◌, Option, None, Some}

-- the one member, if there is one
abbrev pub IsOnly : {A : Type 0} → (A → Type 0) → Option A → Type 0
IsOnly {A} Member None = (x : A) → ¬ (Member x)
IsOnly {A} Member (Some x) = Member x × ((y : A) → Member y → y ≡ x)
