-- What a file is of which all bytes are read.
use Rattle.std.specs.Prelude.{ℕ, ◌<◌, ◌⊎◌, List, length, Option, Some, None}

-- there is no file that can be read, or it has more bytes than the bound
abbrev pub MayBeUnread : (Option (List ℕ) → Type 0) → ℕ → Type 0
MayBeUnread file most = file None ⊎ ((bytes : List ℕ) × file (Some bytes) × (most < length bytes))
