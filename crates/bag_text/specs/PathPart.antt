-- What a component of a path is as far as it is read.
use Rattle.std.specs.Prelude.{ℕ, ◌==◌, ◌&&◌, Bool, true, false, List, [], ◌∷◌, if◌then◌else◌}
use Rattle.std.specs.Str.{byte}
use Rattle.bag_text.specs.declared.path.PathPart.{PathPart}
use Rattle.bag_text.specs.declared.path.PathPart.TheVariants.{Empty, Dot, TwoDots, Name}

abbrev pub dot : ℕ
dot = byte "."

abbrev pub part_of : List ℕ → PathPart
part_of [] = Empty
part_of (c ∷ []) = if c == dot then Dot else Name
part_of (c ∷ d ∷ []) = if c == dot && d == dot then TwoDots else Name
part_of (c ∷ d ∷ e ∷ rest) = Name

-- with one byte more
abbrev pub with_byte : PathPart → ℕ → PathPart
with_byte Empty c = if c == dot then Dot else Name
with_byte Dot c = if c == dot then TwoDots else Name
with_byte TwoDots c = Name
with_byte Name c = Name

-- whether it may stand in a path
abbrev pub is_name : PathPart → Bool
is_name Empty = false
is_name Dot = false
is_name TwoDots = false
is_name Name = true
