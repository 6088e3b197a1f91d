-- The path of what stands in a folder.
use Rattle.std.specs.Prelude.{ℕ, List, [], ◌∷◌}
use Rattle.bag_text.specs.Path.{under}

-- a name in a folder, where the empty folder is the base folder
abbrev pub path_in : List ℕ → List ℕ → List ℕ
path_in [] name = name
path_in (c ∷ folder) name = under (c ∷ folder) name

-- where a path below a base folder stands for the system; the empty path is the base folder
abbrev pub location_below : List ℕ → List ℕ → List ℕ
location_below base [] = base
location_below base (c ∷ path) = under base (c ∷ path)
