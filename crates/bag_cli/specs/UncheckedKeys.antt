-- The lines of the keys of a profile that aren't checked.
use Rattle.std.specs.Prelude.{ℕ, ◌++◌, List, codes}
use Rattle.std.specs.List.{flat_map}
use Rattle.bag_faults.specs.FaultLine.{field}

-- the line of a key, with its end
abbrev pub unchecked_line : List ℕ → List ℕ
unchecked_line key = codes "unchecked " ++ (field key ++ codes "\n")

-- the lines of keys, one after another
abbrev pub unchecked_lines : List (List ℕ) → List ℕ
unchecked_lines keys = flat_map unchecked_line keys
