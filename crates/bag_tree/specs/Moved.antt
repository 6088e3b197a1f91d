-- What stands at paths, when one path has become another with all that is below it.
use Rattle.std.specs.Prelude.{◌||◌, Bool, List, [], ◌∷◌, ◌++◌, fold, bytes_eq, nat_eq}
use Rattle.std.specs.Prelude.{if◌then◌else◌, length, drop}
use Rattle.std.specs.List.{starts_with}
use Rattle.std.specs.FinMap as map
use Rattle.bag_text.specs.Bytes.{Path}
use Rattle.bag_text.specs.Text.{text_cmp}
use Rattle.bag_text.specs.Path.{slash}

-- whether a path is this one, or below it
abbrev pub is_within : Path → Path → Bool
is_within top path = bytes_eq path top || starts_with nat_eq path (top ++ slash ∷ [])

-- the path of what stood at a path, when `from` has become `to`
abbrev pub renamed : Path → Path → Path → Path
renamed from to path = if is_within from path then to ++ drop (length from) path else path

-- what stands at paths
abbrev pub ByPath : Type 0 → Type 0
ByPath V = map.FinMap text_cmp V

-- what stands there, with these put at the paths that they have when `from` has become `to`
abbrev pub with_renamed : {V : Type 0} → Path → Path → ByPath V → List (Path × V) → ByPath V
with_renamed from to all entries =
    fold (λ all e. map.insert all (renamed from to e.0) e.1) all entries

-- what stands there when `from` has become `to`, with all that is below it
abbrev pub moved : {V : Type 0} → Path → Path → ByPath V → ByPath V
moved from to all = with_renamed from to map.empty (map.entries all)
