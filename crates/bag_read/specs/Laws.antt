-- Laws about oxums and the names of tag files.
use Rattle.std.specs.Prelude.{ℕ, ◌≡◌, ◌≤◌, ◌↔◌, ◌++◌, List, Some, codes, IsTrue}
use Rattle.std.specs.Str.Parse.{digits_value}
use Rattle.bag_read.specs.LineParts.{AreDigits}
use Rattle.bag_read.specs.declared.oxum.Oxum.{Oxum}
use Rattle.bag_text.specs.Path.{is_base_name}
use Rattle.bag_read.specs.ManifestName.{tag_path}
use Rattle.bag_read.specs.declared.tag_name.TagName.{TagName}
use Rattle.bag_read.specs.Oxum.{oxum_of}

-- the law: each stands in the base folder, its path is one component
abbrev pub TagFilesStandInTheBase : Type 0
TagFilesStandInTheBase = (name : TagName) → IsTrue (is_base_name (tag_path name))

-- the law: no two tag files stand at one path
abbrev pub TagPathsDiffer : Type 0
TagPathsDiffer = (a b : TagName) → tag_path a ≡ tag_path b → a ≡ b

-- one or more ASCII digits, which write this number
abbrev pub WritesNumber : List ℕ → ℕ → Type 0
WritesNumber t n = AreDigits t × (digits_value 10 t ≡ n) × (n ≤ 18446744073709551615)

-- two numbers with a dot between them
abbrev pub IsOxum : List ℕ → Oxum → Type 0
IsOxum value oxum =
    (octets streams : List ℕ) × (value ≡ octets ++ codes "." ++ streams)
    × WritesNumber octets oxum.octets × WritesNumber streams oxum.streams

-- the law: a value reads just where it is made so
abbrev pub OxumsReadAsTheirParts : Type 0
OxumsReadAsTheirParts = (value : List ℕ) (oxum : Oxum)
    → (oxum_of value ≡ Some oxum) ↔ IsOxum value oxum
