-- The names of a set that clash with others, one name at a time.
use Rattle.std.specs.Prelude.{ℕ, ◌≡◌, List, String, Option, None, Some, bytes_eq, if◌then◌else◌}
use Rattle.std.specs.Borrow.{Bor}
use Rattle.std.specs.HashMap.{HashMap, get_by_text}
use Rattle.std.specs.Option.{option_map}
use Rattle.bag_text.specs.Bytes.{Path}
use Rattle.bag_text.specs.declared.code.Code.TheVariants.{NameClash}
use Rattle.bag_faults.specs.FaultAt.{of_path}
use Rattle.bag_faults.specs.declared.fault.Fault.{Fault}
use Rattle.bag_stages.specs.Clashes.{nfc_of, Clashes}

-- the fault that a name isn't the least of its class
abbrev pub name_clash : Path → Path → Fault
name_clash name least = of_path NameClash name None least

-- that fault of this name, which isn't the least of its class among the names of a set
abbrev pub IsClashOf : (Path → Type 0) → Path → Fault → Type 0
IsClashOf IsName name f = (least : List ℕ) × (f ≡ name_clash name least) × Clashes IsName name least

-- that fault of a name of the set
abbrev pub IsClashAmong : (Path → Type 0) → Fault → Type 0
IsClashAmong IsName f = (name : List ℕ) × IsClashOf IsName name f

-- the first name of a form, among those that were seen
abbrev pub first_of_form : {Y S : Type 0} → HashMap (String Y) (Bor (List ℕ)) S → List ℕ
    → Option Path
first_of_form firsts form = option_map (λ name. name.now) (get_by_text firsts form)

-- the same, where one more name is seen
abbrev pub first_with : Option Path → Path → List ℕ → Option Path
first_with None name form = if bytes_eq (nfc_of name) form then Some name else None
first_with (Some first) name form = Some first
