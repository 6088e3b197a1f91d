-- Which shapes the values of a profile's keys have, and which fault is the first (BagIt Profiles
-- Specification, Implementation Details).
use Rattle.std.specs.Prelude.{◌≡◌, Bool, true, false, not, ◌&&◌, List, [], ◌∷◌, Option, Some, None}
use Rattle.std.specs.Prelude.{Result, Ok, Err, codes, find, if◌then◌else◌, is_some, option_map}
use Rattle.std.specs.Prelude.{option_and_then}
use Rattle.std.specs.Option.{option_or}
use Rattle.serde_json.specs.Data.{Data, Items, no_items, item, Members, no_members, member}
use Rattle.serde_json.specs.Find.{get, as_bool, as_str, as_array, as_object}
use Rattle.bag_profile.specs.declared.fault.ProfileFault.{ProfileFault}
use Rattle.bag_profile.specs.declared.fault.ProfileFault.TheVariants.{NoIdentifier, WrongShape}
use Rattle.bag_profile.specs.declared.key.Key.{Key}
use Rattle.bag_profile.specs.declared.key.Key.TheVariants.{Whole, ProfileInfo, ProfileIdentifier}
use Rattle.bag_profile.specs.declared.key.Key.TheVariants.{BagInfo, ManifestsRequired}
use Rattle.bag_profile.specs.declared.key.Key.TheVariants.{ManifestsAllowed, TagManifestsRequired}
use Rattle.bag_profile.specs.declared.key.Key.TheVariants.{TagManifestsAllowed, TagFilesRequired}
use Rattle.bag_profile.specs.declared.key.Key.TheVariants.{TagFilesAllowed, AllowFetch}
use Rattle.bag_profile.specs.declared.key.Key.TheVariants.{AcceptBagItVersion, Serialization}
use Rattle.bag_profile.specs.Key.{key_name}
use Rattle.bag_profile.specs.Read.{profile_of}
use Rattle.bag_profile.specs.Terms.{serialization_named}

-- what is there passes
abbrev pub passes : {A : Type 0} → (A → Bool) → Option A → Bool
passes test None = false
passes test (Some x) = test x

-- what may be absent passes
abbrev pub may_be : (Data → Bool) → Option Data → Bool
may_be test None = true
may_be test (Some d) = test d

abbrev pub is_boolean : Data → Bool
is_boolean d = is_some (as_bool d)

abbrev pub is_text : Data → Bool
is_text d = is_some (as_str d)

abbrev pub is_object : Data → Bool
is_object d = is_some (as_object d)

abbrev pub are_texts : Items → Bool
are_texts no_items = true
are_texts (item x xs) = is_text x && are_texts xs

abbrev pub is_list_of_texts : Data → Bool
is_list_of_texts d = passes are_texts (as_array d)

-- an object with `required`, `repeatable` and `values`, each of which may be absent
abbrev pub is_rule : Data → Bool
is_rule d =
    is_object d && may_be is_boolean (get (codes "required") d)
    && may_be is_boolean (get (codes "repeatable") d)
    && may_be is_list_of_texts (get (codes "values") d)

abbrev pub are_rules : Members → Bool
are_rules no_members = true
are_rules (member label d rest) = is_rule d && are_rules rest

abbrev pub is_serialization : Data → Bool
is_serialization d = passes (λ text. is_some (serialization_named text)) (as_str d)

-- whether the value of a key has the key's shape
abbrev pub has_shape : Key → Data → Bool
has_shape Whole d = is_object d
has_shape ProfileInfo d = is_object d
has_shape ProfileIdentifier d = is_text d
has_shape BagInfo d = passes are_rules (as_object d)
has_shape ManifestsRequired d = is_list_of_texts d
has_shape ManifestsAllowed d = is_list_of_texts d
has_shape TagManifestsRequired d = is_list_of_texts d
has_shape TagManifestsAllowed d = is_list_of_texts d
has_shape TagFilesRequired d = is_list_of_texts d
has_shape TagFilesAllowed d = is_list_of_texts d
has_shape AllowFetch d = is_boolean d
has_shape AcceptBagItVersion d = is_list_of_texts d
has_shape Serialization d = is_serialization d

-- the fault of a value of a key that has to be there
abbrev pub needed_fault : Key → Option Data → Option ProfileFault
needed_fault key None = Some NoIdentifier
needed_fault key (Some d) = if has_shape key d then None else Some (WrongShape key)

-- the keys that may be absent, in their order
abbrev pub optional_keys : List Key
optional_keys =
    BagInfo ∷ ManifestsRequired ∷ ManifestsAllowed ∷ TagManifestsRequired ∷ TagManifestsAllowed
    ∷ TagFilesRequired
    ∷ TagFilesAllowed ∷ AllowFetch ∷ AcceptBagItVersion ∷ Serialization ∷ []

abbrev pub is_wrong : Data → Key → Bool
is_wrong d key = not (may_be (has_shape key) (get (key_name key) d))

-- the first fault of an object: of what holds the identifier, of the identifier, of the first other
-- key of wrong shape
abbrev pub first_fault_of_object : Data → Option ProfileFault
first_fault_of_object d =
    option_or (needed_fault ProfileInfo (get (key_name ProfileInfo) d))
    (option_or (needed_fault ProfileIdentifier
    (option_and_then (get (key_name ProfileIdentifier)) (get (key_name ProfileInfo) d)))
    (option_map WrongShape (find (is_wrong d) optional_keys)))

-- the first fault of a JSON value
abbrev pub first_fault : Data → Option ProfileFault
first_fault d = if is_object d then first_fault_of_object d else Some (WrongShape Whole)

-- the fault, where there is one
abbrev pub fault_in_result : {A : Type 0} → Result A ProfileFault → Option ProfileFault
fault_in_result (Ok x) = None
fault_in_result (Err fault) = Some fault

-- the law: a value is a profile where all keys have their shapes, and else its first fault is
-- reported
abbrev pub FirstFaultIsReported : Type 0
FirstFaultIsReported = (d : Data) → fault_in_result (profile_of d) ≡ first_fault d
