-- The profile that a JSON value is, or the first thing that is wrong with it (BagIt Profiles
-- Specification, Implementation Details).
use Rattle.std.specs.Prelude.{ℕ, ◌≡◌, ◌⊎◌, List, [], Option, Some, None, Result, Ok, Err}
use Rattle.std.specs.Prelude.{if◌then◌else◌, option_map}
use Rattle.std.specs.Str.{is_utf8}
use Rattle.serde_json.specs.Data.{Data, Members}
use Rattle.serde_json.specs.Find.{as_str, as_object}
use Rattle.serde_json.specs.Read as json
use Rattle.bag_profile.specs.declared.fault.ProfileFault.{ProfileFault}
use Rattle.bag_profile.specs.declared.fault.ProfileFault.TheVariants.{NotJson, Memory}
use Rattle.bag_profile.specs.declared.form.Form.TheVariants.{Folder}
use Rattle.bag_profile.specs.declared.key.Key.TheVariants as key
use Rattle.bag_profile.specs.declared.label.LabelRule.{LabelRule}
use Rattle.bag_profile.specs.Answer.{shaped, at, needed}
use Rattle.bag_text.specs.FirstFault.{◌>>=◌}
use Rattle.bag_profile.specs.Label.{label_rules}
use Rattle.bag_profile.specs.NameLists.{name_lists_of}
use Rattle.bag_profile.specs.Profile.{Profile}
use Rattle.bag_profile.specs.Terms.{terms_of}
use Rattle.bag_profile.specs.Unchecked.{unchecked_of}

-- the fault is out of memory, or there is no JSON value
abbrev pub IsNoJson : ProfileFault → Option Data → Type 0
IsNoJson fault value = (fault ≡ Memory) ⊎ ((fault ≡ NotJson) × (value ≡ None))

-- the value itself, where it is an object
abbrev pub as_record : Data → Option Data
as_record d = option_map (λ _. d) (as_object d)

unfoldable pub identifier_of : Data → Result (List ℕ) ProfileFault
identifier_of d = needed key.ProfileInfo as_record d >>= needed key.ProfileIdentifier as_str

unfoldable pub labels_of : Data → Result (List LabelRule) ProfileFault
labels_of = at key.BagInfo [] label_rules

-- what an object says, whose members are given too; as it is read, it is for folders
abbrev pub of_object : Data → Members → Result Profile ProfileFault
of_object d members = do
  identifier ← identifier_of d
  labels ← labels_of d
  names ← name_lists_of d
  terms ← terms_of d
  Ok record {
    identifier = identifier;
    labels = labels;
    names = names;
    terms = terms;
    unchecked = unchecked_of members;
    form = Folder;
  }

-- the profile that a value is
unfoldable pub profile_of : Data → Result Profile ProfileFault
profile_of d = shaped key.Whole (as_object d) >>= of_object d

abbrev pub profile_or : Option Data → Result Profile ProfileFault
profile_or None = Err NotJson
profile_or (Some d) = profile_of d

-- the JSON value that bytes are, where they are UTF-8 and nest at most 127 deep
unfoldable pub json_of : List ℕ → Option Data
json_of bytes = if is_utf8 bytes then json.read bytes else None

-- the profile that bytes are
unfoldable pub profile_in : List ℕ → Result Profile ProfileFault
profile_in bytes = profile_or (json_of bytes)
