-- What a profile holds: the value at each of its keys (BagIt Profiles Specification, Implementation
-- Details), and the laws that its definition keeps.
use Rattle.std.specs.Prelude.{ℕ, ◌≡◌, ◌⊎◌, true, false, List, [], Option, Some, None, Ok, codes}
use Rattle.std.specs.Prelude.{option_map, option_and_then}
use Rattle.serde_json.specs.Data.{Data, Members}
use Rattle.serde_json.specs.Find.{get, as_bool, as_str, as_object}
use Rattle.bag_profile.specs.declared.form.Form.TheVariants.{Folder}
use Rattle.bag_profile.specs.declared.label.LabelRule.{LabelRule}
use Rattle.bag_profile.specs.declared.rule.ListRule.TheVariants as list
use Rattle.bag_profile.specs.declared.terms.Serialization.TheVariants.{Optional}
use Rattle.bag_profile.specs.Label.{label_rule, label_rules}
use Rattle.bag_profile.specs.Profile.{Profile, names}
use Rattle.bag_profile.specs.Read.{profile_of}
use Rattle.bag_profile.specs.Terms.{serialization_named}
use Rattle.bag_profile.specs.TextSet.{texts}
use Rattle.bag_profile.specs.Unchecked.{unchecked_of}

-- what is read of the value at a key; where the key is absent, this default
abbrev pub IsAt : {A : Type 0} → List ℕ → A → (Data → Option A) → Data → A → Type 0
IsAt key default reading d x =
    ((get key d ≡ None) × (x ≡ default))
    ⊎ ((value : Data) × (get key d ≡ Some value) × (reading value ≡ Some x))

-- the set of the texts at a key; none where it is absent
abbrev pub IsSetAt : List ℕ → Data → Option (List (List ℕ)) → Type 0
IsSetAt key = IsAt key None (λ value. option_map Some (texts value))

-- the identifier, which stands in an object of its own
abbrev pub IsIdentifier : Data → List ℕ → Type 0
IsIdentifier d identifier =
    (info value : Data) × (get (codes "BagIt-Profile-Info") d ≡ Some info)
    × (get (codes "BagIt-Profile-Identifier") info ≡ Some value)
    × (as_str value ≡ Some identifier)

-- the profile holds what stands at its keys
pub record HoldsKeys (d : Data) (profile : Profile) : Type 0 where
  pub its_identifier : IsIdentifier d profile.identifier
  pub bag_info : IsAt (codes "Bag-Info") [] label_rules d profile.labels
  pub manifests_required : IsSetAt (codes "Manifests-Required") d
      (names profile list.ManifestsRequired)
  pub manifests_allowed : IsSetAt (codes "Manifests-Allowed") d
      (names profile list.ManifestsAllowed)
  pub tag_manifests_required : IsSetAt (codes "Tag-Manifests-Required") d
      (names profile list.TagManifestsRequired)
  pub tag_manifests_allowed : IsSetAt (codes "Tag-Manifests-Allowed") d
      (names profile list.TagManifestsAllowed)
  pub tag_files_required : IsSetAt (codes "Tag-Files-Required") d
      (names profile list.TagFilesRequired)
  pub tag_files_allowed : IsSetAt (codes "Tag-Files-Allowed") d (names profile list.TagFilesAllowed)
  pub allow_fetch : IsAt (codes "Allow-Fetch.txt") true as_bool d profile.terms.allow_fetch
  pub accept_version : IsSetAt (codes "Accept-BagIt-Version") d
      (names profile list.AcceptBagItVersion)
  pub serialization : IsAt (codes "Serialization") Optional
      (λ value. option_and_then serialization_named (as_str value)) d profile.terms.serialization
  pub others : (members : Members) × (as_object d ≡ Some members)
      × (profile.unchecked ≡ unchecked_of members)
  pub for_folders : profile.form ≡ Folder

-- the law: a value that is a profile is one that holds what stands at its keys
abbrev pub ProfilesHoldTheirKeys : Type 0
ProfilesHoldTheirKeys = (d : Data) (profile : Profile) → profile_of d ≡ Ok profile
    → HoldsKeys d profile

-- the rule of a label holds what stands at its keys
pub record RuleHoldsKeys (d : Data) (rule : LabelRule) : Type 0 where
  pub required : IsAt (codes "required") false as_bool d rule.required
  pub repeatable : IsAt (codes "repeatable") true as_bool d rule.repeatable
  pub allowed : IsAt (codes "values") [] texts d rule.values

-- the law: a value that is a rule is that of its label, and holds what stands at its keys
abbrev pub RulesHoldTheirKeys : Type 0
RulesHoldTheirKeys = (label : List ℕ) (d : Data) (rule : LabelRule) → label_rule label d ≡ Some rule
    → (rule.label ≡ label) × RuleHoldsKeys d rule
