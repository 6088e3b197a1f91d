-- Which manifests and tag files a bag must have, and which it may have (BagIt Profiles
-- Specification, Manifests-Required, Manifests-Allowed, Tag-Manifests-Required,
-- Tag-Manifests-Allowed, Tag-Files-Required, Tag-Files-Allowed).
use Rattle.std.specs.Prelude.{ℕ, List, Option, Some, None, Result, Ok, option_map}
use Rattle.serde_json.specs.Data.{Data}
use Rattle.bag_profile.specs.declared.fault.ProfileFault.{ProfileFault}
use Rattle.bag_profile.specs.declared.key.Key.{Key}
use Rattle.bag_profile.specs.declared.key.Key.TheVariants as key
use Rattle.bag_profile.specs.declared.name_lists.NameRules.{NameRules}
use Rattle.bag_profile.specs.declared.name_lists.NameLists.{NameLists}
use Rattle.bag_profile.specs.Answer.{at}
use Rattle.bag_text.specs.FirstFault.{◌>>=◌}
use Rattle.bag_profile.specs.TextSet.{texts}

-- the set of texts at a key; none where it is absent
unfoldable pub texts_at : Key → Data → Result (Option (List (List ℕ))) ProfileFault
texts_at key = at key None (λ d. option_map Some (texts d))

-- the two lists at two keys
abbrev pub name_rules : Key → Key → Data → Result NameRules ProfileFault
name_rules required_key allowed_key d = do
  required ← texts_at required_key d
  allowed ← texts_at allowed_key d
  Ok record { required = required; allowed = allowed }

-- the six lists, in the order of their keys
abbrev pub name_lists_of : Data → Result NameLists ProfileFault
name_lists_of d = do
  manifests ← name_rules key.ManifestsRequired key.ManifestsAllowed d
  tag_manifests ← name_rules key.TagManifestsRequired key.TagManifestsAllowed d
  tag_files ← name_rules key.TagFilesRequired key.TagFilesAllowed d
  Ok record { manifests = manifests; tag_manifests = tag_manifests; tag_files = tag_files }
