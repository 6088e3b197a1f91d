-- The keys of a profile that are checked (BagIt Profiles Specification, Implementation Details).
use Rattle.std.specs.Prelude.{ℕ, Bool, List, [], ◌∷◌, codes, bytes_eq}
use Rattle.std.specs.List.{list_any}
use Rattle.bag_profile.specs.declared.key.Key.{Key}
use Rattle.bag_profile.specs.declared.key.Key.TheVariants as key

-- as it stands in a profile; empty for the whole text
unfoldable pub key_name : Key → List ℕ
key_name key.Whole = []
key_name key.ProfileInfo = codes "BagIt-Profile-Info"
key_name key.ProfileIdentifier = codes "BagIt-Profile-Identifier"
key_name key.BagInfo = codes "Bag-Info"
key_name key.ManifestsRequired = codes "Manifests-Required"
key_name key.ManifestsAllowed = codes "Manifests-Allowed"
key_name key.TagManifestsRequired = codes "Tag-Manifests-Required"
key_name key.TagManifestsAllowed = codes "Tag-Manifests-Allowed"
key_name key.TagFilesRequired = codes "Tag-Files-Required"
key_name key.TagFilesAllowed = codes "Tag-Files-Allowed"
key_name key.AllowFetch = codes "Allow-Fetch.txt"
key_name key.AcceptBagItVersion = codes "Accept-BagIt-Version"
key_name key.Serialization = codes "Serialization"

-- the keys of the profile's object that are checked, in this order
abbrev pub checked_keys : List Key
checked_keys =
    key.ProfileInfo ∷ key.BagInfo ∷ key.ManifestsRequired ∷ key.ManifestsAllowed
    ∷ key.TagManifestsRequired ∷ key.TagManifestsAllowed ∷ key.TagFilesRequired
    ∷ key.TagFilesAllowed ∷ key.AllowFetch ∷ key.AcceptBagItVersion ∷ key.Serialization ∷ []

unfoldable pub is_checked : List ℕ → Bool
is_checked name = list_any (λ k. bytes_eq name (key_name k)) checked_keys
