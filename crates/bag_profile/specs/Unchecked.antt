-- The keys of a profile that aren't checked.
use Rattle.std.specs.Prelude.{ℕ, not, List, [], ◌∷◌, filter}
use Rattle.serde_json.specs.Data.{Members, no_members, member}
use Rattle.bag_profile.specs.Key.{is_checked}

abbrev pub keys : Members → List (List ℕ)
keys no_members = []
keys (member key d rest) = key ∷ keys rest

-- in the order of the keys
unfoldable pub unchecked_of : Members → List (List ℕ)
unchecked_of members = filter (λ key. not (is_checked key)) (keys members)
