-- Lists of names that are exactly those of the payload.
use Rattle.std.specs.Prelude.{ℕ, ◌≡◌, ◌≢◌, ◌⊎◌, ◌∷◌, true, false, List, filter}
use Rattle.bag_text.specs.Bytes.{Path}
use Rattle.bag_text.specs.Path.{is_payload_path}
use Rattle.bag_text.specs.declared.alg.Alg.{Alg}
use Rattle.bag_read.specs.declared.kind.Kind.TheVariants.{Payload}
use Rattle.bag_tree.specs.Bag.{Bag, HasFile}
use Rattle.bag_stages.specs.TagFiles.{HasSupported, Names}
use Rattle.bag_stages.specs.CompletenessStage.{IsPayloadFile}

-- the paths of payload files among these
abbrev pub payload_paths : List Path → List Path
payload_paths paths = filter is_payload_path paths

-- the rest of the names after a path: it is the first of them, or no payload file's
abbrev pub RestStartsAfter : List Path → Path → List Path → Type 0
RestStartsAfter names path rest = ((is_payload_path path ≡ true) × (names ≡ path ∷ rest))
    ⊎ ((is_payload_path path ≡ false) × (rest ≡ names))

-- there is none: the path is a payload file's, and not the first of the names
abbrev pub IsPayloadNotFirst : List Path → Path → Type 0
IsPayloadNotFirst names path =
    (is_payload_path path ≡ true) × ((rest : List (List ℕ)) → names ≢ path ∷ rest)

-- the payload manifest of an algorithm names the payload's files and no other
pub record IsNamedExactly (bag : Bag) (alg : Alg) : Type 0 where
  pub listed : (path : Path) → Names bag Payload alg path → HasFile bag path
  pub named : (path : Path) → IsPayloadFile bag path → Names bag Payload alg path

-- so it does, and is there
abbrev pub IsExact : Bag → Alg → Type 0
IsExact bag alg = HasSupported bag Payload alg × IsNamedExactly bag alg
