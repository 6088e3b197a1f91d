-- What manifests give for a file (RFC 8493, 2.1.3 and 2.2.1).
use Rattle.std.specs.Prelude.{◌≡◌, ◌↔◌, List, Option, Contains, MatchOption, if◌then◌else◌}
use Rattle.bag_text.specs.Bytes.{Path}
use Rattle.hex.specs.Hex.{encode_lower}
use Rattle.bag_text.specs.declared.alg.Alg.{Alg}
use Rattle.bag_read.specs.declared.kind.Kind.{Kind}
use Rattle.bag_entries.specs.declared.entry.ManifestEntry.{ManifestEntry}
use Rattle.bag_tree.specs.Bag.{Bag}
use Rattle.bag_stages.specs.Expected.{Expected}
use Rattle.bag_stages.specs.TagFiles.{Names}
use Rattle.bag_stages.specs.ValidityStage.{IsEntryIn}
use Rattle.bag_text.specs.Path.{is_payload_path}
use Rattle.bag_read.specs.declared.kind.Kind.TheVariants.{Payload, Tag}

-- the kind of the manifests that may name a path: payload manifests name payload files, and tag
-- manifests the others
abbrev pub kind_of : Path → Kind
kind_of path = if is_payload_path path then Payload else Tag

-- these are the algorithms whose manifests name the path
abbrev pub AreNaming : Bag → Path → List Alg → Type 0
AreNaming bag path some = (alg : Alg) → Contains some alg ↔ Names bag (kind_of path) alg path

-- the entry is the manifest's of the path, and spells this digest
pub record IsSpelledBy (bag : Bag) (path : Path) (kind : Kind) (one : Expected) : Type 0 where
  pub entry : ManifestEntry
  pub listed : IsEntryIn bag kind one.alg entry
  pub path_is : entry.path ≡ path
  pub digest_is : entry.digest ≡ encode_lower one.digest

-- what the manifest of a kind and an algorithm gives for the path; nothing where it doesn't name it
abbrev pub IsGivenBy : Bag → Path → Kind → Alg → Option Expected → Type 0
IsGivenBy bag path kind alg given =
    MatchOption given (¬ (Names bag kind alg path)) (λ one.
    (one.alg ≡ alg) × IsSpelledBy bag path kind one)
