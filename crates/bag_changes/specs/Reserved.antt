-- The names in the base folder that a renewal needs.
use Rattle.std.specs.Prelude.{◌≡◌, ◌++◌, ◌∷◌, Contains, List, false, map}
use Rattle.bag_text.specs.Alg.{algs}
use Rattle.bag_text.specs.Bytes.{Name}
use Rattle.bag_read.specs.ManifestName.{tag_path}
use Rattle.bag_read.specs.declared.kind.Kind.{Kind}
use Rattle.bag_read.specs.declared.kind.Kind.TheVariants.{Payload, Tag}
use Rattle.bag_read.specs.declared.tag_name.TagName.TheVariants.{Declaration, Info, Manifest}
use Rattle.bag_tree.specs.Bag.{Bag, has_folder}
use Rattle.bag_renewed.specs.Renewed.{begun_file}

-- the names of the manifests of a kind, of each supported algorithm
unfoldable pub manifest_names : Kind → List Name
manifest_names kind = map (λ alg. tag_path (Manifest kind alg)) algs

-- the names of the tag files that a renewal puts or removes, and of one that is begun
abbrev pub reserved_names : List Name
reserved_names =
    tag_path Declaration ∷ tag_path Info ∷ begun_file
    ∷ (manifest_names Payload ++ manifest_names Tag)

-- no folder has one of them, also no empty one
abbrev pub IsOutOfTheWay : Bag → Type 0
IsOutOfTheWay bag = (name : Name) → Contains reserved_names name → has_folder bag name ≡ false
