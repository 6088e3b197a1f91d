-- The names of manifests (RFC 8493, 2.1.3 and 2.2.1).
use Rattle.std.specs.Prelude.{ℕ, ◌-◌, ◌&&◌, ◌||◌, Bool, not, List, [], ◌++◌, length, take, bytes_eq}
use Rattle.std.specs.Prelude.{codes}
use Rattle.std.specs.List.{list_all}
use Rattle.std.specs.Char.{is_ascii_digit, is_ascii_lowercase}
use Rattle.bag_text.specs.Bytes.{Name, Path}
use Rattle.bag_text.specs.Text.{without_prefix}
use Rattle.bag_read.specs.declared.kind.Kind.{Kind}
use Rattle.bag_read.specs.declared.kind.Kind.TheVariants.{Payload, Tag}
use Rattle.bag_text.specs.Alg.{name}
use Rattle.bag_read.specs.declared.tag_name.TagName.{TagName}
use Rattle.bag_read.specs.declared.tag_name.TagName.TheVariants.{Declaration, Info, Fetch, Manifest}

abbrev pub prefix : Kind → List ℕ
prefix Payload = codes "manifest-"
prefix Tag = codes "tagmanifest-"

-- the file in the base folder that is the manifest of an algorithm's name
abbrev pub manifest_name : Kind → List ℕ → Name
manifest_name kind alg = prefix kind ++ alg ++ codes ".txt"

-- one or more of a to z and 0 to 9
abbrev pub is_alg_text : List ℕ → Bool
is_alg_text t = not (bytes_eq t []) && list_all (λ c. is_ascii_lowercase c || is_ascii_digit c) t

-- the name of a manifest of this kind, of any algorithm
abbrev pub is_manifest_name : Kind → Path → Bool
is_manifest_name kind path =
    let rest = without_prefix (prefix kind) path in
    let alg = take (length rest - 4) rest in
    is_alg_text alg && bytes_eq path (manifest_name kind alg)

-- where a tag file stands
abbrev pub tag_path : TagName → Path
tag_path Declaration = codes "bagit.txt"
tag_path Info = codes "bag-info.txt"
tag_path Fetch = codes "fetch.txt"
tag_path (Manifest kind alg) = manifest_name kind (name alg)
