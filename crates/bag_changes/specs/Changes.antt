-- The changes in which a bag is renewed, one tag file after the other.
use Rattle.std.specs.Prelude.{ℕ, List, [], ◌∷◌, ◌++◌, filter, map, not, take, if◌then◌else◌}
use Rattle.bag_text.specs.declared.alg.Alg.{Alg}
use Rattle.bag_read.specs.ManifestName.{tag_path}
use Rattle.bag_read.specs.declared.kind.Kind.{Kind}
use Rattle.bag_read.specs.declared.kind.Kind.TheVariants.{Payload, Tag}
use Rattle.bag_read.specs.declared.tag_name.TagName.TheVariants.{Manifest}
use Rattle.bag_tree.specs.Bag.{Bag, has_file}
use Rattle.bag_tree.specs.FileChanges.{after_changes}
use Rattle.bag_tree.specs.declared.file_change.FileChange.{FileChange}
use Rattle.bag_tree.specs.declared.file_change.FileChange.TheVariants.{Put, Remove}
use Rattle.bag_renewed.specs.Renewed.{algs_where, begun_file, declaration_file}
use Rattle.bag_renewed.specs.Renewed.{has_tag_manifest, info_files, is_dropped_alg, is_kept}
use Rattle.bag_renewed.specs.Renewed.{payload_manifests, tag_manifests, writes_info}
use Rattle.bag_tags.specs.Summed.{File}
use Rattle.bag_renewed.specs.declared.renewal.Renewal.{Renewal}

-- those of these files that aren't kept
abbrev pub unkept : Bag → Renewal → List File → List File
unkept bag renewal files = filter (λ e. not (is_kept bag renewal e.0)) files

-- the change that puts a file
abbrev pub put : File → FileChange
put e = Put e.0 e.1

-- the manifests of these algorithms are removed
abbrev pub removals_of : Kind → List Alg → List FileChange
removals_of kind algs = map (λ alg. Remove (tag_path (Manifest kind alg))) algs

module _ (bag : Bag) (renewal : Renewal) where
  -- the tag manifests are removed, so that what they name can be changed
  abbrev pub opening : List FileChange
  opening = removals_of Tag (algs_where (has_tag_manifest bag))

  -- a file that an earlier renewal has begun is removed
  abbrev pub clearing : List FileChange
  clearing = if has_file bag begun_file then Remove begun_file ∷ [] else []

  -- the metadata, where it is written
  abbrev pub written_info : List File
  written_info = if writes_info bag renewal then info_files bag renewal else []

  -- it is put, and the payload manifests that aren't kept
  abbrev pub putting : List FileChange
  putting = map put written_info ++ map put (unkept bag renewal (payload_manifests bag renewal))

  -- the payload manifests of algorithms that are dropped are removed
  abbrev pub dropping : List FileChange
  dropping = removals_of Payload (algs_where (is_dropped_alg bag renewal))

  -- the declaration, where it isn't kept
  abbrev pub last_files : List File
  last_files = unkept bag renewal (declaration_file bag renewal ∷ [])

  -- it is put, and last the tag manifests
  abbrev pub closing : List FileChange
  closing = map put last_files ++ map put (tag_manifests bag renewal)

  abbrev pub changes : List FileChange
  changes = opening ++ (clearing ++ (putting ++ (dropping ++ closing)))

  -- the bag after the first k changes
  abbrev pub after : ℕ → Bag
  after k = after_changes (take k changes) bag
