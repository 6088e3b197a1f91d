-- How the changes of a renewal are composed, of files and of their digests.
use Rattle.std.specs.Prelude.{ℕ, ◌||◌, Bool, not, List, [], ◌∷◌, ◌++◌, Option, bytes_eq}
use Rattle.std.specs.Prelude.{All, map, if◌then◌else◌}
use Rattle.std.specs.List.{list_any}
use Rattle.bag_text.specs.Bytes.{Path}
use Rattle.bag_text.specs.Path.{is_payload_path}
use Rattle.bag_text.specs.declared.alg.Alg.{Alg}
use Rattle.bag_text.specs.declared.rules.Rules.{Rules}
use Rattle.bag_read.specs.ManifestName.{tag_path}
use Rattle.bag_read.specs.declared.kind.Kind.TheVariants.{Payload, Tag}
use Rattle.bag_read.specs.declared.tag_name.TagName.{TagName}
use Rattle.bag_read.specs.declared.tag_name.TagName.TheVariants.{Declaration, Info, Manifest}
use Rattle.bag_tags.specs.Summed.{manifests_by, File}
use Rattle.bag_tree.specs.Bag.{Bag}
use Rattle.bag_tree.specs.ChangeFiles.{IsOfFile}
use Rattle.bag_tree.specs.declared.file_change.FileChange.{FileChange}
use Rattle.bag_changes.specs.Changes.{put, unkept, written_info}
use Rattle.bag_renewed.specs.Renewed.{algs_where, begun_file, in_path_order}
use Rattle.bag_renewed.specs.Renewed.{is_kept, is_kept_alg, payload_manifests, stays, writes_info}
use Rattle.bag_checked.specs.Summed.{AreSummedBy}
use Rattle.bag_renewed.specs.declared.renewal.Renewal.{Renewal}
use Rattle.bag_tags.specs.declared.summed.SummedFile.{SummedFile}

abbrev pub is_tag_file : File → Bool
is_tag_file e = not (is_payload_path e.0)

-- the path and the digests of a file
abbrev pub summed_of : List ℕ × List (Option (List ℕ)) → SummedFile
summed_of e = record { path = e.0; sums = e.1 }

-- the test of a path, of a file that was summed
abbrev pub of_path : (List ℕ → Bool) → SummedFile → Bool
of_path test one = test one.path

-- a path that isn't one of the payload
abbrev pub is_tag_path : Path → Bool
is_tag_path path = not (is_payload_path path)

-- these digests are of these files in the order of their paths
abbrev pub AreInPathOrder : List Alg → List File → List SummedFile → Type 0
AreInPathOrder algs files summed = AreSummedBy algs (in_path_order files) summed

-- each change is of a file of the base folder, and puts none of the name that a file has while it
-- is written
abbrev pub AreOfFiles : List FileChange → Type 0
AreOfFiles changes = All (IsOfFile begun_file) changes

-- the tag manifests that give these digests are put, written by these rules
abbrev pub tag_manifests_of : Rules → List Alg → List SummedFile → List FileChange
tag_manifests_of rules algs files = map put (manifests_by rules Tag algs files)

-- the file of this name stays, or is one whose bytes are kept
abbrev pub keeps_bytes : List TagName → Path → Bool
keeps_bytes kept path = stays path || list_any (λ name. bytes_eq (tag_path name) path) kept

module _ (bag : Bag) (renewal : Renewal) where
  -- the tag files whose names a renewal writes, and that are kept
  abbrev pub kept_names : List TagName
  kept_names =
      map (Manifest Payload) (algs_where (is_kept_alg bag renewal))
      ++ ((if writes_info bag renewal then [] else Info ∷ [])
      ++ (if is_kept bag renewal (tag_path Declaration) then Declaration ∷ [] else []))

  -- the tag files that are put before manifests are dropped
  abbrev pub first_files : List File
  first_files = written_info bag renewal ++ unkept bag renewal (payload_manifests bag renewal)
