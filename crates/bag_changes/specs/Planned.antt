-- What a renewal changes over any tree: of bytes whose digests were compared.
use Rattle.std.specs.Prelude.{ℕ, ◌≡◌, ◌++◌, List, Option, filter, map}
use Rattle.bag_text.specs.Lines.{lines_of_file}
use Rattle.bag_read.specs.ManifestName.{tag_path}
use Rattle.bag_read.specs.declared.kind.Kind.TheVariants.{Tag}
use Rattle.bag_read.specs.declared.tag_name.TagName.TheVariants.{Info, Manifest}
use Rattle.bag_tree.specs.Bag.{Bag}
use Rattle.bag_tree.specs.Tree.{TreeState}
use Rattle.bag_tree.specs.declared.file_change.FileChange.{FileChange}
use Rattle.bag_changes.specs.Changes.{clearing, dropping, last_files, opening, put}
use Rattle.bag_checked.specs.Compared.{AreCompared}
use Rattle.bag_changes.specs.Composing.{is_tag_file, keeps_bytes, kept_names}
use Rattle.bag_renewed.specs.Target.{written_algs}
use Rattle.bag_changes.specs.NewInfo.{IsInfoAfter}
use Rattle.bag_checked.specs.NewManifests.{manifests_for}
use Rattle.bag_renewed.specs.Renewed.{in_path_order, new_algs, new_rules, reads_payload, with_path}
use Rattle.bag_tags.specs.Summed.{File, manifest_by}
use Rattle.bag_checked.specs.Summed.{IsInfoAmong, payload_of}
use Rattle.bag_renewed.specs.declared.renewal.Renewal.{Renewal}

-- of a bag these files were read, and this is the bag-info.txt that is written, if one is
module _ (bag : Bag) (renewal : Renewal) (files : List File) (info : Option (List ℕ)) where
  -- the files that are put first: bag-info.txt, and the payload manifests that aren't kept
  abbrev pub first_from : List File
  first_from =
      with_path (tag_path Info) info
      ++ manifests_for (new_rules bag renewal) (written_algs bag renewal) (payload_of files)

  -- the tag files that keep their bytes
  abbrev pub kept_from : List File
  kept_from = filter (λ e. keeps_bytes (kept_names bag renewal) e.0) (filter is_tag_file files)

  -- what tag manifests name
  abbrev pub named_from : List File
  named_from = in_path_order (kept_from ++ (first_from ++ last_files bag renewal))

  abbrev pub tag_manifests_from : List File
  tag_manifests_from =
      map (λ alg. (tag_path (Manifest Tag alg), manifest_by (new_rules bag renewal) alg named_from))
      (new_algs bag renewal)

  -- all changes: files are removed by their names, and these are put
  abbrev pub changes_from : List FileChange
  changes_from =
      opening bag renewal
      ++ (clearing bag renewal
      ++ (map put first_from
      ++ (dropping bag renewal
      ++ (map put (last_files bag renewal) ++ map put tag_manifests_from))))

-- Over any tree: the changes are those of the bag that has the files that the tree listed and the
-- tag files that it gave first, made of the bytes that it gave then and of which each digest was
-- compared that this bag's manifests give: of these are the elements of bag-info.txt that stay, and
-- the digests in new manifests.
pub record ChangesCompared (renewal : Renewal) (old new : TreeState) (planned : List FileChange)
    : Type 0 where
  pub bag : Bag
  pub files : List File
  pub compared : AreCompared bag (reads_payload bag renewal) files old new
  pub old_info : List ℕ
  pub old_info_is : IsInfoAmong files old_info
  pub info : Option (List ℕ)
  pub info_is : IsInfoAfter bag renewal (lines_of_file old_info) info
  pub changes_are : planned ≡ changes_from bag renewal files info
