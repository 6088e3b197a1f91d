-- The bag that is made of the files of a folder (RFC 8493, 2).
use Rattle.std.specs.Prelude.{List, [], ◌∷◌, ◌++◌, not, map, bytes_eq, codes}
use Rattle.std.specs.FinMap as fin
use Rattle.std.specs.FinSet as set
use Rattle.std.specs.List.{list_any}
use Rattle.bag_text.specs.Bytes.{Name}
use Rattle.bag_text.specs.Path.{under, first_component}
use Rattle.bag_text.specs.declared.alg.Alg.{Alg}
use Rattle.bag_read.specs.ManifestName.{tag_path}
use Rattle.bag_read.specs.declared.kind.Kind.TheVariants.{Payload, Tag}
use Rattle.bag_read.specs.declared.tag_name.TagName.TheVariants.{Declaration, Info, Manifest}
use Rattle.bag_tree.specs.Bag.{Bag, files_of}
use Rattle.bag_stages.specs.MetadataStage.{oxum_label}
use Rattle.bag_read.specs.Oxum.{oxum_text}
use Rattle.bag_stages.specs.Payload.{oxum_of_files}
use Rattle.bag_tags.specs.Declaration.{declaration_text}
use Rattle.bag_tags.specs.Element.{NewElement, info_text}
use Rattle.bag_tags.specs.Summed.{File, manifest}

-- the folder of the payload
abbrev pub data_folder : Name
data_folder = codes "data"

-- each file goes under data/, with its bytes (2.1.2)
abbrev pub new_payload : List File → List File
new_payload files = map (λ e. (under data_folder e.0, e.1)) files

module _ (files : List File) (algs : List Alg) (info : List NewElement) where
  abbrev pub declaration_file : File
  declaration_file = (tag_path Declaration, declaration_text)

  -- the elements that are given, and last the size of the payload (2.2.2)
  abbrev pub new_elements : List NewElement
  new_elements = info ++ (oxum_label, oxum_text (oxum_of_files (new_payload files))) ∷ []

  abbrev pub info_file : File
  info_file = (tag_path Info, info_text new_elements)

  -- a payload manifest for each algorithm names the whole payload (2.1.3)
  abbrev pub payload_manifests : List File
  payload_manifests =
      map (λ alg. (tag_path (Manifest Payload alg), manifest alg (new_payload files))) algs

  -- what a tag manifest names, in path order: the other tag files, but no tag manifest (2.2.1)
  abbrev pub named_tag_files : List File
  named_tag_files = info_file ∷ declaration_file ∷ payload_manifests

  abbrev pub tag_manifests : List File
  tag_manifests = map (λ alg. (tag_path (Manifest Tag alg), manifest alg named_tag_files)) algs

  -- the tag files, in the order in which they are written
  abbrev pub new_tag_files : List File
  new_tag_files = declaration_file ∷ info_file ∷ payload_manifests ++ tag_manifests

-- The bag that is made by these algorithms, with these elements. The base folders that hold no file
-- stay, and data is there.
unfoldable pub made : Bag → List Alg → List NewElement → Bag
made bag algs info =
    let files = files_of bag in
    let firsts = map (λ e. first_component e.0) files in
    record {
      files = fin.from_entries (new_payload files ++ new_tag_files files algs info);
      folders =
          set.insert (set.retain bag.folders (λ name. not (list_any (bytes_eq name) firsts)))
          data_folder;
    }
