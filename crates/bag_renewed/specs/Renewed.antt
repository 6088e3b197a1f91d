-- The bag that a renewal makes of a bag (RFC 8493, 2).
use Rattle.std.specs.Prelude.{ℕ, ◌||◌, ◌&&◌, Bool, true, false, not, List, [], ◌∷◌, ◌++◌, bytes_eq}
use Rattle.std.specs.Prelude.{codes, Option, None, Some, filter, map, if◌then◌else◌}
use Rattle.std.specs.FinMap as fin
use Rattle.std.specs.List.{list_any}
use Rattle.std.specs.Option.{unwrap_or}
use Rattle.bag_text.specs.Bytes.{Content, Name, Path}
use Rattle.bag_text.specs.Alg.{algs}
use Rattle.bag_text.specs.AlgList.{has_member}
use Rattle.bag_text.specs.Path.{is_payload_path}
use Rattle.bag_text.specs.Text.{text_cmp}
use Rattle.bag_text.specs.declared.alg.Alg.{Alg}
use Rattle.bag_read.specs.ManifestName.{is_manifest_name, tag_path}
use Rattle.bag_read.specs.declared.kind.Kind.TheVariants.{Payload, Tag}
use Rattle.bag_read.specs.declared.tag_name.TagName.TheVariants.{Declaration, Info, Manifest}
use Rattle.bag_text.specs.declared.rules.Rules.{Rules}
use Rattle.bag_text.specs.declared.rules.Rules.TheVariants.{V10, V097}
use Rattle.bag_tree.specs.Bag.{Bag, file, files_of, has_file}
use Rattle.bag_facts.specs.Facts.{rules_in}
use Rattle.bag_read.specs.Oxum.{oxum_text}
use Rattle.bag_stages.specs.Payload.{oxum, payload}
use Rattle.bag_tags.specs.Declaration.{declaration_text}
use Rattle.bag_tags.specs.Element.{NewElement}
use Rattle.bag_tags.specs.OnLines.{text_on_lines}
use Rattle.bag_tags.specs.Summed.{File, manifest_by}
use Rattle.bag_renewed.specs.Elements.{asks_nothing, elements_of, renewed_elements}
use Rattle.bag_renewed.specs.declared.renewal.Renewal.{Renewal}

-- the name that a tag file has while it is written
abbrev pub begun_file : Name
begun_file = codes ".bagit-begun"

-- files in the order of their paths
abbrev pub in_path_order : List File → List File
in_path_order files = fin.entries (fin.from_entries {R = text_cmp} files)

-- the algorithms that pass, in their order
unfoldable pub algs_where : (Alg → Bool) → List Alg
algs_where p = filter p algs

-- a bag has the manifest of an algorithm
abbrev pub has_payload_manifest : Bag → Alg → Bool
has_payload_manifest bag alg = has_file bag (tag_path (Manifest Payload alg))

abbrev pub has_tag_manifest : Bag → Alg → Bool
has_tag_manifest bag alg = has_file bag (tag_path (Manifest Tag alg))

-- a path that isn't of the payload, and not the name of a tag file that a renewal writes or leaves
-- out
abbrev pub stays : Path → Bool
stays path =
    not (is_payload_path path) && not (bytes_eq path (tag_path Declaration))
    && not (bytes_eq path (tag_path Info)) && not (is_manifest_name Payload path)
    && not (is_manifest_name Tag path) && not (bytes_eq path begun_file)

-- the tag files whose names no renewal writes
abbrev pub kept_tag_files : Bag → List File
kept_tag_files bag = filter (λ e. stays e.0) (files_of bag)

abbrev pub is_v10 : Rules → Bool
is_v10 V10 = true
is_v10 V097 = false

-- the rules of the renewed bag: those of the bag, unless it is to become one of 1.0
abbrev pub new_rules : Bag → Renewal → Rules
new_rules bag renewal = if renewal.to_1_0 then V10 else rules_in bag

-- a bag whose rules stay keeps what needs no change, and one that becomes one of 1.0 nothing
abbrev pub keeps : Bag → Renewal → Bool
keeps bag renewal = is_v10 (rules_in bag) || not renewal.to_1_0

-- a file that is there and is kept
abbrev pub is_kept : Bag → Renewal → Path → Bool
is_kept bag renewal path = keeps bag renewal && has_file bag path

-- the file at a path, if any
abbrev pub with_path : Path → Option Content → List File
with_path path None = []
with_path path (Some content) = (path, content) ∷ []

abbrev pub file_at : Bag → Path → List File
file_at bag path = with_path path (file bag path)

-- the bytes of a file that is kept, else these
abbrev pub kept_or : Bag → Renewal → Path → List ℕ → List ℕ
kept_or bag renewal path text =
    if keeps bag renewal then unwrap_or (file bag path) text else text

module _ (bag : Bag) (renewal : Renewal) where
  -- the declaration (2.1.1)
  abbrev pub declaration_file : File
  declaration_file =
      (tag_path Declaration, kept_or bag renewal (tag_path Declaration) declaration_text)

  -- the algorithms of the manifests: those that it had, and that are added, but for those that are
  -- dropped
  abbrev pub is_new_alg : Alg → Bool
  is_new_alg alg =
      (has_payload_manifest bag alg || has_member renewal.added alg)
      && not (has_member renewal.dropped alg)

  abbrev pub new_algs : List Alg
  new_algs = algs_where is_new_alg

  -- the old elements, changed, and the size of the payload (2.2.2)
  abbrev pub new_elements : List NewElement
  new_elements =
      renewed_elements renewal.elements (oxum_text (oxum bag)) (elements_of bag)

  -- the metadata is written where something is asked of it, and where nothing is kept
  abbrev pub writes_info : Bool
  writes_info = not (keeps bag renewal && asks_nothing renewal.elements)

  -- the metadata, if any
  abbrev pub info_files : List File
  info_files =
      if writes_info then (tag_path Info, text_on_lines new_elements) ∷ []
      else file_at bag (tag_path Info)

  -- a payload manifest for each algorithm names the whole payload (2.1.3), but one that is kept has
  -- the bytes that it had
  abbrev pub payload_manifest : Alg → File
  payload_manifest alg =
      let path = tag_path (Manifest Payload alg) in
      (path, kept_or bag renewal path (manifest_by (new_rules bag renewal) alg (payload bag)))

  abbrev pub payload_manifests : List File
  payload_manifests = map payload_manifest new_algs

  -- what a tag manifest names, in path order: all other tag files, but no tag manifest (2.2.1)
  abbrev pub named_tag_files : List File
  named_tag_files =
      in_path_order
      (kept_tag_files bag ++ (declaration_file ∷ (info_files ++ payload_manifests)))

  abbrev pub tag_manifests : List File
  tag_manifests =
      map (λ alg. (
        tag_path (Manifest Tag alg),
        manifest_by (new_rules bag renewal) alg named_tag_files,
      )) new_algs

  -- the tag files whose names a renewal writes
  abbrev pub new_tag_files : List File
  new_tag_files = declaration_file ∷ (info_files ++ (payload_manifests ++ tag_manifests))

  -- The renewed bag: the payload and the folders as they are, and of tag files these.
  unfoldable pub renewed : Bag
  renewed = record {
    files = fin.from_entries (payload bag ++ (kept_tag_files bag ++ new_tag_files));
    folders = bag.folders;
  }

  -- an algorithm whose payload manifest is kept
  abbrev pub is_kept_alg : Alg → Bool
  is_kept_alg alg = is_new_alg alg && is_kept bag renewal (tag_path (Manifest Payload alg))

  -- an algorithm whose payload manifest is there, and is dropped
  abbrev pub is_dropped_alg : Alg → Bool
  is_dropped_alg alg = has_payload_manifest bag alg && has_member renewal.dropped alg

  -- some payload manifest is written
  abbrev pub writes_payload_manifest : Bool
  writes_payload_manifest = list_any (λ alg. not (is_kept_alg alg)) new_algs

  -- some payload manifest is dropped
  abbrev pub drops_payload_manifest : Bool
  drops_payload_manifest = list_any is_dropped_alg algs

  -- the payload is read where a payload manifest is written, and where one is dropped, unless that
  -- is to be done unchecked
  abbrev pub reads_payload : Bool
  reads_payload =
      writes_payload_manifest || (not renewal.unchecked && drops_payload_manifest)
