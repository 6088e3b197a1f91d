-- What stands in the renewed bag, path by path.
use Rattle.std.specs.Prelude.{ℕ, ◌≡◌, ◌⊎◌, ◌↔◌, true, List, Some, Contains, if◌then◌else◌}
use Rattle.bag_text.specs.Bytes.{Content, Path}
use Rattle.bag_text.specs.Path.{is_payload_path}
use Rattle.bag_read.specs.ManifestName.{tag_path}
use Rattle.bag_read.specs.declared.kind.Kind.TheVariants.{Payload, Tag}
use Rattle.bag_read.specs.declared.tag_name.TagName.{TagName}
use Rattle.bag_read.specs.declared.tag_name.TagName.TheVariants.{Declaration, Info, Fetch, Manifest}
use Rattle.bag_tree.specs.Bag.{Bag, file}
use Rattle.bag_stages.specs.Payload.{payload}
use Rattle.bag_tags.specs.Declaration.{declaration_text}
use Rattle.bag_tags.specs.OnLines.{text_on_lines}
use Rattle.bag_renewed.specs.Renewed.{kept_or, named_tag_files, new_algs, new_elements, new_rules}
use Rattle.bag_renewed.specs.Renewed.{renewed, stays, writes_info}
use Rattle.bag_tags.specs.Summed.{manifest_by}
use Rattle.bag_renewed.specs.declared.renewal.Renewal.{Renewal}

-- a file of the bag that stays: one of the payload, or a tag file that isn't written anew
abbrev pub IsOld : Bag → Path → Content → Type 0
IsOld bag path content =
    (file bag path ≡ Some content) × ((is_payload_path path ≡ true) ⊎ (stays path ≡ true))

module _ (bag : Bag) (renewal : Renewal) where
  -- the bytes of a file that is kept, else these
  abbrev pub IsKeptOr : Path → List ℕ → List ℕ → Type 0
  IsKeptOr path new text = text ≡ kept_or bag renewal path new

  -- the text of a tag file whose name a renewal writes (2.1.1, 2.1.3, 2.2.1 and 2.2.2); fetch.txt
  -- isn't one
  abbrev pub IsNewText : TagName → List ℕ → Type 0
  IsNewText Declaration text = IsKeptOr (tag_path Declaration) declaration_text text
  IsNewText Info text =
      (if writes_info bag renewal then Some (text_on_lines (new_elements bag renewal))
      else file bag (tag_path Info)) ≡ Some text
  IsNewText Fetch text = ⊥
  IsNewText (Manifest Payload alg) text =
      Contains (new_algs bag renewal) alg
      × IsKeptOr (tag_path (Manifest Payload alg))
      (manifest_by (new_rules bag renewal) alg (payload bag)) text
  IsNewText (Manifest Tag alg) text =
      Contains (new_algs bag renewal) alg
      × (text ≡ manifest_by (new_rules bag renewal) alg (named_tag_files bag renewal))

  abbrev pub IsNew : Path → List ℕ → Type 0
  IsNew path text = (name : TagName) × (path ≡ tag_path name) × IsNewText name text

  -- a file of the renewed bag, with its bytes
  abbrev pub Stands : Path → Content → Type 0
  Stands path content = IsOld bag path content ⊎ IsNew path content

-- the law: these files stand in the renewed bag, and no others
abbrev pub RenewedHasTheseFiles : Type 0
RenewedHasTheseFiles =
    (bag : Bag) (renewal : Renewal) (path : Path) (content : Content)
    → (file (renewed bag renewal) path ≡ Some content) ↔ Stands bag renewal path content
