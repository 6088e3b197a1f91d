-- What stands in the bag that is made, path by path, and the laws that its definition keeps.
use Rattle.std.specs.Prelude.{ℕ, ◌≡◌, ◌≢◌, ◌⊎◌, ◌↔◌, true, List, Some, Contains, map}
use Rattle.std.specs.List.Sorted.{IsStrictlySortedBy}
use Rattle.bag_text.specs.Bytes.{Content, Name, Path}
use Rattle.bag_text.specs.Alg.{rank_cmp}
use Rattle.bag_text.specs.Path.{under, first_component}
use Rattle.bag_text.specs.Text.{text_cmp}
use Rattle.bag_text.specs.declared.alg.Alg.{Alg}
use Rattle.bag_read.specs.ManifestName.{tag_path}
use Rattle.bag_read.specs.declared.kind.Kind.TheVariants.{Payload, Tag}
use Rattle.bag_read.specs.declared.tag_name.TagName.{TagName}
use Rattle.bag_read.specs.declared.tag_name.TagName.TheVariants.{Declaration, Info, Fetch, Manifest}
use Rattle.bag_tree.specs.Bag.{Bag, IsBag, HasFile, file, files_of, has_folder}
use Rattle.bag_stages.specs.Payload.{payload}
use Rattle.bag_tags.specs.Declaration.{declaration_text}
use Rattle.bag_tags.specs.Element.{NewElement, info_text}
use Rattle.bag_tags.specs.Summed.{File, manifest}
use Rattle.bag_make.specs.Made.{data_folder, new_payload, new_elements}
use Rattle.bag_make.specs.Made.{named_tag_files, made}

-- a file of the folder, under data/ (2.1.2)
abbrev pub IsMoved : Bag → Path → Content → Type 0
IsMoved bag path content =
    (old : List ℕ) × (path ≡ under data_folder old) × (file bag old ≡ Some content)

module _ (bag : Bag) (algs : List Alg) (info : List NewElement) where
  -- the text of a tag file that is written (2.1.1, 2.1.3, 2.2.1 and 2.2.2); fetch.txt isn't
  abbrev pub IsNewText : TagName → List ℕ → Type 0
  IsNewText Declaration text = text ≡ declaration_text
  IsNewText Info text = text ≡ info_text (new_elements (files_of bag) algs info)
  IsNewText Fetch text = ⊥
  IsNewText (Manifest Payload alg) text =
      Contains algs alg × (text ≡ manifest alg (new_payload (files_of bag)))
  IsNewText (Manifest Tag alg) text =
      Contains algs alg × (text ≡ manifest alg (named_tag_files (files_of bag) algs info))

  abbrev pub IsNew : Path → List ℕ → Type 0
  IsNew path text = (name : TagName) × (path ≡ tag_path name) × IsNewText name text

  -- a file of the bag that is made, with its bytes
  abbrev pub Stands : Path → Content → Type 0
  Stands path content = IsMoved bag path content ⊎ IsNew path content

-- the law: these files stand in the bag that is made, and no others
abbrev pub MadeHasTheseFiles : Type 0
MadeHasTheseFiles =
    (bag : Bag) (algs : List Alg) (info : List NewElement) (path : Path) (content : Content)
    → (file (made bag algs info) path ≡ Some content) ↔ Stands bag algs info path content

-- a folder in which no file was
abbrev pub HasNoFile : Bag → Name → Type 0
HasNoFile bag name =
    (has_folder bag name ≡ true)
    × ((path : List ℕ) → HasFile bag path → first_component path ≢ name)

-- the law: these folders stand in its base folder, and no others
abbrev pub MadeHasTheseFolders : Type 0
MadeHasTheseFolders =
    (bag : Bag) (algs : List Alg) (info : List NewElement) (name : Name)
    → (has_folder (made bag algs info) name ≡ true) ↔ ((name ≡ data_folder) ⊎ HasNoFile bag name)

-- the law: its payload is the folder's files, in their order, so that Payload-Oxum and the
-- manifests are those of the new bag
abbrev pub PayloadIsTheFolder : Type 0
PayloadIsTheFolder =
    (bag : Bag) (algs : List Alg) (info : List NewElement) → IsBag bag
    → payload (made bag algs info) ≡ new_payload (files_of bag)

-- files in the order of their paths, none twice
abbrev pub AreInPathOrder : List File → Type 0
AreInPathOrder files = IsStrictlySortedBy text_cmp (map (λ e. e.0) files)

-- the law: what the manifests name is in path order
abbrev pub ManifestsAscend : Type 0
ManifestsAscend =
    (bag : Bag) (algs : List Alg) (info : List NewElement) → IsStrictlySortedBy rank_cmp algs
    → AreInPathOrder (new_payload (files_of bag))
    × AreInPathOrder (named_tag_files (files_of bag) algs info)
