-- Stage 3: what is a fault of the metadata and of its Payload-Oxum (RFC 8493, 2.2.2).
use Rattle.std.specs.Prelude.{ℕ, ◌≡◌, ◌≢◌, ◌++◌, List, [], None, Some, codes, ◌<◌, ◌≤◌, true}
use Rattle.bag_text.specs.Bytes.{Path}
use Rattle.bag_text.specs.declared.code.Code.{Code}
use Rattle.bag_text.specs.declared.code.Code.TheVariants as code
use Rattle.bag_read.specs.Info.{IsInfoFault, IsElement}
use Rattle.bag_read.specs.Oxum.{oxum_of, oxum_text}
use Rattle.bag_read.specs.declared.info.Element.{Element}
use Rattle.bag_read.specs.declared.oxum.Oxum.{Oxum}
use Rattle.bag_tree.specs.Bag.{Bag}
use Rattle.bag_faults.specs.declared.fault.Fault.{Fault}
use Rattle.bag_facts.specs.Facts.{rules_in}
use Rattle.bag_stages.specs.FaultFields.{At, InFile}
use Rattle.bag_stages.specs.Payload.{oxum}
use Rattle.bag_text.specs.Text.{same_label}
use Rattle.bag_read.specs.ManifestName.{tag_path}
use Rattle.bag_read.specs.declared.tag_name.TagName.TheVariants.{Info}
use Rattle.bag_stages.specs.TagFiles.{lines_in}

-- the label of the element that gives the payload's size
abbrev pub oxum_label : List ℕ
oxum_label = codes "Payload-Oxum"

-- two texts with a colon between them
abbrev pub pair : List ℕ → List ℕ → List ℕ
pair a b = a ++ codes ":" ++ b

abbrev pub bag_info_txt : Path
bag_info_txt = tag_path Info

-- the elements of bag-info.txt that have a label, whatever its case: each, the first, and each
-- later one
abbrev pub HasElement : Bag → List ℕ → Element → Type 0
HasElement bag label e =
    IsElement (rules_in bag) (lines_in bag bag_info_txt) e × (same_label e.label label ≡ true)

abbrev pub HasLater : Bag → List ℕ → Element → Type 0
HasLater bag label e =
    HasElement bag label e × ((d : Element) × HasElement bag label d × (d.line < e.line))

abbrev pub HasFirst : Bag → List ℕ → Element → Type 0
HasFirst bag label e =
    HasElement bag label e × ((d : Element) → HasElement bag label d → e.line ≤ d.line)

-- what a code says of a bag and the other fields of the fault
module _ (bag : Bag) (f : Fault) where
  unfoldable pub MetadataHolds : Code → Type 0
  -- a line that should begin an element and doesn't, or goes on with none
  MetadataHolds code.InfoLine = InFile bag f bag_info_txt None (IsInfoFault (rules_in bag))
  -- the first Payload-Oxum doesn't read
  MetadataHolds code.OxumMalformed =
      (e : Element) × At f bag_info_txt None e.line e.value × HasFirst bag oxum_label e
      × (oxum_of e.value ≡ None)
  -- a later one is there
  MetadataHolds code.OxumAgain =
      (e : Element) × At f bag_info_txt None e.line e.value × HasLater bag oxum_label e
  -- the first one reads, and the payload has another size
  MetadataHolds code.OxumDiffers =
      (e : Element) × (sums : Oxum)
      × At f bag_info_txt None e.line (pair e.value (oxum_text (oxum bag)))
      × HasFirst bag oxum_label e × (oxum_of e.value ≡ Some sums) × (sums ≢ oxum bag)
  -- there is none
  MetadataHolds code.NoOxum =
      At f bag_info_txt None 0 [] × ((e : Element) → ¬ (HasElement bag oxum_label e))
  -- codes of other stages
  MetadataHolds other = ⊥

-- the fault is one of the bag's metadata: what its code says holds
unfoldable pub IsOfMetadata : Bag → Fault → Type 0
IsOfMetadata bag f = MetadataHolds bag f f.code
