-- The faults of a bag's parts, one listed file at a time.
use Rattle.std.specs.Prelude.{ℕ, ◌≡◌, ◌⊎◌, true, false, List, [], Some, None, Contains}
use Rattle.bag_text.specs.Bytes.{Path}
use Rattle.bag_text.specs.Alg.{alg_named}
use Rattle.bag_text.specs.declared.code.Code.TheVariants.{AlgorithmUnsupported, NotUtf8}
use Rattle.bag_read.specs.ManifestName.{manifest_name, is_alg_text, tag_path}
use Rattle.bag_read.specs.declared.kind.Kind.{Kind}
use Rattle.bag_read.specs.declared.kind.Kind.TheVariants.{Payload}
use Rattle.bag_read.specs.declared.tag_name.TagName.{TagName}
use Rattle.bag_tree.specs.Bag.{Bag, HasFile}
use Rattle.bag_tree.specs.declared.listing.FileEntry.{FileEntry}
use Rattle.bag_faults.specs.declared.fault.Fault.{Fault}
use Rattle.bag_facts.specs.FactsOfBag.{IsSaidOfTagFile}
use Rattle.bag_facts.specs.TagFacts.{name_of, text_test}
use Rattle.bag_facts.specs.Wanted.{paths_of}
use Rattle.bag_facts.specs.declared.tag_facts.TagFacts.{TagFacts}
use Rattle.bag_stages.specs.FaultFields.{AtPath}
use Rattle.bag_stages.specs.TagFiles.{HasNoText}

-- each tag file of the bag is among these, and what is known of each is what its bytes say
pub record AreTagsOf (bag : Bag) (tags : List TagFacts) : Type 0 where
  pub there : (name : TagName) → HasFile bag (tag_path name)
      → (tag : TagFacts) × Contains tags tag × (name_of tag ≡ name)
  pub said : (tag : TagFacts) → Contains tags tag → IsSaidOfTagFile bag tag

-- among these is what is known of a tag file, and it isn't UTF-8
abbrev pub HasTextless : List TagFacts → TagName → Type 0
HasTextless tags name =
    (tag : TagFacts) × Contains tags tag × (name_of tag ≡ name) × (text_test tag ≡ Some false)

-- the name of a manifest of an algorithm that isn't supported
abbrev pub IsUnsupported : Path → List ℕ → Type 0
IsUnsupported path alg =
    (kind : Kind) × (is_alg_text alg ≡ true) × (path ≡ manifest_name kind alg)
    × (alg_named alg ≡ None)

-- a fault of one listed file
abbrev pub IsFileFault : Bag → Fault → Type 0
IsFileFault bag f =
    ((f.code ≡ AlgorithmUnsupported) × AtPath f None f.detail × IsUnsupported f.path f.detail)
    ⊎ ((f.code ≡ NotUtf8) × AtPath f None [] × HasNoText bag f.path)

-- a fault of a file among these
abbrev pub IsFaultAmong : Bag → List Path → Fault → Type 0
IsFaultAmong bag paths f = Contains paths f.path × IsFileFault bag f

-- a payload manifest is among these files
abbrev pub ListsPayloadManifest : List FileEntry → Type 0
ListsPayloadManifest files =
    (alg : List ℕ) × (is_alg_text alg ≡ true)
    × Contains (paths_of files) (manifest_name Payload alg)
