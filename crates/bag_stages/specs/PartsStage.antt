-- Stage 2: what is a fault of a bag's parts (RFC 8493, 2.1, 2.3 and 2.4).
use Rattle.std.specs.Prelude.{ℕ, ◌≡◌, false, List, [], None, codes}
use Rattle.bag_text.specs.Alg.{alg_named}
use Rattle.bag_text.specs.declared.code.Code.{Code}
use Rattle.bag_text.specs.declared.code.Code.TheVariants as code
use Rattle.bag_read.specs.ManifestName.{manifest_name}
use Rattle.bag_read.specs.declared.kind.Kind.{Kind}
use Rattle.bag_read.specs.declared.kind.Kind.TheVariants.{Payload}
use Rattle.bag_tree.specs.Bag.{Bag, has_folder}
use Rattle.bag_faults.specs.declared.fault.Fault.{Fault}
use Rattle.bag_stages.specs.FaultFields.{At, AtPath}
use Rattle.bag_stages.specs.TagFiles.{HasManifest, HasNoText}

-- what a code says of a bag and the other fields of the fault
module _ (bag : Bag) (f : Fault) where
  unfoldable pub PartHolds : Code → Type 0
  -- there is no folder data (2.1.2)
  PartHolds code.NoPayloadFolder = At f [] None 0 [] × (has_folder bag (codes "data") ≡ false)
  -- there is no payload manifest, of any algorithm (2.1.3)
  PartHolds code.NoPayloadManifest =
      At f [] None 0 [] × ((alg : List ℕ) → ¬ (HasManifest bag Payload alg))
  -- a manifest of an algorithm that isn't supported (2.4)
  PartHolds code.AlgorithmUnsupported =
      (kind : Kind) × (alg : List ℕ) × At f (manifest_name kind alg) None 0 alg
      × HasManifest bag kind alg × (alg_named alg ≡ None)
  -- bag-info.txt, fetch.txt or a manifest of a supported algorithm isn't UTF-8 (2.3)
  PartHolds code.NotUtf8 = AtPath f None [] × HasNoText bag f.path
  -- codes of other stages
  PartHolds other = ⊥

-- the fault is one of the bag's parts: what its code says holds
unfoldable pub IsOfParts : Bag → Fault → Type 0
IsOfParts bag f = PartHolds bag f f.code
