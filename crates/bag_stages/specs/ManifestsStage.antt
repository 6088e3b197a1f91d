-- Stage 5: what is a fault of the manifests (RFC 8493, 2.1.3 and 2.2.1), where all but the digests
-- is looked at.
use Rattle.std.specs.Prelude.{ℕ, List, Some}
use Rattle.bag_text.specs.declared.alg.Alg.{Alg}
use Rattle.bag_text.specs.declared.code.Code.{Code}
use Rattle.bag_text.specs.declared.code.Code.TheVariants as code
use Rattle.bag_read.specs.Manifest.{IsManifestFault}
use Rattle.bag_read.specs.ManifestName.{manifest_name}
use Rattle.bag_read.specs.declared.kind.Kind.{Kind}
use Rattle.bag_read.specs.declared.kind.Kind.TheVariants.{Payload, Tag}
use Rattle.bag_tree.specs.Bag.{Bag}
use Rattle.bag_faults.specs.declared.fault.Fault.{Fault}
use Rattle.bag_facts.specs.Facts.{rules_in, IsByV10}
use Rattle.bag_stages.specs.FaultFields.{At, InFile}
use Rattle.bag_stages.specs.TagFiles.{manifest_of, HasManifest, HasSupported, Names}

-- what a code says of a bag and the other fields of the fault
module _ (bag : Bag) (f : Fault) where
  -- a line of a manifest is wrong as `ManifestFault` says of the code
  abbrev pub InManifest : Type 0
  InManifest =
      (kind : Kind) × (alg : Alg)
      × InFile bag f (manifest_of kind alg) (Some alg) (IsManifestFault (rules_in bag) kind alg)

  unfoldable pub ManifestHolds : Code → Type 0
  -- it isn't a digest in hex, blanks and a path (2.1.3)
  ManifestHolds code.ManifestLine = InManifest
  -- its digest hasn't the length of the algorithm's
  ManifestHolds code.DigestLength = InManifest
  -- its path is spelled with a bad escape
  ManifestHolds code.ManifestEscape = InManifest
  -- what is spelled isn't a path
  ManifestHolds code.ManifestUnsafePath = InManifest
  -- a payload manifest's isn't the path of a payload file
  ManifestHolds code.ManifestOutsidePayload = InManifest
  -- a tag manifest's is the path of a payload file (2.2.1)
  ManifestHolds code.TagmanifestNamesPayload = InManifest
  -- or it has the form of a tag manifest's name
  ManifestHolds code.TagmanifestNamesTagmanifest = InManifest
  -- it reads, and a line before it names the same path
  ManifestHolds code.NamedAgain = InManifest
  -- a tag manifest doesn't name a payload manifest that is there (2.2.1), which the rules of 0.97
  -- allow
  ManifestHolds code.PayloadManifestNotListed =
      (alg : Alg) × (other : List ℕ)
      × At f (manifest_of Tag alg) (Some alg) 0 (manifest_name Payload other)
      × IsByV10 bag × HasSupported bag Tag alg × HasManifest bag Payload other
      × ¬ (Names bag Tag alg (manifest_name Payload other))
  -- codes of other stages
  ManifestHolds other = ⊥

-- the fault is one of the bag's manifests: what its code says holds
unfoldable pub IsOfManifests : Bag → Fault → Type 0
IsOfManifests bag f = ManifestHolds bag f f.code
