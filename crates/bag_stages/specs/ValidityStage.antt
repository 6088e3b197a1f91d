-- Stage 7: what keeps a complete bag from being valid (RFC 8493, 3): files whose digests aren't
-- those that manifests give.
use Rattle.std.specs.Prelude.{ℕ, ◌≡◌, ◌≢◌, ◌++◌, List, Some, codes}
use Rattle.bag_text.specs.Bytes.{Digest}
use Rattle.bag_text.specs.declared.alg.Alg.{Alg}
use Rattle.bag_text.specs.declared.code.Code.{Code}
use Rattle.bag_text.specs.declared.code.Code.TheVariants.{PayloadSumDiffers, TagSumDiffers}
use Rattle.bag_read.specs.Manifest.{IsEntry}
use Rattle.bag_read.specs.declared.kind.Kind.{Kind}
use Rattle.bag_read.specs.declared.kind.Kind.TheVariants.{Payload, Tag}
use Rattle.bag_entries.specs.declared.entry.ManifestEntry.{ManifestEntry}
use Rattle.bag_tree.specs.Bag.{Bag, file}
use Rattle.bag_tree.specs.Digest.{digest}
use Rattle.bag_faults.specs.declared.fault.Fault.{Fault}
use Rattle.bag_facts.specs.Facts.{rules_in}
use Rattle.bag_stages.specs.FaultFields.{At}
use Rattle.bag_stages.specs.TagFiles.{lines_in, manifest_of}

-- the entry is one of the bag's manifest of this kind and algorithm, by the bag's rules
abbrev pub IsEntryIn : Bag → Kind → Alg → ManifestEntry → Type 0
IsEntryIn bag kind alg entry =
    IsEntry (rules_in bag) kind alg (lines_in bag (manifest_of kind alg)) entry

-- the digest that was expected, a colon, and the digest that was found
abbrev pub expected_and_found : Digest → Digest → List ℕ
expected_and_found expected found = expected ++ codes ":" ++ found

-- what a code says of a bag and the other fields of the fault
module _ (bag : Bag) (f : Fault) where
  -- a file that a manifest names is there, and its digest isn't the one that its entry gives
  abbrev pub Differs : Kind → Type 0
  Differs kind =
      (alg : Alg) × (entry : ManifestEntry) × (content : List ℕ)
      × At f entry.path (Some alg) 0 (expected_and_found entry.digest (digest alg content))
      × IsEntryIn bag kind alg entry × (file bag entry.path ≡ Some content)
      × (entry.digest ≢ digest alg content)

  unfoldable pub ValidityHolds : Code → Type 0
  ValidityHolds PayloadSumDiffers = Differs Payload
  ValidityHolds TagSumDiffers = Differs Tag
  -- codes of other stages
  ValidityHolds other = ⊥

-- the fault is that a file of the bag has another digest: what its code says holds
unfoldable pub IsOfValidity : Bag → Fault → Type 0
IsOfValidity bag f = ValidityHolds bag f f.code
