-- The faults of validity.
use Rattle.bag_stages.proofs.Common.{arith, ◌≡◌, ◌≢◌, ℕ, List, Some, refl, stage, Alg, Code, PayloadSumDiffers, Kind}
use Rattle.bag_stages.proofs.Common.{Payload, Tag, ManifestEntry, Bag, file, digest, of_path, Fault, differing_code}
use Rattle.bag_stages.proofs.Common.{expected_and_found, Differs, IsEntryIn, FaultsAreOfStage}
use Rattle.bag_stages.specs.ValidityStage.{IsOfValidity, ValidityHolds}
use Rattle.bag_stages.proofs.FaultFields.{made_of}

-- the fault of an entry's file that has this digest
abbrev pub fault_of_sum : Kind → Alg → ManifestEntry → List ℕ → Fault
fault_of_sum kind alg entry found =
    of_path (differing_code kind) entry.path (Some alg) (expected_and_found entry.digest found)

-- the fault of a file of these bytes whose digest isn't the one that an entry gives
abbrev pub sum_fault : Kind → Alg → ManifestEntry → List ℕ → Fault
sum_fault kind alg entry content = fault_of_sum kind alg entry (digest alg content)

module _ (bag : Bag) where
  -- the fault of the file of an entry
  abbrev pub IsOfEntry : Kind → Alg → ManifestEntry → Fault → Type 0
  IsOfEntry kind alg entry f =
      (content : List ℕ) × (file bag entry.path ≡ Some content) × (entry.digest ≢ digest alg content)
      × (f ≡ sum_fault kind alg entry content)

  -- such a fault of some entry of a manifest
  abbrev pub IsOfManifest : Kind → Alg → Fault → Type 0
  IsOfManifest kind alg f = (entry : ManifestEntry) × IsEntryIn bag kind alg entry × IsOfEntry kind alg entry f

  abbrev pub IsOfKind : Kind → Fault → Type 0
  IsOfKind kind f = (alg : Alg) × IsOfManifest kind alg f

  abbrev pub IsOfSomeEntry : Fault → Type 0
  IsOfSomeEntry f = (kind : Kind) × IsOfKind kind f

-- what the codes of the stage say
module _ (bag : Bag) (f : Fault) where
  holds_stage : (c : Code) → ValidityHolds bag f c → stage c ≡ 7
  unfolding ValidityHolds
  holds_stage PayloadSumDiffers h = refl
  holds_stage c h = grind arith

  from_fields : (kind : Kind) → f.code ≡ differing_code kind → Differs bag f kind → IsOfSomeEntry bag f
  from_fields kind e (alg, entry, content, at, listed, there, differ) = grind (arith, made_of)

  of_holds : (c : Code) → f.code ≡ c → ValidityHolds bag f c → IsOfSomeEntry bag f
  unfolding ValidityHolds
  of_holds PayloadSumDiffers e h = from_fields Payload e h
  of_holds c e h = grind (arith, from_fields)

  pub validity_of_entry : IsOfValidity bag f → IsOfSomeEntry bag f
  unfolding IsOfValidity
  validity_of_entry h = of_holds f.code refl h

module _ (bag : Bag) where
  holds_of : (kind : Kind) (f : Fault) → Differs bag f kind → ValidityHolds bag f (differing_code kind)
  unfolding ValidityHolds
  holds_of Payload f h = h
  holds_of Tag f h = h

  fault_holds : (kind : Kind) (alg : Alg) (entry : ManifestEntry) (content : List ℕ) → IsEntryIn bag kind alg entry
      → file bag entry.path ≡ Some content → entry.digest ≢ digest alg content
      → IsOfValidity bag (sum_fault kind alg entry content)
  unfolding IsOfValidity
  fault_holds kind alg entry content listed there differ = grind (arith, holds_of)

  pub entry_of_validity : (f : Fault) → IsOfSomeEntry bag f → IsOfValidity bag f
  entry_of_validity f (kind, (alg, (entry, listed, (content, there, differ, is)))) = grind (arith, fault_holds)

pub validity_of_stage_seven : FaultsAreOfStage 7 IsOfValidity
unfolding IsOfValidity
validity_of_stage_seven bag f h = holds_stage bag f f.code h
