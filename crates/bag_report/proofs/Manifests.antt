-- The faults of manifests that are lacking, or may not be there.
use Rattle.bag_report.proofs.Conforming.{arith, ◌≡◌, ◌↔◌, ℕ, Bool, true, Option, None, Some, List, [], Contains}
use Rattle.bag_report.proofs.Conforming.{IsTrue, MatchOption, subst, Bor, is_some, is_alg_text, manifest_name, Kind}
use Rattle.bag_report.proofs.Conforming.{Bag, HasFile, FileEntry, of_path, Fault, AreFilesOfBag, Profile, ListRule}
use Rattle.bag_report.proofs.Conforming.{made_of, HasManifest, AreAll, required_code, other_code, allowed_manifests}
use Rattle.bag_report.proofs.Conforming.{required_manifests, LacksManifest, HasOtherManifest, IsOtherManifest}
use Rattle.bag_report.proofs.Conforming.{Excludes, Lists}
use Rattle.std.specs.Prelude.{◌≢◌}
use Rattle.bag_stages.proofs.PartFaults.{one_alg}
use Rattle.bag_report.proofs.FaultSets.{FaultsOf, same_all, whole_at, code_at}
use Rattle.bag_report.proofs.ItemFaults.{to_fault, from_fault}
use Rattle.bag_report.proofs.FilesThere.{fault_of, HoldsOf, IsFaultOfAFile, files_all}

-- the names of the list of a kind
pub listed_as : (profile : Profile) (kind : Kind) (required : List (List ℕ)) (rule : ListRule)
    → rule ≡ required_manifests kind → ((name : List ℕ) → Contains required name ↔ Lists profile rule name)
    → (name : List ℕ) → Contains required name ↔ Lists profile (required_manifests kind) name
listed_as profile kind required rule is are =
    subst (λ r. (name : List ℕ) → Contains required name ↔ Lists profile r name) is are

module _ (bag : Bag) (profile : Profile) (kind : Kind) where
  abbrev pub lacking_fault : List ℕ → Fault
  lacking_fault name = of_path (required_code kind) (manifest_name kind name) None []

  abbrev pub IsLacking : List ℕ → Type 0
  IsLacking name = ¬ (HasManifest bag kind name)

  abbrev pub Lacks : Fault → Type 0
  Lacks f = (f.code ≡ required_code kind) × LacksManifest bag profile f kind

  -- the names that must be there, and aren't
  pub lacking_all : (required : List (List ℕ)) (faults : List Fault)
      → ((name : List ℕ) → Contains required name ↔ Lists profile (required_manifests kind) name)
      → AreAll (FaultsOf lacking_fault IsLacking required) faults → AreAll Lacks faults
  lacking_all required faults are all =
      same_all (FaultsOf lacking_fault IsLacking required) Lacks faults
      (λ f h. to_fault (required_code kind) (manifest_name kind) (Lists profile (required_manifests kind)) IsLacking f
      (h.0, (are h.0).0 h.1, h.2, h.3))
      (λ f h. let k = from_fault (required_code kind) (manifest_name kind) (Lists profile (required_manifests kind))
      IsLacking f h in
      (k.0, (are k.0).1 k.1, k.2, k.3))
      all

  abbrev pub HasOther : Fault → Type 0
  HasOther f = (f.code ≡ other_code kind) × HasOtherManifest bag profile f kind

  abbrev pub IsOther : Fault → Type 0
  IsOther = IsFaultOfAFile (other_code kind) (IsOtherManifest profile kind) bag

  to_other : (f : Fault) → IsOther f → HasOther f
  to_other f h = grind (arith, code_at, whole_at)

  from_other : (f : Fault) → HasOther f → IsOther f
  from_other f h = grind (arith, made_of)

  -- the files that may not be there
  pub other_all : (files : List FileEntry) (faults : List Fault) → AreFilesOfBag bag files
      → AreAll (FaultsOf (fault_of (other_code kind) (IsOtherManifest profile kind))
      (HoldsOf (other_code kind) (IsOtherManifest profile kind)) files) faults → AreAll HasOther faults
  other_all files faults listed all =
      same_all IsOther HasOther faults to_other from_other
      (files_all (other_code kind) (IsOtherManifest profile kind) bag files listed faults all)

-- what the name of a path tells of the manifest there
module _ (kind : Kind) (path : List ℕ) where
  abbrev IsNamed : List ℕ → Type 0
  IsNamed alg = IsTrue (is_alg_text alg) × (path ≡ manifest_name kind alg)

  abbrev IsUnnamed : Type 0
  IsUnnamed = (alg : List ℕ) → IsTrue (is_alg_text alg) → path ≢ manifest_name kind alg

  -- the manifest of a name is there where the file is
  pub has_by : (bag : Bag) (name : List ℕ) (o : Option (Bor (List ℕ))) (has : Bool) → path ≡ manifest_name kind name
      → MatchOption o IsUnnamed (λ alg. IsNamed alg.now) → true ≡ is_some o
      → IsTrue has ↔ HasFile bag path → IsTrue has ↔ HasManifest bag kind name
  has_by bag name None has at named some tells = cc
  has_by bag name (Some alg) has at named some tells = grind (arith, one_alg)

  -- it may not be there where the list lacks its algorithm
  pub other_by : (profile : Profile) (alg : List ℕ) (rule : ListRule) (b : Bool) → IsNamed alg
      → rule ≡ allowed_manifests kind → IsTrue b ↔ Excludes profile rule alg
      → IsTrue b ↔ IsOtherManifest profile kind path
  other_by profile alg rule b named is tells = grind (arith, one_alg)
