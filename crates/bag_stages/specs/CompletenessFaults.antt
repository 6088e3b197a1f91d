-- The faults of completeness, one manifest at a time, and those of all payload manifests at once.
use Rattle.std.specs.Prelude.{ℕ, ◌≡◌, ◌↔◌, ◌⊎◌, true, List, [], Option, None, Some, Contains, Bool}
use Rattle.std.specs.List.{IsDistinct}
use Rattle.std.specs.Ordering.{eq_by_cmp}
use Rattle.bag_text.specs.Bytes.{Path}
use Rattle.bag_text.specs.Path.{is_payload_path}
use Rattle.bag_text.specs.declared.alg.Alg.{Alg}
use Rattle.bag_text.specs.declared.code.Code.{Code}
use Rattle.bag_text.specs.declared.code.Code.TheVariants.{PayloadFileMissing, TagFileMissing}
use Rattle.bag_text.specs.declared.code.Code.TheVariants.{PayloadFileNotListed, NameClash}
use Rattle.bag_read.specs.declared.kind.Kind.{Kind}
use Rattle.bag_read.specs.declared.kind.Kind.TheVariants.{Payload, Tag}
use Rattle.bag_entries.specs.declared.entry.ManifestEntry.{ManifestEntry}
use Rattle.bag_tree.specs.Bag.{Bag, LacksFile}
use Rattle.bag_faults.specs.FaultAt.{of_path}
use Rattle.bag_faults.specs.FaultOrder.{fault_cmp}
use Rattle.bag_faults.specs.declared.fault.Fault.{Fault}
use Rattle.bag_facts.specs.Facts.{IsByV10}
use Rattle.bag_facts.specs.FactsOfBag.{IsByV097}
use Rattle.bag_facts.specs.TagFacts.{entry_paths}
use Rattle.bag_facts.specs.Wanted.{paths_of}
use Rattle.bag_tree.specs.declared.listing.FileEntry.{FileEntry}
use Rattle.bag_stages.specs.LeftOut.{IsLeftOutByAll, IsLeftOutByOne, IsNamedBySome}
use Rattle.bag_stages.specs.TagFiles.{Names}
use Rattle.bag_stages.specs.CompletenessStage.{IsPayloadFile, IsOfCompleteness}

-- a list of exactly these, each once and in any order
pub record HasEachOnce (IsMember : Fault → Type 0) (faults : List Fault) : Type 0 where
  pub once : IsDistinct (eq_by_cmp fault_cmp) faults
  pub members : (f : Fault) → Contains faults f ↔ IsMember f

-- the fault of a path of which this holds, by the manifest of an algorithm, or by all where no
-- algorithm is given
abbrev pub IsOfPath : Code → Option Alg → (Path → Type 0) → Fault → Type 0
IsOfPath code alg IsWrong f = (f ≡ of_path code f.path alg []) × IsWrong f.path

-- that fault of such a path among these
abbrev pub IsOfPathAmong : Code → Option Alg → (Path → Type 0) → List Path → Fault → Type 0
IsOfPathAmong code alg IsWrong paths f = Contains paths f.path × IsOfPath code alg IsWrong f

-- what a file is that a manifest of a kind names, and that isn't there
abbrev pub missing_code : Kind → Code
missing_code Payload = PayloadFileMissing
missing_code Tag = TagFileMissing

-- that fault of a path of these entries that isn't one of the files'
abbrev pub IsMissingAmong : Code → Alg → List ManifestEntry → List FileEntry → Fault → Type 0
IsMissingAmong code alg entries files =
    IsOfPathAmong code (Some alg) (λ path. ¬ (Contains (paths_of files) path)) (entry_paths entries)

-- the manifest of an algorithm names a file that isn't there
abbrev pub IsMissing : Bag → Kind → Alg → Fault → Type 0
IsMissing bag kind alg f =
    IsOfPath (missing_code kind) (Some alg) (λ path. Names bag kind alg path × LacksFile bag path) f

-- some manifest names it
abbrev pub IsMissingFromSome : Bag → Kind → Fault → Type 0
IsMissingFromSome bag kind f = (alg : Alg) × IsMissing bag kind alg f

-- a payload file that the payload manifest of an algorithm leaves out
abbrev pub IsFileLeftOutByOne : Bag → Alg → Fault → Type 0
IsFileLeftOutByOne bag alg =
    IsOfPath PayloadFileNotListed (Some alg) (λ path.
    IsPayloadFile bag path × IsLeftOutByOne bag alg path)

-- a payload file that all payload manifests, of which there is one, leave out
abbrev pub IsFileLeftOutByAll : Bag → Fault → Type 0
IsFileLeftOutByAll bag =
    IsOfPath PayloadFileNotListed None (λ path. IsPayloadFile bag path × IsLeftOutByAll bag path)

-- one manifest leaves a file out, which is a fault by the rules of 1.0
abbrev pub IsV10LeftOutByOne : Bag → Alg → Fault → Type 0
IsV10LeftOutByOne bag alg f = IsByV10 bag × IsFileLeftOutByOne bag alg f

abbrev pub IsV10LeftOutBySome : Bag → Fault → Type 0
IsV10LeftOutBySome bag f = (alg : Alg) × IsV10LeftOutByOne bag alg f

-- all leave it out, which is a fault by the rules of 0.97
abbrev pub IsV097LeftOutByAll : Bag → Fault → Type 0
IsV097LeftOutByAll bag f = IsByV097 bag × IsFileLeftOutByAll bag f

-- payload manifests leave a payload file out, by the bag's rules
abbrev pub IsFileLeftOut : Bag → Fault → Type 0
IsFileLeftOut bag f = IsV10LeftOutBySome bag f ⊎ IsV097LeftOutByAll bag f

-- the fault of a payload file that no payload manifest names
abbrev pub IsFileNamedByNone : Bag → Fault → Type 0
IsFileNamedByNone bag =
    IsOfPath PayloadFileNotListed None (λ path. IsPayloadFile bag path × ¬ (IsNamedBySome bag path))

-- the path of a payload file, and no payload manifest names it
abbrev pub IsPathNamedByNone : Bag → Path → Type 0
IsPathNamedByNone bag path = (is_payload_path path ≡ true) × ¬ (IsNamedBySome bag path)

-- the payload manifest of an algorithm is wrong about a file, one way or the other
abbrev pub IsWrong : Bag → Alg → Fault → Type 0
IsWrong bag alg f = IsMissing bag Payload alg f ⊎ IsV10LeftOutByOne bag alg f

-- some payload manifest is
abbrev pub IsWrongOfSome : Bag → Fault → Type 0
IsWrongOfSome bag f = (alg : Alg) × IsWrong bag alg f

-- the path of a payload file, and none of these entries has it
abbrev pub IsPathLeftOutOf : List ManifestEntry → Path → Type 0
IsPathLeftOutOf entries path =
    (is_payload_path path ≡ true) × ¬ (Contains (entry_paths entries) path)

-- the faults of such paths among these
abbrev pub IsLeftOutAmong : Alg → List ManifestEntry → List (List ℕ) → Fault → Type 0
IsLeftOutAmong alg entries = IsOfPathAmong PayloadFileNotListed (Some alg) (IsPathLeftOutOf entries)

-- a file is missing, or isn't listed
abbrev pub IsIncomplete : Bag → Fault → Type 0
IsIncomplete bag f = (IsMissingFromSome bag Payload f ⊎ IsMissingFromSome bag Tag f)
    ⊎ IsFileLeftOut bag f

-- such a fault that is looked for: a clash of names only where clashes are
abbrev pub IsSoughtInStageSix : Bool → Bag → Fault → Type 0
IsSoughtInStageSix clashes bag f = IsOfCompleteness bag f × (f.code ≡ NameClash → clashes ≡ true)
