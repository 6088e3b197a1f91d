-- The faults of a profile by what they are about. Each part is a set: the order of all is made at
-- the end.
use Rattle.std.specs.Prelude.{◌≡◌, ◌⊎◌, ◌↔◌, List, Contains}
use Rattle.bag_text.specs.declared.code.Code.{Code}
use Rattle.bag_text.specs.declared.code.Code.TheVariants.{ProfileIdentifier, LabelRequired}
use Rattle.bag_text.specs.declared.code.Code.TheVariants.{LabelRepeated, ValueNotAllowed}
use Rattle.bag_text.specs.declared.code.Code.TheVariants.{ManifestRequired, ManifestNotAllowed}
use Rattle.bag_text.specs.declared.code.Code.TheVariants.{TagmanifestRequired}
use Rattle.bag_text.specs.declared.code.Code.TheVariants.{TagmanifestNotAllowed, TagFileRequired}
use Rattle.bag_text.specs.declared.code.Code.TheVariants.{TagFileNotAllowed, FetchNotAllowed}
use Rattle.bag_text.specs.declared.code.Code.TheVariants.{VersionNotAccepted, SerializationRequired}
use Rattle.bag_text.specs.declared.code.Code.TheVariants.{SerializationForbidden}
use Rattle.bag_read.specs.declared.kind.Kind.{Kind}
use Rattle.bag_read.specs.declared.kind.Kind.TheVariants.{Payload, Tag}
use Rattle.bag_tree.specs.Bag.{Bag}
use Rattle.bag_facts.specs.FactsOfBag.{IfBagRead}
use Rattle.bag_facts.specs.declared.facts.Facts.{Facts}
use Rattle.bag_faults.specs.declared.fault.Fault.{Fault}
use Rattle.bag_profile.specs.Profile.{Profile}
use Rattle.bag_report.specs.ConformanceStage.{LacksIdentifier, LacksLabel, RepeatsLabel}
use Rattle.bag_report.specs.ConformanceStage.{HasOtherValue, LacksManifest, HasOtherManifest}
use Rattle.bag_report.specs.ConformanceStage.{LacksTagFile, HasOtherTagFile, HasFetchFile}
use Rattle.bag_report.specs.ConformanceStage.{HasOtherVersion, IsToBeSerialized}
use Rattle.bag_report.specs.ConformanceStage.{MayNotBeSerialized}

-- the members of a list are exactly these
abbrev pub AreAll : (Fault → Type 0) → List Fault → Type 0
AreAll Member faults = (f : Fault) → Contains faults f ↔ Member f

-- the members of a list are exactly the faults of the bag of which this holds; the facts were read
-- beyond the declaration
abbrev pub AreAllOf : Facts → (Bag → Fault → Type 0) → List Fault → Type 0
AreAllOf facts IsSo faults = IfBagRead facts (λ bag. AreAll (IsSo bag) faults)

-- what a manifest of this kind is that must be there, and one that may not
abbrev pub required_code : Kind → Code
required_code Payload = ManifestRequired
required_code Tag = TagmanifestRequired

abbrev pub other_code : Kind → Code
other_code Payload = ManifestNotAllowed
other_code Tag = TagmanifestNotAllowed

module _ (bag : Bag) (profile : Profile) (f : Fault) where
  -- about the elements of bag-info.txt
  abbrev pub IsOfElements : Type 0
  IsOfElements =
      ((f.code ≡ ProfileIdentifier) × LacksIdentifier bag profile f)
      ⊎ ((f.code ≡ LabelRequired) × LacksLabel bag profile f)
      ⊎ ((f.code ≡ LabelRepeated) × RepeatsLabel bag profile f)
      ⊎ ((f.code ≡ ValueNotAllowed) × HasOtherValue bag profile f)

  -- about the manifests of a kind
  abbrev pub IsOfKind : Kind → Type 0
  IsOfKind kind =
      ((f.code ≡ required_code kind) × LacksManifest bag profile f kind)
      ⊎ ((f.code ≡ other_code kind) × HasOtherManifest bag profile f kind)

  -- about other tag files
  abbrev pub IsOfTagFiles : Type 0
  IsOfTagFiles =
      ((f.code ≡ TagFileRequired) × LacksTagFile bag profile f)
      ⊎ ((f.code ≡ TagFileNotAllowed) × HasOtherTagFile bag profile f)
      ⊎ ((f.code ≡ FetchNotAllowed) × HasFetchFile bag profile f)

  -- about the form in which the bag lies
  abbrev pub IsOfForm : Type 0
  IsOfForm =
      ((f.code ≡ SerializationRequired) × IsToBeSerialized bag profile f)
      ⊎ ((f.code ≡ SerializationForbidden) × MayNotBeSerialized bag profile f)

  -- about the bag as a whole
  abbrev pub IsOfWhole : Type 0
  IsOfWhole = ((f.code ≡ VersionNotAccepted) × HasOtherVersion bag profile f) ⊎ IsOfForm
