-- Stage 8: where a bag doesn't conform to a profile (BagIt Profiles Specification, Implementation
-- Details).
use Rattle.std.specs.Prelude.{ℕ, ◌≡◌, ◌≢◌, true, false, List, [], Option, None, Some, Contains}
use Rattle.std.specs.Prelude.{codes}
use Rattle.bag_text.specs.declared.code.Code.{Code}
use Rattle.bag_text.specs.declared.code.Code.TheVariants as code
use Rattle.bag_read.specs.declared.info.Element.{Element}
use Rattle.bag_read.specs.Declaration.{declared_version}
use Rattle.bag_read.specs.ManifestName.{manifest_name}
use Rattle.bag_read.specs.declared.kind.Kind.{Kind}
use Rattle.bag_read.specs.declared.kind.Kind.TheVariants.{Payload, Tag}
use Rattle.bag_tree.specs.Bag.{Bag, file, HasFile}
use Rattle.bag_faults.specs.declared.fault.Fault.{Fault}
use Rattle.bag_profile.specs.Profile.{Profile}
use Rattle.bag_profile.specs.declared.form.Form.TheVariants.{Folder, Archive}
use Rattle.bag_profile.specs.declared.label.LabelRule.{LabelRule}
use Rattle.bag_profile.specs.declared.rule.ListRule.{ListRule}
use Rattle.bag_profile.specs.declared.rule.ListRule.TheVariants as list
use Rattle.bag_profile.specs.declared.terms.Serialization.TheVariants.{Forbidden, Required}
use Rattle.bag_stages.specs.FaultFields.{At, AtPath}
use Rattle.bag_stages.specs.MetadataStage.{bag_info_txt, HasElement, HasLater, pair}
use Rattle.bag_stages.specs.TagFiles.{bagit_txt, HasManifest}
use Rattle.bag_report.specs.ProfileRules.{Lists, Excludes, MatchesNone, IsFreeTagFile}
use Rattle.bag_stages.specs.FetchStage.{fetch_txt}

-- the label of the element that names the profile
abbrev pub identifier_label : List ℕ
identifier_label = codes "BagIt-Profile-Identifier"

-- the lists of manifests that a bag must have, and that it may have
abbrev pub required_manifests : Kind → ListRule
required_manifests Payload = list.ManifestsRequired
required_manifests Tag = list.TagManifestsRequired

abbrev pub allowed_manifests : Kind → ListRule
allowed_manifests Payload = list.ManifestsAllowed
allowed_manifests Tag = list.TagManifestsAllowed

-- what the other fields of a fault say of a bag and a profile
module _ (bag : Bag) (profile : Profile) (f : Fault) where
  -- no element of bag-info.txt names the profile
  abbrev pub LacksIdentifier : Type 0
  LacksIdentifier =
      At f bag_info_txt None 0 profile.identifier
      × ((e : Element) → HasElement bag identifier_label e → e.value ≢ profile.identifier)

  -- an element must be there, and isn't
  abbrev pub LacksLabel : Type 0
  LacksLabel =
      (rule : LabelRule) × At f bag_info_txt None 0 rule.label × Contains profile.labels rule
      × (rule.required ≡ true) × ((e : Element) → ¬ (HasElement bag rule.label e))

  -- an element that may be there once, and isn't the first of its label
  abbrev pub RepeatsLabel : Type 0
  RepeatsLabel =
      (rule : LabelRule) × (e : Element) × At f bag_info_txt None e.line rule.label
      × Contains profile.labels rule
      × (rule.repeatable ≡ false) × HasLater bag rule.label e

  -- an element whose value isn't one of those that are allowed; all are where none is named
  abbrev pub HasOtherValue : Type 0
  HasOtherValue =
      (rule : LabelRule) × (e : Element) × At f bag_info_txt None e.line (pair rule.label e.value)
      × Contains profile.labels rule
      × (rule.values ≢ []) × HasElement bag rule.label e × ¬ (Contains rule.values e.value)

  -- a manifest must be there, and isn't
  abbrev pub LacksManifest : Kind → Type 0
  LacksManifest kind =
      (name : List ℕ) × At f (manifest_name kind name) None 0 []
      × Lists profile (required_manifests kind) name
      × ¬ (HasManifest bag kind name)

  -- a manifest is there, of any algorithm, that may not be
  abbrev pub HasOtherManifest : Kind → Type 0
  HasOtherManifest kind =
      (alg : List ℕ) × At f (manifest_name kind alg) None 0 [] × HasManifest bag kind alg
      × Excludes profile (allowed_manifests kind) alg

  -- a file must be there, and isn't
  abbrev pub LacksTagFile : Type 0
  LacksTagFile =
      AtPath f None [] × Lists profile list.TagFilesRequired f.path × ¬ (HasFile bag f.path)

  -- a tag file is there that no pattern allows
  abbrev pub HasOtherTagFile : Type 0
  HasOtherTagFile =
      AtPath f None [] × HasFile bag f.path × IsFreeTagFile f.path
      × MatchesNone profile list.TagFilesAllowed f.path

  -- fetch.txt is there, and may not be
  abbrev pub HasFetchFile : Type 0
  HasFetchFile =
      At f fetch_txt None 0 [] × (profile.terms.allow_fetch ≡ false) × HasFile bag fetch_txt

  -- the bag declares a version that isn't accepted
  abbrev pub HasOtherVersion : Type 0
  HasOtherVersion =
      (bytes version : List ℕ) × At f bagit_txt None 1 version × (file bag bagit_txt ≡ Some bytes)
      × (declared_version bytes ≡ Some version)
      × Excludes profile list.AcceptBagItVersion version

  -- the profile asks for bags that are archives, and this one is a folder
  abbrev pub IsToBeSerialized : Type 0
  IsToBeSerialized =
      At f [] None 0 [] × (profile.terms.serialization ≡ Required) × (profile.form ≡ Folder)

  -- the profile forbids bags that are archives, and this one is such
  abbrev pub MayNotBeSerialized : Type 0
  MayNotBeSerialized =
      At f [] None 0 [] × (profile.terms.serialization ≡ Forbidden) × (profile.form ≡ Archive)

  unfoldable pub ConformanceHolds : Code → Type 0
  -- bag-info.txt
  ConformanceHolds code.ProfileIdentifier = LacksIdentifier
  ConformanceHolds code.LabelRequired = LacksLabel
  ConformanceHolds code.LabelRepeated = RepeatsLabel
  ConformanceHolds code.ValueNotAllowed = HasOtherValue
  -- manifests, of any algorithm
  ConformanceHolds code.ManifestRequired = LacksManifest Payload
  ConformanceHolds code.ManifestNotAllowed = HasOtherManifest Payload
  ConformanceHolds code.TagmanifestRequired = LacksManifest Tag
  ConformanceHolds code.TagmanifestNotAllowed = HasOtherManifest Tag
  -- tag files
  ConformanceHolds code.TagFileRequired = LacksTagFile
  ConformanceHolds code.TagFileNotAllowed = HasOtherTagFile
  ConformanceHolds code.FetchNotAllowed = HasFetchFile
  -- the bag as a whole
  ConformanceHolds code.VersionNotAccepted = HasOtherVersion
  ConformanceHolds code.SerializationRequired = IsToBeSerialized
  ConformanceHolds code.SerializationForbidden = MayNotBeSerialized
  -- codes of other stages
  ConformanceHolds other = ⊥

-- the bag doesn't conform to the profile in this: what the fault's code says holds
unfoldable pub IsOfProfile : Bag → Profile → Fault → Type 0
IsOfProfile bag profile f = ConformanceHolds bag profile f f.code

-- the same where there is a profile; without one there is no such fault
abbrev pub IsOfConformance : Bag → Option Profile → Fault → Type 0
IsOfConformance bag None f = ⊥
IsOfConformance bag (Some profile) f = IsOfProfile bag profile f
