-- Names, versions and forms that a profile doesn't allow.
use Rattle.std.specs.Prelude.{ℕ, ◌≡◌, true, List, Option, None, Some}
use Rattle.bag_text.specs.Bytes.{Path}
use Rattle.bag_text.specs.declared.code.Code.{Code}
use Rattle.bag_text.specs.declared.code.Code.TheVariants.{VersionNotAccepted, SerializationRequired}
use Rattle.bag_text.specs.declared.code.Code.TheVariants.{SerializationForbidden}
use Rattle.bag_read.specs.ManifestName.{manifest_name, is_alg_text}
use Rattle.bag_read.specs.declared.kind.Kind.{Kind}
use Rattle.bag_faults.specs.FaultAt.{of_line}
use Rattle.bag_faults.specs.declared.fault.Fault.{Fault}
use Rattle.bag_profile.specs.Profile.{Profile}
use Rattle.bag_profile.specs.declared.form.Form.{Form}
use Rattle.bag_profile.specs.declared.form.Form.TheVariants.{Folder, Archive}
use Rattle.bag_profile.specs.declared.rule.ListRule.TheVariants.{TagFilesAllowed}
use Rattle.bag_profile.specs.declared.terms.Serialization.{Serialization}
use Rattle.bag_profile.specs.declared.terms.Serialization.TheVariants.{Forbidden, Required}
use Rattle.bag_stages.specs.TagFiles.{bagit_txt}
use Rattle.bag_report.specs.ConformanceStage.{allowed_manifests}
use Rattle.bag_report.specs.ProfileRules.{Excludes, MatchesNone, IsFreeTagFile}

-- the name of a manifest, of any algorithm, that may not be there
abbrev pub IsOtherManifest : Profile → Kind → Path → Type 0
IsOtherManifest profile kind path =
    (alg : List ℕ) × (is_alg_text alg ≡ true) × (path ≡ manifest_name kind alg)
    × Excludes profile (allowed_manifests kind) alg

-- a tag file of which other rules don't speak, and that no pattern allows
abbrev pub IsOtherTagFile : Profile → Path → Type 0
IsOtherTagFile profile path = IsFreeTagFile path × MatchesNone profile TagFilesAllowed path

-- what is wrong with the form in which a bag lies, by what the profile says of serialization
abbrev pub wrong_form : Serialization → Form → Option Code
wrong_form Required Folder = Some SerializationRequired
wrong_form Forbidden Archive = Some SerializationForbidden
wrong_form _ _ = None

-- the fault that a version isn't accepted
abbrev pub other_version : List ℕ → Fault
other_version version = of_line VersionNotAccepted bagit_txt None 1 version
