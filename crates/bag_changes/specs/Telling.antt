-- Bags whose manifests tell what they hold (RFC 8493, 2.1.3, 2.2.1 and 3).
use Rattle.std.specs.Prelude.{ℕ, ◌≡◌, ◌≢◌, ◌⊎◌, ◌&&◌, ◌↔◌, Bool, true, false, not, IsTrue, IsUtf8}
use Rattle.std.specs.Prelude.{List, Option, Some, Contains, filter}
use Rattle.bag_text.specs.Bytes.{Content, Path}
use Rattle.bag_text.specs.Lines.{lines_of_file}
use Rattle.bag_text.specs.Path.{is_path, is_payload_path}
use Rattle.bag_text.specs.declared.alg.Alg.{Alg}
use Rattle.bag_text.specs.declared.code.Code.TheVariants.{NameClash}
use Rattle.bag_text.specs.declared.rules.Rules.{Rules}
use Rattle.bag_text.specs.declared.rules.Rules.TheVariants.{V10}
use Rattle.bag_read.specs.Manifest.{IsEntry, IsManifestFault, named}
use Rattle.bag_read.specs.ManifestName.{is_manifest_name, tag_path}
use Rattle.bag_read.specs.declared.kind.Kind.{Kind}
use Rattle.bag_read.specs.declared.kind.Kind.TheVariants.{Payload, Tag}
use Rattle.bag_read.specs.declared.line_fault.LineFault.{LineFault}
use Rattle.bag_entries.specs.declared.entry.ManifestEntry.{ManifestEntry}
use Rattle.bag_read.specs.declared.tag_name.TagName.TheVariants.{Manifest}
use Rattle.bag_facts.specs.Facts.{IsByV10, rules_in}
use Rattle.bag_faults.specs.declared.fault.Fault.{Fault}
use Rattle.bag_stages.specs.CompletenessStage.{IsOfCompleteness}
use Rattle.bag_stages.specs.LeftOut.{IsLeftOut}
use Rattle.bag_stages.specs.ManifestsStage.{IsOfManifests}
use Rattle.bag_stages.specs.TagFiles.{Names}
use Rattle.bag_stages.specs.ValidityStage.{IsOfValidity}
use Rattle.bag_tags.specs.Writable.{is_unnameable}
use Rattle.bag_stages.specs.Payload.{payload}
use Rattle.bag_tree.specs.Bag.{Bag, HasFile, IsBag, file, files_of}
use Rattle.bag_tree.specs.Digest.{digest}
use Rattle.bag_changes.specs.Laws.{HasKnownManifests}
use Rattle.bag_renewed.specs.Renewed.{is_kept, is_kept_alg, new_rules, renewed}
use Rattle.bag_renewed.specs.Renewed.{writes_payload_manifest}
use Rattle.bag_tags.specs.Summed.{File, manifest_by}
use Rattle.bag_renewed.specs.declared.renewal.Renewal.{Renewal}

-- a manifest of a kind is to name the path: one of the payload, or of another file that is no tag
-- manifest
abbrev pub is_to_name : Kind → Path → Bool
is_to_name Payload path = is_payload_path path
is_to_name Tag path = not (is_payload_path path) && not (is_manifest_name Tag path)

-- what a manifest of a kind is to name, in path order
abbrev pub to_name : Bag → Kind → List File
to_name bag kind = filter (λ e. is_to_name kind e.0) (files_of bag)

-- the paths that a manifest with these bytes names, by these rules
abbrev pub paths_named : Rules → Kind → Alg → Content → List Path
paths_named rules kind alg text = named rules kind alg (lines_of_file text)

-- the bag has the file, and a manifest of this kind is to name it
abbrev pub IsToBeNamed : Bag → Kind → Path → Type 0
IsToBeNamed bag kind path = HasFile bag path × (is_to_name kind path ≡ true)

-- By these rules no line of a manifest of a bag is wrong, and each path that it names is one that it
-- is to name.
pub record NamesFiles (rules : Rules) (bag : Bag) (kind : Kind) (alg : Alg) (text : Content)
    : Type 0 where
  pub no_fault : (f : LineFault) → ¬ (IsManifestFault rules kind alg text f)
  pub there : (path : Path) → Contains (paths_named rules kind alg text) path
      → IsToBeNamed bag kind path

-- By these rules a manifest of a bag names just what it is to name, and none of its lines is wrong.
pub record NamesAll (rules : Rules) (bag : Bag) (kind : Kind) (alg : Alg) (text : Content)
    : Type 0 where
  pub no_fault : (f : LineFault) → ¬ (IsManifestFault rules kind alg text f)
  pub paths : (path : Path)
      → Contains (paths_named rules kind alg text) path ↔ IsToBeNamed bag kind path

-- It gives the digest of each file that it names.
abbrev pub GivesDigests : Rules → Bag → Kind → Alg → Content → Type 0
GivesDigests rules bag kind alg text =
    (entry : ManifestEntry) (content : List ℕ) → IsEntry rules kind alg (lines_of_file text) entry
    → file bag entry.path ≡ Some content → entry.digest ≡ digest alg content

-- each payload manifest of a bag names files of its payload alone, and by the rules of 1.0 them all
pub record NamesItsPayload (bag : Bag) : Type 0 where
  pub told : (alg : Alg) (text : List ℕ)
      → file bag (tag_path (Manifest Payload alg)) ≡ Some text
      → NamesFiles (rules_in bag) bag Payload alg text
  pub all_by_v10 : IsByV10 bag → (alg : Alg) (text : List ℕ)
      → file bag (tag_path (Manifest Payload alg)) ≡ Some text
      → NamesAll V10 bag Payload alg text

-- A bag, each of whose manifests names what it is to name by the bag's rules: a tag manifest all of
-- it, and payload manifests leave out no file of the payload.
pub record NamesItsFiles (bag : Bag) : Type 0 where
  pub known : HasKnownManifests bag
  pub told : (kind : Kind) (alg : Alg) (text : Content)
      → file bag (tag_path (Manifest kind alg)) ≡ Some text
      → NamesFiles (rules_in bag) bag kind alg text
  pub all_tags : (alg : Alg) (text : Content)
      → file bag (tag_path (Manifest Tag alg)) ≡ Some text
      → NamesAll (rules_in bag) bag Tag alg text
  pub listed : (alg : Option Alg) (path : Path) → IsToBeNamed bag Payload path
      → ¬ (IsLeftOut (rules_in bag) bag alg path)

-- the law: it has no fault of its manifests, and is complete, but for names that clash
abbrev pub BagsThatNameTheirFilesAreComplete : Type 0
BagsThatNameTheirFilesAreComplete =
    (bag : Bag) (f : Fault) → NamesItsFiles bag
    → (IsOfManifests bag f → ⊥)
    × (IsOfCompleteness bag f → f.code ≢ NameClash → ⊥)

-- Such a bag, of which each manifest gives the digests.
pub record TellsItsFiles (bag : Bag) : Type 0 where
  pub names : NamesItsFiles bag
  pub right : (kind : Kind) (alg : Alg) (text : Content)
      → file bag (tag_path (Manifest kind alg)) ≡ Some text
      → GivesDigests (rules_in bag) bag kind alg text

-- the law: it has no fault of its manifests, is complete and valid, but for names that clash
abbrev pub BagsThatTellTheirFilesAreValid : Type 0
BagsThatTellTheirFilesAreValid =
    (bag : Bag) (f : Fault) → TellsItsFiles bag
    → (IsOfManifests bag f → ⊥)
    × (IsOfCompleteness bag f → f.code ≢ NameClash → ⊥)
    × (IsOfValidity bag f → ⊥)

-- the text is that of the manifest that is written by these rules
abbrev pub IsManifestOf : Rules → Bag → Kind → Alg → Content → Type 0
IsManifestOf rules bag kind alg text = text ≡ manifest_by rules alg (to_name bag kind)

-- a line of a manifest can name each path by these rules
abbrev pub AreNameable : Rules → Bag → Type 0
AreNameable rules bag = (path : List ℕ) → HasFile bag path → is_unnameable rules path ≡ false

-- every path is one
abbrev pub ArePaths : Bag → Type 0
ArePaths bag = (path : List ℕ) → HasFile bag path → IsTrue (is_path path) × IsUtf8 path

-- the law: a manifest that is written names just what it is to name, with the digests
abbrev pub WrittenManifestsTell : Type 0
WrittenManifestsTell =
    (rules : Rules) (bag : Bag) (kind : Kind) (alg : Alg) (text : Content)
    → ArePaths bag → AreNameable rules bag → IsManifestOf rules bag kind alg text
    → NamesAll rules bag kind alg text × GivesDigests rules bag kind alg text

-- a renewal writes the manifest: each tag manifest, and each payload manifest that isn't kept
abbrev pub IsWrittenAnew : Bag → Renewal → Kind → Alg → Type 0
IsWrittenAnew bag renewal Payload alg =
    is_kept bag renewal (tag_path (Manifest Payload alg)) ≡ false
IsWrittenAnew bag renewal Tag alg = Unit {0}

-- those of the renewed bag that are written give the digests
abbrev pub NewManifestsGiveDigests : Bag → Renewal → Type 0
NewManifestsGiveDigests bag renewal =
    (kind : Kind) (alg : Alg) (text : List ℕ) → IsWrittenAnew bag renewal kind alg
    → file (renewed bag renewal) (tag_path (Manifest kind alg)) ≡ Some text
    → GivesDigests (new_rules bag renewal) (renewed bag renewal) kind alg text

-- a payload manifest that is kept names the path
abbrev pub IsNamedByKept : Bag → Renewal → Path → Type 0
IsNamedByKept bag renewal path =
    (alg : Alg) × (is_kept_alg bag renewal alg ≡ true) × Names bag Payload alg path

-- Payload manifests of the renewed bag leave out no file of the payload: by the rules of 1.0 each
-- names them all; else one is written, which names them all, or those that are kept do together.
abbrev pub AreStillListed : Bag → Renewal → Type 0
AreStillListed bag renewal =
    IsByV10 bag ⊎ ((writes_payload_manifest bag renewal ≡ true)
    ⊎ ((path : Path) → IsToBeNamed bag Payload path → IsNamedByKept bag renewal path))

-- the law: where the payload manifests of a bag name its payload, the manifests of the renewed bag
-- name its files, by its rules, and its payload is that of the bag
abbrev pub RenewedNames : Type 0
RenewedNames =
    (bag : Bag) (renewal : Renewal) → IsBag bag → HasKnownManifests bag
    → AreNameable (new_rules bag renewal) bag → NamesItsPayload bag → AreStillListed bag renewal
    → NamesItsFiles (renewed bag renewal) × (rules_in (renewed bag renewal) ≡ new_rules bag renewal)
    × NewManifestsGiveDigests bag renewal
    × (payload (renewed bag renewal) ≡ payload bag)
