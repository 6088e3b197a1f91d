-- The faults of manifests, one manifest at a time.
use Rattle.std.specs.Prelude.{ℕ, ◌≡◌, ◌⊎◌, true, List, Some, Contains}
use Rattle.bag_text.specs.Bytes.{Path}
use Rattle.bag_text.specs.Code.{stage}
use Rattle.bag_text.specs.declared.alg.Alg.{Alg}
use Rattle.bag_text.specs.declared.code.Code.TheVariants.{PayloadManifestNotListed}
use Rattle.bag_read.specs.Manifest.{IsManifestFault}
use Rattle.bag_read.specs.ManifestName.{manifest_name, is_alg_text}
use Rattle.bag_read.specs.declared.kind.Kind.{Kind}
use Rattle.bag_read.specs.declared.kind.Kind.TheVariants.{Payload, Tag}
use Rattle.bag_entries.specs.declared.entry.ManifestEntry.{ManifestEntry}
use Rattle.bag_tree.specs.Bag.{Bag}
use Rattle.bag_faults.specs.FaultAt.{of_path}
use Rattle.bag_faults.specs.declared.fault.Fault.{Fault}
use Rattle.bag_facts.specs.Facts.{rules_in, IsByV10}
use Rattle.bag_facts.specs.TagFacts.{entry_paths}
use Rattle.bag_stages.specs.FaultFields.{At, InFile}
use Rattle.bag_stages.specs.TagFiles.{manifest_of, HasManifest, HasSupported, Names}

-- the fault that the tag manifest at a path doesn't name a payload manifest
abbrev pub unnamed : Path → Alg → Path → Fault
unnamed path alg file = of_path PayloadManifestNotListed path (Some alg) file

-- a payload manifest, of any algorithm's name, that is at no entry's path
abbrev pub IsManifestUnnamed : List ManifestEntry → Path → Type 0
IsManifestUnnamed entries file =
    ((other : List ℕ) × (is_alg_text other ≡ true) × (file ≡ manifest_name Payload other))
    × ¬ (Contains (entry_paths entries) file)

-- that fault of a payload manifest that is at no entry's path
abbrev pub IsUnnamedFault : Path → Alg → List ManifestEntry → Fault → Type 0
IsUnnamedFault path alg entries f =
    (f ≡ unnamed path alg f.detail) × IsManifestUnnamed entries f.detail

-- that fault of a file among these
abbrev pub IsUnnamedAmong : Path → Alg → List ManifestEntry → List Path → Fault → Type 0
IsUnnamedAmong path alg entries files f =
    Contains files f.detail × IsUnnamedFault path alg entries f

-- those faults that the bag's rules ask for: those of 0.97 ask for no name
abbrev pub IsAskedUnnamed : Bag → Path → Alg → List ManifestEntry → List Path → Fault → Type 0
IsAskedUnnamed bag path alg entries files f = IsByV10 bag × IsUnnamedAmong path alg entries files f

-- a tag manifest names the payload manifests that are there, by the rules of 1.0 alone, and a
-- payload manifest needs to name none
abbrev pub IsUnlistedManifest : Bag → Kind → Alg → Fault → Type 0
IsUnlistedManifest bag Payload alg f = ⊥
IsUnlistedManifest bag Tag alg f =
    IsByV10 bag × (f.code ≡ PayloadManifestNotListed)
    × ((other : List ℕ) × At f (manifest_of Tag alg) (Some alg) 0 (manifest_name Payload other)
    × HasSupported bag Tag alg × HasManifest bag Payload other
    × ¬ (Names bag Tag alg (manifest_name Payload other)))

-- a fault of a line of a manifest
abbrev pub IsLineFault : Bag → Kind → Alg → Fault → Type 0
IsLineFault bag kind alg f =
    InFile bag f (manifest_of kind alg) (Some alg) (IsManifestFault (rules_in bag) kind alg)
    × (stage f.code ≡ 5)

-- a fault of one manifest
abbrev pub IsOfManifest : Bag → Kind → Alg → Fault → Type 0
IsOfManifest bag kind alg f = IsUnlistedManifest bag kind alg f ⊎ IsLineFault bag kind alg f
