-- The report of a bag: its faults that are asked for, in order.
use Rattle.std.specs.Prelude.{ℕ, ◌≡◌, ◌&&◌, Bool, true, false, List, Option, Some, None, filter}
use Rattle.std.specs.Prelude.{take, ◌⊎◌}
use Rattle.std.specs.Ordering.{is_lt}
use Rattle.bag_text.specs.Code.{stage}
use Rattle.bag_text.specs.Order.{IsListOf}
use Rattle.bag_text.specs.declared.code.Code.{Code}
use Rattle.bag_text.specs.declared.code.Code.TheVariants.{NoOxum, NameClash}
use Rattle.bag_tree.specs.Bag.{Bag}
use Rattle.bag_faults.specs.FaultOrder.{fault_cmp}
use Rattle.bag_faults.specs.declared.fault.Fault.{Fault}
use Rattle.bag_faults.specs.Options.{reaches}
use Rattle.bag_faults.specs.declared.options.Depth.{Depth}
use Rattle.bag_faults.specs.declared.options.Depth.TheVariants.{Fast}
use Rattle.bag_faults.specs.declared.options.Options.{Options}
use Rattle.bag_profile.specs.Profile.{Profile}
use Rattle.bag_stages.specs.CompletenessStage.{IsOfCompleteness}
use Rattle.bag_report.specs.ConformanceStage.{IsOfConformance}
use Rattle.bag_stages.specs.DeclarationStage.{IsOfDeclaration}
use Rattle.bag_stages.specs.FetchStage.{IsOfFetch}
use Rattle.bag_stages.specs.ManifestsStage.{IsOfManifests}
use Rattle.bag_stages.specs.MetadataStage.{IsOfMetadata}
use Rattle.bag_stages.specs.PartsStage.{IsOfParts}
use Rattle.bag_stages.specs.ValidityStage.{IsOfValidity}

-- what a report is of
pub record Check : Type 0 where
  pub bag : Bag
  pub profile : Option Profile
  pub options : Options

-- a bag, checked by a profile or without one, with these options
abbrev pub check_with : Bag → Option Profile → Options → Check
check_with bag profile options = record { bag = bag; profile = profile; options = options }

abbrev pub is_fast : Depth → Bool
is_fast Fast = true
is_fast other = false

-- whether faults of a code are asked for
unfoldable pub asks : Options → Code → Bool
asks options NoOxum = is_fast options.depth
asks options NameClash = options.clashes && reaches options.depth (stage NameClash)
asks options code = reaches options.depth (stage code)

-- The fault is one of the bag by a profile, or without one: what its code says holds, at the stage
-- that looks for it.
unfoldable pub Is : Bag → Option Profile → Fault → Type 0
Is bag profile f =
    -- 1: bagit.txt (2.1.1)
    IsOfDeclaration bag f
    -- 2: the parts of a bag (2.1, 2.3 and 2.4)
    ⊎ IsOfParts bag f
    -- 3: bag-info.txt (2.2.2)
    ⊎ IsOfMetadata bag f
    -- 4: fetch.txt (2.2.3)
    ⊎ IsOfFetch bag f
    -- 5: manifests (2.1.3 and 2.2.1)
    ⊎ IsOfManifests bag f
    -- 6: a complete bag (3), and names that differ by normal form alone
    ⊎ IsOfCompleteness bag f
    -- 7: a valid bag (3)
    ⊎ IsOfValidity bag f
    -- 8: a bag that conforms to a profile (BagIt Profiles Specification)
    ⊎ IsOfConformance bag profile f

-- a fault of the bag that is asked for
abbrev pub IsReported : Check → Fault → Type 0
IsReported check f = Is check.bag check.profile f × (asks check.options f.code ≡ true)

-- the ascending list of exactly these
abbrev pub IsReport : Check → List Fault → Type 0
IsReport check report = IsListOf fault_cmp (IsReported check) report

-- a fault is greater than the cursor; if there is no cursor, each is
abbrev pub is_above : Option Fault → Fault → Bool
is_above None f = true
is_above (Some cursor) f = is_lt (fault_cmp cursor f)

-- the faults that are greater than a cursor
abbrev pub above : Option Fault → List Fault → List Fault
above after faults = filter (is_above after) faults

-- the first n faults
abbrev pub first : ℕ → List Fault → List Fault
first n faults = take n faults
