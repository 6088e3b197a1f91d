-- The files that a source opens.
use Rattle.std.specs.Prelude.{ℕ, ◌≡◌, ◌<◌, ◌⊎◌, List, Contains, false, Option, ◌==◌, ◌&&◌, ◌||◌}
use Rattle.std.specs.Prelude.{Bool, nat_lt, None, Some}
use Rattle.std.specs.declared.cmp.Ordering.TheVariants.{Less}
use Rattle.bag_text.specs.Bytes.{Path}
use Rattle.bag_text.specs.Code.{stage}
use Rattle.bag_text.specs.Text.{text_cmp}
use Rattle.bag_faults.specs.declared.fault.Fault.{Fault}
use Rattle.bag_text.specs.Order.{IsListOf}
use Rattle.bag_faults.specs.declared.options.Depth.TheVariants.{Full}
use Rattle.bag_report.specs.Report.{Check}
use Rattle.bag_stages.specs.SummedFiles.{IsSummed}
use Rattle.std.specs.Ordering.{is_lt}

-- a fault that stands before a file: of an earlier stage than the seventh, or of an earlier file
abbrev pub IsBeforeFile : Fault → Path → Type 0
IsBeforeFile f path = (stage f.code < 7) ⊎ ((stage f.code ≡ 7) × (text_cmp f.path path ≡ Less))

-- none of these faults stands before one of these files
abbrev pub NoFaultBefore : List Fault → List Path → Type 0
NoFaultBefore faults paths =
    (f : Fault) (path : List ℕ) → Contains faults f → Contains paths path → ¬ (IsBeforeFile f path)

-- a cursor is after all faults of the seventh stage that a file may have
abbrev pub is_passed : Option Fault → Path → Bool
is_passed None path = false
is_passed (Some cursor) path =
    nat_lt 7 (stage cursor.code)
    || (stage cursor.code == 7 && is_lt (text_cmp path cursor.path))

-- A file whose digests are still to be compared: at depth Full one that is there and that a
-- manifest names, and that the cursor hasn't passed.
abbrev pub IsToOpen : Check → Option Fault → Path → Type 0
IsToOpen check after path =
    (check.options.depth ≡ Full) × IsSummed check.bag path × (is_passed after path ≡ false)

-- these are they, in path order
abbrev pub AreToOpen : Check → Option Fault → List Path → Type 0
AreToOpen check after files = IsListOf text_cmp (IsToOpen check after) files
