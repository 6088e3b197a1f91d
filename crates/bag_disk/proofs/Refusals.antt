-- When a refusal of the disk is due.
use Rattle.std.proofs.Common.{arith}
use Rattle.bag_disk.proofs.Common.{◌≡◌, ℕ, false, Result, IfErr, DiskState}
use Rattle.bag_disk.specs.Refusal.{IsCounted, IsDue, IsDueInListing, IsDueInMove, IsDueInStep, IsDueOnly, IsNoFailure}
use Rattle.bag_disk.specs.Refusal.{at_known, failures_after, is_device, refusal_at_path, of_name}
use Rattle.bag_disk.specs.declared.disk.DiskFault.{DiskFault}
use Rattle.bag_disk.specs.declared.disk.DiskFault.TheVariants as disk
use Rattle.bag_disk.specs.declared.refusal.Refusal.{Refusal}
use Rattle.bag_disk.specs.declared.refusal.Refusal.TheVariants.{Contradicts, Special}

-- a refusal is due for what follows, too
pub due_for : (special unnamed absent many special' unnamed' absent' many' : Type 0) (r : Refusal)
    → (special → special') → (unnamed → unnamed') → (absent → absent') → (many → many')
    → IsDue special unnamed absent many r → IsDue special' unnamed' absent' many' r
due_for special unnamed absent many special' unnamed' absent' many' r e f g h due = grind (arith, due)

-- a refusal for one cause alone is due for what follows, too
pub only_for : (cause : Refusal) (due due' : Type 0) (r : Refusal) → (due → due') → IsDueOnly cause due r
    → IsDueOnly cause due' r
only_for cause due due' r f refused = grind (arith, refused)

pub only_for_err : {T : Type 0} (cause : Refusal) (due due' : Type 0) (result : Result T Refusal) → (due → due')
    → IfErr result (IsDueOnly cause due) → IfErr result (IsDueOnly cause due')
only_for_err cause due due' result f refused = grind (arith, refused)

-- and among other causes
pub due_for_special : (special special' unnamed absent many : Type 0) (r : Refusal) → (special → special')
    → IsDueOnly Special special r → IsDue special' unnamed absent many r
due_for_special special special' unnamed absent many r f due = grind (arith, due)

-- at the path of a file
pub due_of_path : (special unnamed absent many : Type 0) (f : DiskFault) (r : Refusal) → r ≡ refusal_at_path f
    → (f ≡ disk.NotFound → absent) → IsDue special unnamed absent many r
due_of_path special unnamed absent many f r is none = grind arith

-- where something is known to be there
pub due_at_known : (special unnamed absent many : Type 0) (f : DiskFault) (r : Refusal) → r ≡ at_known f
    → IsDue special unnamed absent many r
due_at_known special unnamed absent many f r is = grind arith

-- in place of a name
pub due_of_name : (special unnamed absent many : Type 0) (f : DiskFault) (r : Refusal) → r ≡ of_name f
    → (f ≡ disk.Name → unnamed) → IsDue special unnamed absent many r
due_of_name special unnamed absent many f r is wrong = grind arith

-- a step is refused where a look before it is
pub due_in_step : (special absent special' absent' taken : Type 0) (r : Refusal) → (special → special')
    → (absent → absent') → IsDue special ⊥ absent ⊥ r → IsDueInStep special' absent' taken r
due_in_step special absent special' absent' taken r f g due = grind (arith, due)

-- or at what is no file and no folder
pub special_in_step : (special special' absent taken : Type 0) (r : Refusal) → (special → special')
    → IsDueOnly Special special r → IsDueInStep special' absent taken r
special_in_step special special' absent taken r f due = grind (arith, due)

pub step_due_for : (special absent taken special' absent' taken' : Type 0) (r : Refusal) → (special → special')
    → (absent → absent') → (taken → taken') → IsDueInStep special absent taken r → IsDueInStep special' absent' taken' r
step_due_for special absent taken special' absent' taken' r f g h due = grind (arith, due)

-- a move is refused where a step is
pub due_in_move : (special absent taken folder : Type 0) (r : Refusal) → IsDueInStep special absent taken r
    → IsDueInMove special absent taken folder r
due_in_move special absent taken folder r due = grind (arith, due)

pub move_due_for : (special absent taken folder special' absent' taken' folder' : Type 0) (r : Refusal)
    → (special → special') → (absent → absent') → (taken → taken') → (folder → folder')
    → IsDueInMove special absent taken folder r
    → IsDueInMove special' absent' taken' folder' r
move_due_for special absent taken folder special' absent' taken' folder' r f g h i due = grind (arith, due)

-- a listing is refused where the walk before it is
pub due_in_listing : (special unnamed many contradiction : Type 0) (r : Refusal) → IsDue special unnamed ⊥ many r
    → IsDueInListing special unnamed many contradiction r
due_in_listing special unnamed many contradiction r due = grind (arith, due)

-- a listing of what a walk found is refused as it may be
pub listed_for_err : {T : Type 0} (special unnamed many contradiction contradiction' : Type 0)
    (result : Result T Refusal) → (contradiction → contradiction') → IfErr result (IsDueOnly Contradicts contradiction)
    → IfErr result (IsDueInListing special unnamed many contradiction')
listed_for_err special unnamed many contradiction contradiction' result f due = grind (arith, due)

-- a refusal that isn't the device's isn't counted
pub not_counted : (r : Refusal) (before after : ℕ) → after ≡ before → is_device r ≡ false
    → after ≡ failures_after r before
not_counted r before after same quiet = grind arith

-- calls of which none was refused by the device count nothing
pub counted_quietly : {T : Type 0} (result : Result T Refusal) (old new : DiskState) → new.failures ≡ old.failures
    → IsNoFailure result → IsCounted result old new
counted_quietly result old new same quiet = grind arith

-- what was counted after calls that weren't refused was counted since the first of them
pub counted_since : {T : Type 0} (result : Result T Refusal) (old mid new : DiskState) → mid.failures ≡ old.failures
    → IsCounted result mid new → IsCounted result old new
counted_since result old mid new same counted = grind arith
