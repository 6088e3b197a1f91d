-- A disk of which one call is refused.
use Rattle.std.specs.Prelude.{ℕ, ◌≡◌, if◌then◌else◌, Bool, IsErrOf, IsTrue, List, Option, Result}
use Rattle.std.specs.Prelude.{false}
use Rattle.std.specs.Result.{result_err}
use Rattle.bag_disk.specs.Failures.{failures_counted}
use Rattle.bag_disk.specs.Refusal.{failures_after}
use Rattle.bag_disk.specs.declared.disk.DiskFault.{DiskFault}
use Rattle.bag_disk.specs.declared.refusal.Refusal.{Refusal}
use Rattle.test_world.specs.Refusing.{is_due, is_refused, one_less}
use Rattle.test_world.specs.declared.refusing_disk.Call.{Call}
use Rattle.test_world.specs.declared.refusing_disk.RefusingDisk.{RefusingDisk}

-- the disk that it stands on
abbrev pub below_of : {D : Type 0} → RefusingDisk D → D
below_of disk = disk.disk

abbrev pub call_of : {D : Type 0} → RefusingDisk D → Call
call_of disk = disk.call

abbrev pub fault_of : {D : Type 0} → RefusingDisk D → DiskFault
fault_of disk = disk.fault

-- how often it refused itself, where that is the device's refusal
abbrev pub own_of : {D : Type 0} → RefusingDisk D → ℕ
own_of disk = failures_counted disk.failures

-- how the disk below refused the last call that was passed to it, where it did
abbrev pub reported_of : {D : Type 0} → RefusingDisk D → Option DiskFault
reported_of disk = disk.reported

-- Where a call is due, it was refused by the fault, which is counted so, and this was done to the
-- disk below. Else that was done to it, and it gave the answer. After it this call is refused.
abbrev pub IsCallOf : {D A : Type 0} → Bool → Call → (DiskFault → Refusal) → (D → D → Type 0)
    → (D → D → Type 0) → RefusingDisk D → RefusingDisk D → Result A DiskFault → Type 0
IsCallOf due next counts Refused Passed old new result =
    (call_of new ≡ next) × (fault_of new ≡ fault_of old)
    × (IsTrue due → IsErrOf result (fault_of old) × Refused (below_of old) (below_of new)
    × (own_of new ≡ failures_after (counts (fault_of old)) (own_of old)))
    × (due ≡ false → Passed (below_of old) (below_of new) × (own_of new ≡ own_of old))
    × (reported_of new ≡ (if due then reported_of old else result_err result))

-- a call that has a number: of one that is refused the disk below hears nothing
abbrev pub IsInTurn : {D A : Type 0} → (DiskFault → Refusal) → (D → D → Type 0)
    → RefusingDisk D → RefusingDisk D → Result A DiskFault → Type 0
IsInTurn counts Passed old new result =
    IsCallOf (is_due (call_of old)) (one_less (call_of old)) counts (λ before after. after ≡ before)
    Passed old new result

-- a look at a path
abbrev pub IsLook : {D A : Type 0} → List ℕ → (DiskFault → Refusal) → (D → D → Type 0)
    → RefusingDisk D → RefusingDisk D → Result A DiskFault → Type 0
IsLook path counts Passed old new result =
    IsCallOf (is_refused (call_of old) path) (call_of old) counts (λ before after. after ≡ before)
    Passed old new result
