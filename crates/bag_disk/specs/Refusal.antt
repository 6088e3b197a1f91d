-- When a disk may refuse, what a fault of it means, and which refusals it counts.
use Rattle.std.specs.Prelude.{◌≡◌, ℕ, ◌+◌, Bool, true, false, IsTrue, Result, MatchResult, ⊤}
use Rattle.bag_disk.specs.Disk.{DiskState}
use Rattle.bag_disk.specs.DiskNodes.{HasSpecial, HasUnnamedPath}
use Rattle.bag_disk.specs.declared.disk.DiskFault.{DiskFault}
use Rattle.bag_disk.specs.declared.disk.DiskFault.TheVariants as disk
use Rattle.bag_disk.specs.declared.refusal.Refusal.{Refusal}
use Rattle.bag_disk.specs.declared.refusal.Refusal.TheVariants.{Device, Special, Name, NotFound}
use Rattle.bag_disk.specs.declared.refusal.Refusal.TheVariants.{TooMany, Memory, Exists}
use Rattle.bag_disk.specs.declared.refusal.Refusal.TheVariants.{Contradicts, InTheWay}

-- where the disk is honest, something stands there that is no file and no folder
abbrev pub MeetsSpecial : DiskState → Type 0
MeetsSpecial disk = IsTrue disk.honest → HasSpecial disk.nodes

-- where the disk is honest, something there has a name that isn't UTF-8
abbrev pub MeetsUnnamed : DiskState → Type 0
MeetsUnnamed disk = IsTrue disk.honest → HasUnnamedPath disk.nodes

-- The disk may refuse so: `special` says when over something that is no file and no folder,
-- `unnamed` when over a name that isn't UTF-8, `absent` when there is no such file, and `many` when
-- there is too much.
abbrev pub IsDue : Type 0 → Type 0 → Type 0 → Type 0 → Refusal → Type 0
IsDue special unnamed absent many Device = ⊤
IsDue special unnamed absent many Special = special
IsDue special unnamed absent many Name = unnamed
IsDue special unnamed absent many NotFound = absent
IsDue special unnamed absent many TooMany = many
IsDue special unnamed absent many Memory = ⊤
IsDue special unnamed absent many Exists = ⊥
IsDue special unnamed absent many Contradicts = ⊥
IsDue special unnamed absent many InTheWay = ⊥

-- The disk may refuse only so: by its device, when out of memory, and for one cause more, of which
-- `due` says when.
abbrev pub IsDueOnly : Refusal → Type 0 → Refusal → Type 0
IsDueOnly cause due Device = ⊤
IsDueOnly cause due Memory = ⊤
IsDueOnly cause due refusal = (refusal ≡ cause) × due

-- A listing may be refused so: `contradiction` says when the disk's answers contradict one another.
abbrev pub IsDueInListing : Type 0 → Type 0 → Type 0 → Type 0 → Refusal → Type 0
IsDueInListing special unnamed many contradiction Contradicts = contradiction
IsDueInListing special unnamed many contradiction refusal = IsDue special unnamed ⊥ many refusal

-- A step, which is given the names that it looks at, may be refused so: `taken` says when something
-- is in its way.
abbrev pub IsDueInStep : Type 0 → Type 0 → Type 0 → Refusal → Type 0
IsDueInStep special absent taken Exists = taken
IsDueInStep special absent taken refusal = IsDue special ⊥ absent ⊥ refusal

-- A move may be refused so: `folder` says when a folder stands where something is to be moved.
abbrev pub IsDueInMove : Type 0 → Type 0 → Type 0 → Type 0 → Refusal → Type 0
IsDueInMove special absent taken folder InTheWay = folder
IsDueInMove special absent taken folder refusal = IsDueInStep special absent taken refusal

-- what a fault of the disk means at the path of one file
abbrev pub refusal_at_path : DiskFault → Refusal
refusal_at_path disk.NotFound = NotFound
refusal_at_path disk.Exists = Device
refusal_at_path disk.Name = Device
refusal_at_path disk.Memory = Memory
refusal_at_path disk.Device = Device

-- what it means where the disk's own answers named what stands there
abbrev pub at_known : DiskFault → Refusal
at_known disk.NotFound = Device
at_known disk.Exists = Device
at_known disk.Name = Device
at_known disk.Memory = Memory
at_known disk.Device = Device

-- what it means in place of a name
abbrev pub of_name : DiskFault → Refusal
of_name disk.NotFound = Device
of_name disk.Exists = Device
of_name disk.Name = Name
of_name disk.Memory = Memory
of_name disk.Device = Device

-- what it means where something is to be made
abbrev pub of_making : DiskFault → Refusal
of_making disk.NotFound = Device
of_making disk.Exists = Exists
of_making disk.Name = Device
of_making disk.Memory = Memory
of_making disk.Device = Device

-- the device refused
abbrev pub is_device : Refusal → Bool
is_device Device = true
is_device Special = false
is_device Name = false
is_device NotFound = false
is_device TooMany = false
is_device Memory = false
is_device Exists = false
is_device Contradicts = false
is_device InTheWay = false

-- how many failures there are after a refusal: one more where the device refused
abbrev pub failures_after : Refusal → ℕ → ℕ
failures_after Device count = count + 1
failures_after Special count = count
failures_after Name count = count
failures_after NotFound count = count
failures_after TooMany count = count
failures_after Memory count = count
failures_after Exists count = count
failures_after Contradicts count = count
failures_after InTheWay count = count

-- a call whose faults mean this counts a failure where the device refused it, and nothing else
abbrev pub IsCountedAs : {T : Type 0} → (DiskFault → Refusal) → Result T DiskFault → ℕ → ℕ → Type 0
IsCountedAs meaning answer before after =
    MatchResult answer (λ _. after ≡ before) (λ fault.
    after ≡ failures_after (meaning fault) before)

-- the same between the states of the disk
abbrev pub CountsAs : {T : Type 0} → (DiskFault → Refusal) → Result T DiskFault → DiskState
    → DiskState → Type 0
CountsAs meaning answer old new = IsCountedAs meaning answer old.failures new.failures

-- the same of some calls, which end with the first that is refused
abbrev pub IsCounted : {T : Type 0} → Result T Refusal → DiskState → DiskState → Type 0
IsCounted answer old new = MatchResult answer
    (λ _. new.failures ≡ old.failures) (λ refusal.
    new.failures ≡ failures_after refusal old.failures)

-- where these calls are refused, it isn't by the device
abbrev pub IsNoFailure : {T : Type 0} → Result T Refusal → Type 0
IsNoFailure answer = MatchResult answer (λ _. ⊤) (λ refusal. is_device refusal ≡ false)
