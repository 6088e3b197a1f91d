-- How a refusal is answered, and counted where the disk doesn't count it.
use Rattle.std.specs.Prelude.{ℕ, ◌+◌, Result, length}
use Rattle.std.specs.declared.result.Result.TheVariants.{Ok, Err}
use Rattle.bag_tree.specs.declared.tree_fault.TreeFault.{TreeFault}
use Rattle.bag_tree.specs.declared.tree_fault.TreeFault.TheVariants as fault
use Rattle.bag_disk.specs.Failures.{failures_counted}
use Rattle.bag_disk.specs.declared.refusal.Refusal.{Refusal}
use Rattle.bag_disk.specs.declared.refusal.Refusal.TheVariants.{Device, Special, Name, NotFound}
use Rattle.bag_disk.specs.declared.refusal.Refusal.TheVariants.{TooMany, Memory, Exists}
use Rattle.bag_disk.specs.declared.refusal.Refusal.TheVariants.{Contradicts, InTheWay}
use Rattle.bag_store.specs.FileTree.{Replies}
use Rattle.bag_store.specs.declared.answered.Answered.{Answered}

-- how often a tree failed over what its disk gave
abbrev pub own_failures : Answered → ℕ
own_failures answered = failures_counted answered.failures

-- how many bytes the open file gave
abbrev pub bytes_given : Answered → ℕ
bytes_given answered = length answered.given.bytes

-- what the calls have answered
abbrev pub replies_of : Answered → Replies
replies_of answered = record {
  listed = answered.files.what.listed;
  gave = answered.files.what.gave;
  given = bytes_given answered;
  last = answered.last;
}

-- the fault that answers a refusal
abbrev pub fault_answering : Refusal → TreeFault
fault_answering Device = fault.Device
fault_answering Special = fault.Special
fault_answering Name = fault.Name
fault_answering NotFound = fault.NotFound
fault_answering TooMany = fault.TooMany
fault_answering Memory = fault.Memory
fault_answering Exists = fault.Exists
fault_answering Contradicts = fault.Device
fault_answering InTheWay = fault.Device

-- how many failures there are after it that the disk doesn't count
abbrev pub count_after : Refusal → ℕ → ℕ
count_after Device count = count
count_after Special count = count + 1
count_after Name count = count + 1
count_after NotFound count = count
count_after TooMany count = count
count_after Memory count = count
count_after Exists count = count
count_after Contradicts count = count + 1
count_after InTheWay count = count + 1

-- what answers a call that gives nothing
abbrev pub answer_to : Result (Unit {0}) Refusal → Result (Unit {0}) TreeFault
answer_to (Ok done) = Ok done
answer_to (Err refusal) = Err (fault_answering refusal)

-- how many failures there are after it that the disk doesn't count
abbrev pub own_after : Result (Unit {0}) Refusal → ℕ → ℕ
own_after (Ok done) count = count
own_after (Err refusal) count = count_after refusal count
