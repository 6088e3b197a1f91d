-- Which call of a disk is refused.
use Rattle.std.specs.Prelude.{ℕ, ◌+◌, suc, zero, ◌&&◌, Bool, true, false, List, bytes_eq}
use Rattle.bag_disk.specs.Disk.{DiskState}
use Rattle.bag_disk.specs.declared.disk.DiskFault.{DiskFault}
use Rattle.bag_disk.specs.declared.disk.DiskFault.TheVariants.{NotFound, Exists, Name, Memory}
use Rattle.bag_disk.specs.declared.disk.DiskFault.TheVariants.{Device}
use Rattle.test_world.specs.declared.refusing_disk.Call.{Call}
use Rattle.test_world.specs.declared.refusing_disk.Call.TheVariants.{Numbered, EntryAt, Counted}
use Rattle.test_world.specs.declared.refusing_disk.Call.TheVariants.{Past}

-- an honest disk may refuse any call by this fault
abbrev pub reports_nothing : DiskFault → Bool
reports_nothing NotFound = false
reports_nothing Exists = false
reports_nothing Name = false
reports_nothing Memory = true
reports_nothing Device = true

-- what a disk means of which one call is refused by a fault, when this number of failures was its
-- own
abbrev pub refusing : DiskState → DiskFault → ℕ → DiskState
refusing state fault own = record {
  nodes = state.nodes;
  honest = state.honest && reports_nothing fault;
  openings = state.openings;
  rest = state.rest;
  names = state.names;
  failures = state.failures + own;
  trail = state.trail;
  noted = state.noted;
}

-- the next numbered call is the refused one
abbrev pub is_due : Call → Bool
is_due (Numbered zero) = true
is_due (Numbered (suc left)) = false
is_due (EntryAt path) = false
is_due (Counted calls) = false
is_due Past = false

-- what is to be refused after one numbered call
abbrev pub one_less : Call → Call
one_less (Numbered zero) = Past
one_less (Numbered (suc left)) = Numbered left
one_less (EntryAt path) = EntryAt path
one_less (Counted calls) = Counted calls
one_less Past = Past

-- each look at the path is refused
abbrev pub is_refused : Call → List ℕ → Bool
is_refused (Numbered left) path = false
is_refused (EntryAt refused) path = bytes_eq refused path
is_refused (Counted calls) path = false
is_refused Past path = false
