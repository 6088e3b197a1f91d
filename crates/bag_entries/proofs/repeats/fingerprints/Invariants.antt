use Rattle.bag_entries.proofs.Common.{◌≡◌, map, take, mark_of}
use Rattle.bag_entries.proofs.repeats.fingerprints.Given as goal

abbrev pub invariant-loop-entry : goal.invariant-loop-entry
invariant-loop-entry l = l.found.items ≡ map mark_of (take l.entry-index l.entries)
