use Rattle.bag_make.proofs.Common.{◌≡◌, ◌-◌, ◌*◌, ◌^◌, ◌≤◌, take, size_of}
use Rattle.bag_make.proofs.texts.octets.Given as goal

abbrev pub invariant-loop-entry : goal.invariant-loop-entry
invariant-loop-entry l = (l.octets ≡ (size_of (take l.entry-index l.listed)).octets)
    × (l.octets ≤ l.entry-index * (2 ^ 64 - 1))
