use Rattle.bag_stages.proofs.Common.{◌≡◌, ◌-◌, ◌*◌, ◌^◌, ◌≤◌, take, listed_oxum}
use Rattle.bag_stages.proofs.payload_size.PayloadSize.of.Given as goal

abbrev pub invariant-loop-entry : goal.invariant-loop-entry
invariant-loop-entry l =
    (l.octets ≡ (listed_oxum (take l.entry-index l.files)).octets)
    × (l.streams ≡ (listed_oxum (take l.entry-index l.files)).streams)
    × (l.octets ≤ l.entry-index * (2 ^ 64 - 1)) × (l.streams ≤ l.entry-index)
