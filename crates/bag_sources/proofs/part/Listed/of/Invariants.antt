use Rattle.bag_sources.proofs.Common.{◌≡◌, ◌-◌, ◌*◌, ◌≤◌, take}
use Rattle.std.specs.Prelude.{◌^◌}
use Rattle.bag_sources.specs.Parts.{listed_of}
use Rattle.bag_sources.proofs.part.Listed.of.Given as goal

abbrev pub invariant-loop-file : goal.invariant-loop-file
invariant-loop-file l = (l.bytes ≡ (listed_of (take l.file-index l.files)).bytes)
    × (l.bytes ≤ l.file-index * (2 ^ 64 - 1))
