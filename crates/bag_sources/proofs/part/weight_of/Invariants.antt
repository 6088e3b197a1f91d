use Rattle.bag_sources.proofs.Common.{◌≡◌, ◌*◌, ◌≤◌, take}
use Rattle.std.specs.Prelude.{◌^◌}
use Rattle.bag_sources.specs.Parts as spec
use Rattle.bag_sources.proofs.part.weight_of.Given as goal

abbrev pub invariant-loop-file : goal.invariant-loop-file
invariant-loop-file l = (l.weight_of ≡ spec.weight_of (take l.file-index l.files))
    × (l.weight_of ≤ l.file-index * 2 ^ 65)
