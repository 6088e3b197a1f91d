use Rattle.std.proofs.Common.{◌≡◌, length}
use Rattle.bag_tags.specs.PathSpelling as spec
use Rattle.bag_tags.proofs.spelling.has_escape.Given as goal

abbrev pub invariant-loop-after : goal.invariant-loop-after
invariant-loop-after l = spec.has_escape l.fn.path ≡ spec.has_escape l.rest

abbrev pub decreases-loop-after : goal.decreases-loop-after
decreases-loop-after l = length l.rest
