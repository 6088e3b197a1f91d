use Rattle.std.proofs.Common.{ℕ, ◌<◌, ◌≡◌, [], get_or, not, true}
use Rattle.bag_renewed.specs.Elements.{has_label}
use Rattle.bag_stages.specs.MetadataStage.{oxum_label}
use Rattle.bag_renewed.proofs.elements.oxum_place.Given as goal

abbrev pub invariant-loop-place : goal.invariant-loop-place
invariant-loop-place l =
    (k : ℕ) → k < l.place → not (has_label oxum_label (get_or l.elements k ([], []))) ≡ true
