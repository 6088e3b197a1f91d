-- The numbers of stages.
use Rattle.std.specs.Prelude.{ℕ}
use Rattle.bag_faults.specs.declared.stage.Stage.{Stage}
use Rattle.bag_faults.specs.declared.stage.Stage.TheVariants as stage

-- the first digit of the codes of its faults
abbrev pub stage_number : Stage → ℕ
stage_number stage.Declaration = 1
stage_number stage.Parts = 2
stage_number stage.Metadata = 3
stage_number stage.Fetch = 4
stage_number stage.Manifests = 5
stage_number stage.Completeness = 6
stage_number stage.Validity = 7
stage_number stage.Conformance = 8
