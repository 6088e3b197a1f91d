-- The numbers of the stages before that of digests.
use Rattle.bag_faults.proofs.Common.{◌≡◌, ◌<◌, ℕ, zero, suc, arith, get_or, refl}
use Rattle.std.specs.Prelude.{◌+◌}
use Rattle.bag_faults.specs.Stage.{stage_number}
use Rattle.bag_faults.specs.declared.stage.Stage.TheVariants as of
use Rattle.bag_faults.specs.declared.stage.TheConstants.{BEFORE_DIGESTS}

-- they stand one after the other, from the first on
pub number_at : (i : ℕ) → i < 6 → stage_number (get_or BEFORE_DIGESTS i of.Declaration) ≡ i + 1
number_at zero within = refl
number_at (suc zero) within = refl
number_at (suc (suc zero)) within = refl
number_at (suc (suc (suc zero))) within = refl
number_at (suc (suc (suc (suc zero)))) within = refl
number_at (suc (suc (suc (suc (suc zero))))) within = refl
number_at (suc (suc (suc (suc (suc (suc i)))))) within = absurd (omega arith)
