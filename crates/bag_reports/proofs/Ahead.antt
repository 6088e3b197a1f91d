-- The bytes of a buffer that haven't passed.
use Rattle.std.proofs.Common.{◌≡◌, ℕ, ◌+◌, ◌-◌, ◌<◌, ◌≤◌, ◌++◌, ◌∷◌, List, [], length, get_or, take, drop, suc, sym, ap, ◌∙◌}
use Rattle.std.proofs.Common.{arith, append_assoc, add-one}
use Rattle.std.specs.List.{slice_range}
use Rattle.std.proofs.Math.Seq.{drop-cons}
use Rattle.std.proofs.lemmas.Grind.{common_steps}
use Rattle.bag_reports.specs.Input.{IsAhead}

first_and_rest : (buffer : List ℕ) (at end : ℕ) → at < end → end ≤ length buffer
    → slice_range buffer at end ≡ get_or buffer at 0 ∷ slice_range buffer (at + 1) end
first_and_rest buffer at end more within =
    let size : end - at ≡ suc (end - (at + 1)) = omega arith in
    let inside : at < length buffer = omega arith in
    ap (λ n. take n (drop at buffer)) size
    ∙ ap (λ t. take (suc (end - (at + 1))) t) (drop-cons buffer at 0 inside)
    ∙ ap (λ k. get_or buffer at 0 ∷ take (end - (at + 1)) (drop k buffer)) (sym (add-one at))

-- the first of them passes
pub byte_passes : (given passed passed' buffer : List ℕ) (at end byte : ℕ) → IsAhead given passed buffer at end
    → at < end → byte ≡ get_or buffer at 0 → passed' ≡ passed ++ byte ∷ []
    → IsAhead given passed' buffer (at + 1) end
byte_passes given passed passed' buffer at end byte is more found grown =
    let within = is.within in
    let cut = first_and_rest buffer at end more within in
    let joined = append_assoc passed (get_or buffer at 0 ∷ []) (slice_range buffer (at + 1) end) in
    let ahead = is.ahead in
    record { ordered = omega arith; within = is.within; some = is.some; ahead = cc }

-- all have passed, and others take their place
pub filled_anew : (given passed buffer new : List ℕ) (at end n : ℕ) → IsAhead given passed buffer at end → at ≡ end
    → n ≤ length new → 0 < length new → IsAhead (given ++ take n new) passed new 0 n
filled_anew given passed buffer new at end n is all fits some = record {
  ordered = omega arith;
  within = fits;
  some = some;
  ahead = let before = is.ahead in grind (arith, common_steps);
}
