use Rattle.bag_stages.proofs.Common.{◌≡◌, ◌++◌, ◌∷◌, [], ℕ, List, length, take, min, arith, append_assoc, length-take}
use Rattle.bag_stages.proofs.Common.{take_min}
use Rattle.bag_stages.proofs.packed.push_packed.Goals as goal

laid_out : (bytes digest : List ℕ) (place count : ℕ) → count ≡ min 255 (length digest)
    → ((bytes ++ place ∷ []) ++ count ∷ []) ++ take count digest
    ≡ bytes ++ place ∷ length (take 255 digest) ∷ take 255 digest
laid_out bytes digest place count is = grind (arith, length-take, append_assoc, take_min)

pub returns : goal.returns
returns c =
    rw (
      c.in_ok-extend_from_slice.ensures.items,
      c.in_ok-push-2.ensures.items,
      c.in_ok-push.ensures.items,
      c.rank.ensures,
    ) (laid_out c.args.bytes.now.items c.args.digest.now _ c.min-count.result (omega (arith, c.min-count.ensures)))
