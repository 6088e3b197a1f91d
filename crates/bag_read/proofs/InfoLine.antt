-- Whether a text has a character of a kind, by how many stand before the first.
use Rattle.bag_read.proofs.Common.{Bool, List, arith, false, length, true, ℕ, ◌<◌, ◌≡◌, list_any_at, list_any_none}
use Rattle.bag_read.proofs.Common.{fails_before_first, passes_at_first, list_any, position_or_len}

module _ (p : ℕ → Bool) where
  -- a text that has none
  pub lacks : (t : List ℕ) → position_or_len p t ≡ length t → list_any p t ≡ false
  lacks t e = list_any_none p t (λ k d l. fails_before_first p t k d (omega arith))

  -- and one that has some
  pub has : (t : List ℕ) → position_or_len p t < length t → list_any p t ≡ true
  has t l = list_any_at p t (position_or_len p t) 0 l (passes_at_first p t 0 l)
