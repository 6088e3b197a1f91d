-- The longest front of a text of which each character passes a test.
use Rattle.bag_read.proofs.Common.{Bool, List, [], arith, drop, length, not, refl, suc, take, true, ℕ, ◌++◌, ◌+◌, ◌∷◌}
use Rattle.bag_read.proofs.Common.{◌≡◌, take-append_seam, list_all, prefix_len}
use Rattle.bag_read.proofs.PickedOut.{both_true}
pub use Rattle.bag_read.proofs.Common.{drop-append_seam as drop_front}

pub take_front : (xs ys : List ℕ) → take (length xs) (xs ++ ys) ≡ xs
take_front = take-append_seam

module _ (p : ℕ → Bool) where
  -- the text is empty or begins with a character that doesn't pass
  abbrev pub stops : List ℕ → Bool
  stops [] = true
  stops (c ∷ t) = not (p c)

  pub front_passes : (t : List ℕ) → list_all p (take (prefix_len p t) t) ≡ true
  front_passes [] = refl
  front_passes (c ∷ t) =
      let before =
      front_passes t in let on : suc (prefix_len p t) ≡ 1 + prefix_len p t = omega arith in grind (arith, p)

  pub rest_stops : (t : List ℕ) → stops (drop (prefix_len p t) t) ≡ true
  rest_stops [] = refl
  rest_stops (c ∷ t) =
      let before = rest_stops t in let on : suc (prefix_len p t) ≡ 1 + prefix_len p t = omega arith in grind (arith, p)

  -- and no other front is one
  pub front_len : (front rest : List ℕ) → list_all p front ≡ true → stops rest ≡ true
      → prefix_len p (front ++ rest) ≡ length front
  front_len [] rest e h = grind arith
  front_len (c ∷ front) rest e h = grind (arith, both_true, front_len front rest)
