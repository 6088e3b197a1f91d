-- What stands before the first of a character, and after it.
use Rattle.bag_read.proofs.Common.{Bool, List, [], ap, append_assoc, arith, false, length, length-append, not, refl}
use Rattle.bag_read.proofs.Common.{sym, true, ℕ, ◌++◌, ◌==◌, ◌∙◌, ◌∷◌, ◌≡◌, ◌≢◌, nat_tests, after_first, before_first}
use Rattle.bag_read.proofs.Common.{list_all, list_any, prefix_len}
use Rattle.bag_read.proofs.Fronts.{drop_front, take_front, front_len}
use Rattle.bag_read.proofs.InfoLine.{has}

module _ (mark : ℕ) where
  abbrev is_mark : ℕ → Bool
  is_mark c = c == mark

  abbrev no_mark : ℕ → Bool
  no_mark c = not (is_mark c)

  -- a text that has one
  pub cut_at : (t : List ℕ) → list_any is_mark t ≡ true
      → t ≡ before_first is_mark t ++ mark ∷ [] ++ after_first is_mark t
  cut_at [] h = cc
  cut_at (c ∷ t) h = grind (arith, nat_tests, cut_at t)

  none_after : (t : List ℕ) → list_any is_mark t ≡ false → after_first is_mark t ≡ []
  none_after [] e = refl
  none_after (c ∷ t) e = grind (arith, nat_tests, none_after t)

  -- a text with something after the first
  pub cut_before : (t : List ℕ) → after_first is_mark t ≢ []
      → t ≡ before_first is_mark t ++ mark ∷ [] ++ after_first is_mark t
  cut_before t h = grind (arith, cut_at, none_after)

  -- and it is cut so in no other way
  module _ (before behind t : List ℕ) (none : list_all no_mark before ≡ true) (e : t ≡ before ++ mark ∷ [] ++ behind)
    where
      at : t ≡ before ++ mark ∷ behind
      at = e ∙ append_assoc before (mark ∷ []) behind

      len : prefix_len no_mark t ≡ length before
      len = grind (arith, prefix_len, at, front_len, nat_tests)

      pub before_is : before_first is_mark t ≡ before
      before_is = rw (len, at) (take_front before (mark ∷ behind))

      pub behind_is : after_first is_mark t ≡ behind
      behind_is = rw (len, e, sym (length-append before (mark ∷ []))) (drop_front (before ++ mark ∷ []) behind)

      pub has_mark : list_any is_mark t ≡ true
      has_mark = has is_mark t (omega (arith, len, ap length at, length-append before (mark ∷ behind)))
