-- The first element that passes a test, and those after it.
use Rattle.bag_stages.proofs.Common.{◌≡◌, ◌<◌, ◌≤◌, ℕ, zero, suc, ◌+◌, ◌++◌, List, [], ◌∷◌, length, take, drop, get_or}
use Rattle.bag_stages.proofs.Common.{None, Some, Bool, false, cond, refl, ap, sym, ◌∙◌, arith, add-one, drop-cons}
use Rattle.bag_stages.proofs.Common.{take-append-drop, take_all, filter-append, nat_tests, position}
use Rattle.std.proofs.Common.{filter}
use Rattle.std.proofs.lemmas.List.Quantifiers.{position-Some}
use Rattle.std.proofs.lemmas.List.Sums.{fails_before_first}
use Rattle.std.specs.List.{position_or_len}

module _ {A : Type 0} (p : A → Bool) where
  -- of the first elements none passes
  none_of : (xs : List A) (k : ℕ) (d : A) → ((j : ℕ) → j < k → p (get_or xs j d) ≡ false) → filter p (take k xs) ≡ []
  none_of xs zero d none = refl
  none_of [] (suc k) d none = refl
  none_of (x ∷ xs) (suc k) d none =
      ap (λ b. cond b (x ∷ filter p (take k xs)) (filter p (take k xs))) (none 0 (omega arith))
      ∙ none_of xs k d (λ j lt. none (suc j) (omega arith))

  -- none passes
  pub none_passes : (xs : List A) → position p xs ≡ None → filter p xs ≡ []
  none_passes [] e = refl
  none_passes (x ∷ xs) e =
      let all = x ∷ xs in
      let behind : length all ≤ position_or_len p all = grind (arith, nat_tests) in
      ap (filter p) (sym (take_all (length all) all (omega arith)))
      ∙ none_of all (length all) x (λ j lt. fails_before_first p all j x (omega arith))

  -- one passes first
  pub first_passes : (xs : List A) (k : ℕ) (d : A) → position p xs ≡ Some k
      → filter p xs ≡ get_or xs k d ∷ filter p (drop (k + 1) xs)
  first_passes xs k d e =
      let at = position-Some p xs k d e in
      let x : A = get_or xs k d in
      let behind : List A = drop (suc k) xs in
      rw add-one
      (ap (filter p) (sym (take-append-drop k xs) ∙ ap (λ ys. take k xs ++ ys) (drop-cons xs k d at.0))
      ∙ filter-append p (take k xs) (x ∷ behind)
      ∙ ap (λ ys. ys ++ filter p (x ∷ behind)) (none_of xs k d at.2)
      ∙ ap (λ b. cond b (x ∷ filter p behind) (filter p behind)) at.1)
