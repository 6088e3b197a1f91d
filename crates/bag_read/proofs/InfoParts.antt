-- The continuations of an element are the lines below it that go on with it.
use Rattle.bag_read.proofs.Common.{Bool, List, None, Option, Some, [], add-zero, arith, cond, drop, false, get_or}
use Rattle.bag_read.proofs.Common.{length, map, not, refl, suc, sym, take, true, ℕ, ◌+◌, ◌-◌, ◌<◌, ◌∙◌, ◌∷◌, ◌≡◌}
use Rattle.bag_read.proofs.Common.{not-false, common_steps, get_or-enumerate_from, prefix_len_passes, prefix_len_stops}
use Rattle.bag_read.proofs.Common.{cond_some, get_or_from_slice_get, gets, slice_get-get_or, slice_get_within}
use Rattle.bag_read.proofs.Common.{enumerate_from, filter, prefix_len, slice_get, nat_cmp, Contains, filter_map, Less}
use Rattle.bag_read.proofs.Common.{length-numbered, IsLine, IsListOf, begins_element, continuations, is_continuation}
use Rattle.bag_read.proofs.Common.{Continues, IsLineAbove}
use Rattle.bag_read.proofs.InfoPlaces.{never_both}
use Rattle.bag_read.proofs.LinesRead.{number_cmp, numbers_ascend}
use Rattle.bag_read.proofs.PickedOut.{picked, is_picked, ascending_picked}

-- the number of a numbered line that is a continuation
abbrev pick : ℕ × List ℕ → Option ℕ
pick x = cond (is_continuation x.1) (Some x.0) None

rising : (x y : ℕ × List ℕ) (u v : ℕ) → pick x ≡ Some u → pick y ≡ Some v → number_cmp x y ≡ Less → nat_cmp u v ≡ Less
rising x y u v e f h =
    rw (← (cond_some (is_continuation x.1) x.0 u e).1, ← (cond_some (is_continuation y.1) y.0 v f).1) h

-- a numbered line and its place
numbered_in : (n : ℕ) (xs : List (List ℕ)) (k : ℕ) (line : List ℕ) → Contains (enumerate_from n xs) (k, line)
    → (i : ℕ) × (k ≡ n + i) × (slice_get xs i ≡ Some line)
numbered_in n xs k line (i, low, at) =
    grind (arith, length-numbered, get_or-enumerate_from n xs i (k, line), slice_get-get_or xs i line)

in_numbered : (n : ℕ) (xs : List (List ℕ)) (i : ℕ) (line : List ℕ) → slice_get xs i ≡ Some line
    → Contains (enumerate_from n xs) (n + i, line)
in_numbered n xs i line at = (
  i,
  omega (arith, length-numbered n xs, slice_get_within xs i line at),
  rw (
    get_or-enumerate_from n xs i (n + i, line) (slice_get_within xs i line at),
    get_or_from_slice_get xs i line line at,
  ) refl,
)

get_drop : (j : ℕ) (all : List (List ℕ)) (i : ℕ) → slice_get (drop j all) i ≡ slice_get all (j + i)
get_drop j all i = grind (arith, gets, common_steps)

in_take : (n : ℕ) (xs : List (List ℕ)) (i : ℕ) (line : List ℕ) → slice_get (take n xs) i ≡ Some line
    → (i < n) × (slice_get xs i ≡ Some line)
in_take n xs i line at = grind (arith, gets, common_steps)

take_in : (n : ℕ) (xs : List (List ℕ)) (i : ℕ) (line : List ℕ) → i < n → slice_get xs i ≡ Some line
    → slice_get (take n xs) i ≡ Some line
take_in n xs i line low at = grind (arith, gets, common_steps)

module _ (all : List (List ℕ)) where
  value_in : (n : ℕ) (line : List ℕ) (more : List (List ℕ)) → slice_get all n ≡ Some line
      → map (λ k. slice_get all (k - 1)) (filter_map pick (enumerate_from (n + 1 + 1) more))
      ≡ map Some (filter is_continuation more)
      → map (λ k. slice_get all (k - 1)) (filter_map pick (enumerate_from (n + 1) (line ∷ more)))
      ≡ map Some (filter is_continuation (line ∷ more))
  value_in n line more at before = grind (arith, is_continuation)

  values : (n : ℕ) (xs : List (List ℕ))
      → ((i : ℕ) (line : List ℕ) → slice_get xs i ≡ Some line → slice_get all (n + i) ≡ Some line)
      → map (λ k. slice_get all (k - 1)) (filter_map pick (enumerate_from (n + 1) xs))
      ≡ map Some (filter is_continuation xs)
  values n [] h = refl
  values n (line ∷ more) h =
      value_in n line more (rw add-zero at (h 0 line refl))
      (values (n + 1) more (λ i l at. let step : n + 1 + i ≡ n + suc i = omega arith in rw step (h (suc i) l at)))

  module _ (j : ℕ) (begun : (line : List ℕ) × IsLine all j line × (begins_element line ≡ true)) where
    abbrev lines : List (List ℕ)
    lines = drop j all

    abbrev plain : List ℕ → Bool
    plain line = not (begins_element line)

    abbrev front : List (List ℕ)
    front = take (prefix_len plain lines) lines

    at_line : (k : ℕ) (line : List ℕ) → j < k → IsLine all k line → slice_get lines (k - 1 - j) ≡ Some line
    at_line k line low (some, at) =
        let back : j + (k - 1 - j) ≡ k - 1 = omega (arith, low) in rw (get_drop j all (k - 1 - j), back) at

    plain_before : (i : ℕ) (line : List ℕ) → i < prefix_len plain lines → slice_get all (j + i) ≡ Some line
        → begins_element line ≡ false
    plain_before i line low at =
        grind (arith, prefix_len_passes plain lines i line, get_or_from_slice_get lines i line line, get_drop)

    goes_on : (k : ℕ) → Contains (filter_map pick (enumerate_from (j + 1) front)) k → Continues all k j
    goes_on k c =
        let (x, has, is) = picked pick (enumerate_from (j + 1) front) k c in
        let (continues, same) = cond_some (is_continuation x.1) x.0 k is in
        let (i, place, here) = numbered_in (j + 1) front x.0 x.1 has in
        let (low, at) = in_take (prefix_len plain lines) lines i x.1 here in
        let back : k - 1 ≡ j + i = omega (arith, place, same) in
        let there : IsLine all k x.1 = (omega (arith, place, same), rw (back, ← get_drop j all i) at) in (
          (x.1, there, continues),
          (
            omega (arith, place, same),
            begun,
            λ h t above below at.
                plain_before (h - 1 - j) t (omega arith)
                (let from : j + (h - 1 - j) ≡ h - 1 = omega arith in rw from at.1),
          ),
        )

    stop_line : prefix_len plain lines < length lines
        → (line : List ℕ) × IsLine all (j + 1 + prefix_len plain lines) line × (begins_element line ≡ true)
    stop_line low =
        let back : j + 1 + prefix_len plain lines - 1 ≡ j + prefix_len plain lines = omega arith in (
          get_or lines (prefix_len plain lines) [],
          (
            omega arith,
            rw (back, ← get_drop j all (prefix_len plain lines))
                (slice_get-get_or lines (prefix_len plain lines) [] low),
          ),
          not-false _ (prefix_len_stops plain lines [] low),
        )

    no_later : (k : ℕ) (text : List ℕ) → IsLine all k text → is_continuation text ≡ true → IsLineAbove all k j
        → k - 1 - j < prefix_len plain lines
    no_later k text there continues above =
        grind (arith, stop_line, slice_get_within lines (k - 1 - j) text, at_line k text, never_both text)

    listed : (k : ℕ) → Continues all k j → Contains (filter_map pick (enumerate_from (j + 1) front)) k
    listed k ((text, there, continues), above) =
        let place : j + 1 + (k - 1 - j) ≡ k = omega (arith, above.0) in
        let here =
        take_in (prefix_len plain lines) lines (k - 1 - j) text (no_later k text there continues above)
        (at_line k text above.0 there) in
        is_picked pick (enumerate_from (j + 1) front) (k, text) k
        (rw place at (in_numbered (j + 1) front (k - 1 - j) text here)) (rw continues refl)

    pub parts : (ks : List ℕ) × IsListOf nat_cmp (λ k. Continues all k j) ks
        × (map (λ k. slice_get all (k - 1)) ks ≡ map Some (continuations all j))
    parts = (
      filter_map pick (enumerate_from (j + 1) front),
      record {
        ascending = ascending_picked pick number_cmp nat_cmp rising (enumerate_from (j + 1) front)
            (numbers_ascend (j + 1) front);
        members = λ k. (goes_on k, listed k);
      },
      values j front (λ i line at. sym (get_drop j all i) ∙ (in_take (prefix_len plain lines) lines i line at).1),
    )
