-- Each report gets the place of its part.
use Rattle.std.proofs.Common.{◌≡◌, ◌≢◌, ℕ, ◌+◌, ◌<◌, ◌⊎◌, List, Option, Some, None, inl, inr}
use Rattle.std.proofs.Common.{length, get_or, set, refl, sym, ap, ◌∙◌, subst, arith, Contains, All, replicate, IsTrue}
use Rattle.std.specs.List.{range_with_len, slice_get, swap}
use Rattle.std.specs.List.Sorted.{IsPermutation}
use Rattle.std.specs.Option.{option_map}
use Rattle.std.proofs.lemmas.List.{get_or-replicate, length-replicate, length-set, get_or-set_same, get_or-set_other, get_or_default, length-map}
use Rattle.std.proofs.lemmas.List.Edits.{length-swap, swapped_from_swap}
use Rattle.std.proofs.lemmas.List.FromFn.{get_or-range_with_len, length-range_with_len}
use Rattle.std.proofs.lemmas.List.Sorted.{All-permutation, Contains-permutation, IsPermutation-keeps, length_permutation}
use Rattle.std.proofs.lemmas.Option.{slice_get-get_or, slice_get-map}
use Rattle.std.proofs.lemmas.Bool.{cases_eq}
use Rattle.bag_reports.specs.Reports.{ReportsState, SameReports}
use Rattle.bag_join.specs.Findings.{AreWhole, Findings, file_at}

-- an order of the numbers below n, each once
pub record IsOrder (n : ℕ) (order : List ℕ) : Type 0 where
  pub size : length order ≡ n
  pub below : (j : ℕ) → j < n → get_or order j 0 < n
  pub reaches : (k : ℕ) → k < n → (j : ℕ) × (j < n) × (get_or order j 0 ≡ k)
  pub once : (i j : ℕ) → i < n → j < n → get_or order i 0 ≡ get_or order j 0 → i ≡ j

-- no number stands at two places
abbrev IsOnce : List ℕ → Type 0
IsOnce xs = (i j : ℕ) → i < length xs → j < length xs → get_or xs i 0 ≡ get_or xs j 0 → i ≡ j

-- where the element at m stood before those at a and b changed places
abbrev Moved : ℕ → ℕ → ℕ → ℕ → Type 0
Moved a b m from = ((m ≡ a) × (from ≡ b)) ⊎ (((m ≡ b) × (from ≡ a)) ⊎ ((m ≢ a) × (m ≢ b) × (from ≡ m)))

moved_back : (a b i j from : ℕ) → Moved a b i from → Moved a b j from → i ≡ j
moved_back a b i j from (inl p) (inl q) = p.0 ∙ sym q.0
moved_back a b i j from (inl p) (inr (inl q)) = p.0 ∙ sym q.1 ∙ p.1 ∙ sym q.0
moved_back a b i j from (inl p) (inr (inr q)) = absurd (q.1 (sym q.2 ∙ p.1))
moved_back a b i j from (inr (inl p)) (inl q) = p.0 ∙ sym q.1 ∙ p.1 ∙ sym q.0
moved_back a b i j from (inr (inl p)) (inr (inl q)) = p.0 ∙ sym q.0
moved_back a b i j from (inr (inl p)) (inr (inr q)) = absurd (q.0 (sym q.2 ∙ p.1))
moved_back a b i j from (inr (inr p)) (inl q) = absurd (p.1 (sym p.2 ∙ q.1))
moved_back a b i j from (inr (inr p)) (inr (inl q)) = absurd (p.0 (sym p.2 ∙ q.1))
moved_back a b i j from (inr (inr p)) (inr (inr q)) = sym p.2 ∙ q.2

came_from : (xs : List ℕ) (a b : ℕ) → a < length xs → b < length xs → (m : ℕ) → m < length xs
    → (from : ℕ) × (from < length xs) × (get_or (swap xs a b) m 0 ≡ get_or xs from 0) × Moved a b m from
came_from xs a b p q m inside =
    let s = swapped_from_swap xs (swap xs a b) a b 0 p q refl in
    elim (cases_eq m a) as (λ _. (from : ℕ) × (from < length xs) × (get_or (swap xs a b) m 0 ≡ get_or xs from 0)
    × Moved a b m from) [
      | inl same ↦ (b, q, ap (λ k. get_or (swap xs a b) k 0) same ∙ s.0, inl (same, refl))
      | inr other ↦ elim (cases_eq m b) as (λ _. (from : ℕ) × (from < length xs)
          × (get_or (swap xs a b) m 0 ≡ get_or xs from 0) × Moved a b m from) [
            | inl same ↦ (a, p, ap (λ k. get_or (swap xs a b) k 0) same ∙ s.1, inr (inl (same, refl)))
            | inr apart ↦ (m, inside, s.2 m other apart, inr (inr (other, apart, refl)))
          ]
    ]

once_swapped : (xs : List ℕ) (a b : ℕ) → a < length xs → b < length xs
    → (length (swap xs a b) ≡ length xs) → IsOnce xs → IsOnce (swap xs a b)
once_swapped xs a b p q size once i j in_i in_j same =
    let f = came_from xs a b p q i (omega arith) in
    let g = came_from xs a b p q j (omega arith) in
    let one = once f.0 g.0 f.1 g.1 (sym f.2 ∙ same ∙ g.2) in
    moved_back a b i j g.0 (subst (λ k. Moved a b i k) one f.3) g.3

once_range : (n : ℕ) → IsOnce (range_with_len 0 n)
once_range n i j p q same =
    let size = length-range_with_len 0 n in
    let left = get_or-range_with_len 0 n i 0 (omega arith) in
    let right = get_or-range_with_len 0 n j 0 (omega arith) in
    omega arith

order_once : (n : ℕ) (order : List ℕ) → IsPermutation (range_with_len 0 n) order → IsOnce order
order_once n order moved =
    (IsPermutation-keeps (range_with_len 0 n)
    (λ l. IsOnce l × (length l ≡ n)) (once_range n, length-range_with_len 0 n)
    (λ l i j p q h. let size = length-swap l i j in (once_swapped l i j p q size h.0, size ∙ h.1)) order moved).0

range_below : (n : ℕ) → All (λ k. k < n) (range_with_len 0 n)
range_below n k d inside =
    let size = length-range_with_len 0 n in
    let same = get_or_default (range_with_len 0 n) k d 0 inside in
    let is = get_or-range_with_len 0 n k 0 (omega arith) in
    omega arith

range_has : (n k : ℕ) → k < n → Contains (range_with_len 0 n) k
range_has n k below =
    (k, omega (arith, length-range_with_len 0 n), get_or-range_with_len 0 n k k below ∙ omega arith)

pub order_is : (n : ℕ) (order : List ℕ) → IsPermutation (range_with_len 0 n) order → IsOrder n order
order_is n order moved =
    let size : length order ≡ n =
    length_permutation (range_with_len 0 n) order moved ∙ length-range_with_len 0 n in
    record {
      size = size;
      below = λ j inside. All-permutation (λ k. k < n) (range_with_len 0 n) order moved (range_below n) j 0 (omega arith);
      reaches =
          λ k inside.
          let has = Contains-permutation (range_with_len 0 n) order k moved (range_has n k inside) in
          let there = get_or_default order has.0 k 0 has.1 in
          (has.0, omega arith, sym there ∙ has.2);
      once = λ i j p q same. order_once n order moved i j (omega arith) (omega arith) same;
    }

-- the places of the first reports in this order are taken, and no other
pub record FillsFirst (order : List ℕ) (places : List (Option ℕ)) (number : ℕ) : Type 0 where
  pub size : length places ≡ length order
  pub taken : (j : ℕ) → j < number → slice_get places (get_or order j 0) ≡ Some (Some j)
  pub free : (k : ℕ) → k < length order → ((j : ℕ) → j < number → get_or order j 0 ≢ k) → slice_get places k ≡ Some None

pub fills_none : (order : List ℕ) (places : List (Option ℕ)) → places ≡ replicate (length order) None
    → FillsFirst order places 0
fills_none order places is =
    let size : length places ≡ length order = ap length is ∙ length-replicate (length order) None in
    record {
      size = size;
      taken = λ j less. absurd (omega arith);
      free = λ k inside _.
          slice_get-get_or places k None (omega arith)
          ∙ ap (λ (l : List (Option ℕ)). Some (get_or l k None)) is
          ∙ ap (λ (o : Option ℕ). Some o) (get_or-replicate (length order) k None None inside);
    }

-- the place of the next one is free
pub next_free : (n : ℕ) (order : List ℕ) (places : List (Option ℕ)) (number : ℕ) → IsOrder n order → number < n
    → FillsFirst order places number → slice_get places (get_or order number 0) ≡ Some None
next_free n order places number is more fills =
    let size = is.size in
    let below = is.below number more in
    fills.free (get_or order number 0) (omega arith)
    (λ j less same. let one = is.once j number (omega arith) more same in omega arith)

-- and then it is taken
pub fills_next : (n : ℕ) (order : List ℕ) (places new : List (Option ℕ)) (number : ℕ) → IsOrder n order → number < n
    → FillsFirst order places number → new ≡ set places (get_or order number 0) (Some number)
    → FillsFirst order new (number + 1)
fills_next n order places new number is more fills grown =
    let place = get_or order number 0 in
    let size = is.size in
    let old = fills.size in
    let below = is.below number more in
    let long : length new ≡ length places = ap length grown ∙ length-set places place (Some number) in
    let other : (k : ℕ) → k < length order → k ≢ place → slice_get new k ≡ slice_get places k = λ k inside apart.
    slice_get-get_or new k None (omega arith)
    ∙ ap (λ (l : List (Option ℕ)). Some (get_or l k None)) grown
    ∙ ap (λ (o : Option ℕ). Some o) (get_or-set_other places place k (Some number) None apart)
    ∙ sym (slice_get-get_or places k None (omega arith)) in
    let here : slice_get new place ≡ Some (Some number) =
    slice_get-get_or new place None (omega arith)
    ∙ ap (λ (l : List (Option ℕ)). Some (get_or l place None)) grown
    ∙ ap (λ (o : Option ℕ). Some o) (get_or-set_same places place (Some number) None (omega arith)) in
    record {
      size = long ∙ old;
      taken = λ j less. elim (cases_eq j number) as (λ _. slice_get new (get_or order j 0) ≡ Some (Some j)) [
        | inl same ↦ subst (λ m. slice_get new (get_or order m 0) ≡ Some (Some m)) (sym same) here
        | inr apart ↦
            let before : j < number = omega arith in
            let low = is.below j (omega arith) in
            other (get_or order j 0) (omega arith)
            (λ same. apart (is.once j number (omega arith) more same)) ∙ fills.taken j before
      ];
      free = λ k inside none.
          other k inside (λ same. none number (omega arith) (sym same))
          ∙ fills.free k inside (λ j less. none j (omega arith));
    }

-- what the report at a place of the order holds
pub held_at : (findings : Findings) (reports : ReportsState) → (whole : AreWhole findings reports) → (j : ℕ)
    → j < length findings.parts
    → slice_get reports.held j ≡ Some (file_at findings (get_or whole.order j 0))
held_at findings reports whole j inside =
    let is = order_is (length findings.parts) whole.order whole.each_once in
    let size = is.size in
    ap (λ (l : List (List ℕ)). slice_get l j) whole.held
    ∙ slice_get-map (file_at findings) whole.order j
    ∙ ap (λ o. option_map (file_at findings) o) (slice_get-get_or whole.order j 0 (omega arith))

-- there are as many as parts
pub held_count : (findings : Findings) (reports : ReportsState) → AreWhole findings reports
    → reports.count ≡ length findings.parts
held_count findings reports whole =
    let is = order_is (length findings.parts) whole.order whole.each_once in
    whole.count ∙ ap length whole.held ∙ length-map whole.order (file_at findings) ∙ is.size

-- what is known when the turn of a report has come to be planned
pub record IsPlanned (findings : Findings) (now : ReportsState) (part report : ℕ) : Type 0 where
  pub below : part < length findings.parts
  pub honest : IsTrue now.honest
  pub there : report < now.count
  pub held : slice_get now.held report ≡ Some (file_at findings part)

pub is_planned : (findings : Findings) (old now : ReportsState) (report : ℕ) → SameReports old now
    → (whole : AreWhole findings old) → report < length findings.parts
    → IsPlanned findings now (get_or whole.order report 0) report
is_planned findings old now report same whole inside =
    let is = order_is (length findings.parts) whole.order whole.each_once in
    let count = same.count ∙ held_count findings old whole in
    record {
      below = is.below report inside;
      honest = subst IsTrue (sym same.honest) whole.honest;
      there = omega arith;
      held = ap (λ (l : List (List ℕ)). slice_get l report) same.held ∙ held_at findings old whole report inside;
    }

-- all places are taken
pub all_placed : (findings : Findings) (old now : ReportsState) (places : List (Option ℕ)) (number : ℕ)
    → SameReports old now → (whole : AreWhole findings old) → number ≡ length findings.parts
    → FillsFirst whole.order places number → (k : ℕ) → k < length findings.parts
    → (report : ℕ) × (slice_get places k ≡ Some (Some report)) × (report < now.count)
    × (slice_get now.held report ≡ Some (file_at findings k))
all_placed findings old now places number same whole all fills k inside =
    let is = order_is (length findings.parts) whole.order whole.each_once in
    let found = is.reaches k inside in
    let planned = is_planned findings old now found.0 same whole found.1 in (
      found.0,
      subst (λ m. slice_get places m ≡ Some (Some found.0)) found.2 (fills.taken found.0 (omega arith)),
      planned.there,
      subst (λ m. slice_get now.held found.0 ≡ Some (file_at findings m)) found.2 planned.held,
    )
