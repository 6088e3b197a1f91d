-- The files that a cursor has passed.
use Rattle.bag_walk.proofs.Common.{◌≡◌, ◌≢◌, ◌≤◌, ◌+◌, ◌++◌, ◌∷◌, ◌∙◌, inl, ℕ, zero, suc, Bool, true}
use Rattle.bag_walk.proofs.Common.{false, not, List, [], Option, None, Some, Contains, length, nat_lt, refl, sym, ap}
use Rattle.bag_walk.proofs.Common.{subst, arith, nat_list_cmp_total, Ordering, Less, eq-eqb}
use Rattle.bag_walk.proofs.Common.{or_parts, nat_tests, length-append}
use Rattle.bag_walk.proofs.Common.{filter-append, IsStrictlySortedBy-filter, stage, text_cmp, contains_behind}
use Rattle.bag_walk.proofs.Common.{contains_first, fault_cmp, Fault, not_less_than_itself}
use Rattle.bag_walk.proofs.Common.{kept, front_ascends, IsBeforeFile, is_passed, not_passed, cursor_after}
use Rattle.bag_walk.proofs.Common.{is_lt, not-true, cases_lt, inr, length-filter_both}
use Rattle.std.specs.List.Sorted.{IsStrictlySortedBy}
use Rattle.bag_tree.proofs.SameText.{exact_texts}
use Rattle.bag_sources.proofs.Places.{at_place, less_at}
use Rattle.bag_sources.proofs.Passed.{passed_on}

-- after more faults of a report
pub passed_later : (n k : ℕ) (report : List Fault) → IsStrictlySortedBy fault_cmp report → n + k ≤ length report
    → (path : List ℕ)
    → is_passed (cursor_after n report) path ≡ true → is_passed (cursor_after (n + k) report) path ≡ true
passed_later zero k report sorted within path passed = cc
passed_later (suc n) zero report sorted within path passed =
    let same : suc n + 0 ≡ suc n = omega arith in rw same passed
passed_later (suc n) (suc k) report sorted within path passed =
    let place : suc n + suc k ≡ suc (n + suc k) = omega arith in
    let one = at_place n report (omega (arith, within)) in
    let other = at_place (n + suc k) report (omega (arith, within)) in
    rw place
    (subst (λ c. is_passed c path ≡ true) (sym other.1)
    (passed_on one.0 other.0 (less_at report n (n + suc k) one.0 other.0 sorted (omega arith) one.1 other.1) path
    (subst (λ c. is_passed c path ≡ true) one.1 passed)))

-- ---- how many are left

pub no_more : (cursor : Option Fault) (listed : List (List ℕ)) → length (not_passed cursor listed) ≤ length listed
no_more cursor listed =
    omega (arith, length-filter_both (is_passed cursor) (λ path. not (is_passed cursor path)) (λ path. refl) listed)

module _ (cursor last : Option Fault)
    (later : (path : List ℕ) → is_passed cursor path ≡ true → is_passed last path ≡ true) where
  -- what the last hasn't passed is among what the first hasn't
  passed_twice : (xs : List (List ℕ)) → not_passed last xs ≡ not_passed last (not_passed cursor xs)
  passed_twice [] = refl
  passed_twice (x ∷ xs) = grind (arith, is_passed, passed_twice xs)

same_by : (o : Ordering) (p q : List ℕ) → text_cmp p q ≡ o → text_cmp p q ≢ Less → text_cmp q p ≢ Less → p ≡ q
same_by o p q is below above = grind (arith, exact_texts, nat_list_cmp_total.antisymm)

is_seven : (f : Fault) (path : List ℕ) → stage f.code ≤ 7 → ¬ (IsBeforeFile f path) → stage f.code ≡ 7
is_seven f path most behind =
    elim (cases_lt (stage f.code) 7) [ inl low ↦ absurd (behind (inl low)) | inr least ↦ omega (arith, most, least) ]

-- a file that a fault has neither passed nor stands before is its own
own_file : (f : Fault) (path : List ℕ) → is_passed (Some f) path ≡ false → ¬ (IsBeforeFile f path) → path ≡ f.path
own_file f path ahead behind = grind (arith, or_parts, nat_lt, is_lt, nat_tests, is_seven, eq-eqb, same_by)

at_most_one : (own : List ℕ) (xs : List (List ℕ)) → IsStrictlySortedBy text_cmp xs
    → ((path : List ℕ) → Contains xs path → path ≡ own) → length xs ≤ 1
unfolding IsStrictlySortedBy
at_most_one own [] sorted all = omega arith
at_most_one own (x ∷ []) sorted all = omega arith
at_most_one own (x ∷ y ∷ xs) sorted all =
    let same : x ≡ y =
    all x (contains_first x (y ∷ xs)) ∙ sym (all y (contains_behind x (y ∷ xs) y (contains_first y xs))) in
    absurd (not_less_than_itself nat_list_cmp_total x y same sorted.0.0)

-- none of these files stands after the fault that was written last, and where none was written
-- there are none of them
abbrev pub NoneBehindLast : Option Fault → List (List ℕ) → Type 0
NoneBehindLast None paths = paths ≡ []
NoneBehindLast (Some f) paths = (path : List ℕ) → Contains paths path → ¬ (IsBeforeFile f path)

-- of files of which none stands after the last fault, it hasn't passed more than one
one_left : (last : Option Fault) (xs : List (List ℕ)) → IsStrictlySortedBy text_cmp xs → NoneBehindLast last xs
    → length (not_passed last xs) ≤ 1
one_left None xs sorted none = rw none (omega arith)
one_left (Some f) xs sorted none =
    at_most_one f.path (not_passed (Some f) xs)
    (IsStrictlySortedBy-filter text_cmp (λ path. not (is_passed (Some f) path)) xs sorted)
    (λ path c. let both = kept (λ p. not (is_passed (Some f) p)) xs path c
    in own_file f path (not-true _ both.0) (none path both.1))

-- what a full segment opens, and what its last fault hasn't passed, is one more than what its cursor hasn't passed
pub one_twice : (cursor last : Option Fault) (listed xs rest : List (List ℕ))
    → ((path : List ℕ) → is_passed cursor path ≡ true → is_passed last path ≡ true)
    → IsStrictlySortedBy text_cmp listed → not_passed cursor listed ≡ xs ++ rest → NoneBehindLast last xs
    → length xs + length (not_passed last listed) ≤ length (not_passed cursor listed) + 1
one_twice cursor last listed xs rest later sorted cut none =
    let ahead : List ℕ → Bool = λ path. not (is_passed last path) in
    let front : IsStrictlySortedBy text_cmp xs =
    front_ascends xs rest
    (subst (IsStrictlySortedBy text_cmp) cut
    (IsStrictlySortedBy-filter text_cmp (λ path. not (is_passed cursor path)) listed sorted)) in
    let parts = passed_twice cursor last later listed ∙ ap (not_passed last) cut ∙ filter-append ahead xs rest in
    omega (
      arith,
      simp length-append at (ap length cut),
      simp length-append at (ap length parts),
      one_left last xs front none,
      no_more last rest,
    )
