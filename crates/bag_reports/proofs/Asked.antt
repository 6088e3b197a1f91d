-- What closing lines say of what was asked for.
use Rattle.std.proofs.Common.{◌≡◌, ◌≢◌, ℕ, ◌<◌, ◌++◌, ◌∷◌, List, [], Option, Some, None, Bool, true, false, drop, length}
use Rattle.std.proofs.Common.{arith, codes, decimal, get_or, refl, sym, ap, subst, ◌∙◌, append_assoc, lit<}
use Rattle.std.specs.Prelude.{MatchOption}
use Rattle.std.specs.Borrow.{Bor}
use Rattle.std.specs.List.{list_all}
use Rattle.std.specs.Str.Pattern.{StripsPrefix, FindsTextPrefix}
use Rattle.std.proofs.Math.Seq.{drop-append_seam}
use Rattle.std.specs.Cmp.Derive.{both_true}
use Rattle.std.proofs.lemmas.Bool.Decides.{nat_tests}
use Rattle.std.proofs.lemmas.Str.Pattern.{IsSplitOnceResult, split_after}
use Rattle.bag_walk.specs.PartRuns.{clashes_words, profile_words}
use Rattle.bag_reports.specs.DoneLine.{behind_bytes, behind_clashes, behind_comma, is_sum_digit}
use Rattle.bag_reports.specs.DoneLine.{IsProfileSum, IsSum}

-- the comma behind the bytes comes first
pub asked_cut : (clashes : Bool) (sum : Option (List ℕ)) (n : ℕ)
    → clashes_words clashes ++ (profile_words sum ++ (codes ", faults: " ++ (decimal n ++ codes "\n")))
    ≡ 44 ∷ behind_bytes clashes sum n
asked_cut true None n = refl
asked_cut true (Some sum) n = ap (λ t. codes ", clashes" ++ t) (append_assoc (codes ", profile: ") sum (44 ∷ behind_comma n))
asked_cut false None n = refl
asked_cut false (Some sum) n = append_assoc (codes ", profile: ") sum (44 ∷ behind_comma n)

other_second : (xs ys : List ℕ) → get_or xs 1 0 ≢ get_or ys 1 0 → xs ≡ ys → ⊥
other_second xs ys other same = other (ap (λ l. get_or l 1 0) same)

-- the word clashes stands there
pub has_clashes : (clashes : Bool) (sum : Option (List ℕ)) (n : ℕ) (text x : List ℕ)
    → StripsPrefix (FindsTextPrefix (codes " clashes,")) text x → text ≡ behind_bytes clashes sum n
    → (true ≡ clashes) × (x ≡ behind_clashes sum n)
has_clashes true sum n text x strips is = (
  refl,
  strips.2 ∙ ap (λ k. drop k text) strips.1.0 ∙ ap (λ t. drop 9 t) is
      ∙ drop-append_seam (codes " clashes,") (behind_clashes sum n),
)
has_clashes false None n text x strips is =
    absurd (other_second (behind_comma n) (codes " clashes," ++ drop strips.0 text) (λ same. absurd (omega arith)) (sym is ∙ strips.1.1))
has_clashes false (Some sum) n text x strips is =
    absurd (other_second (behind_clashes (Some sum) n) (codes " clashes," ++ drop strips.0 text) (λ same. absurd (omega arith)) (sym is ∙ strips.1.1))

-- or it doesn't
pub lacks_clashes : (clashes : Bool) (sum : Option (List ℕ)) (n : ℕ) (text : List ℕ)
    → FindsTextPrefix (codes " clashes,") text None → text ≡ behind_bytes clashes sum n
    → (false ≡ clashes) × (text ≡ behind_clashes sum n)
lacks_clashes true sum n text lacks is = absurd (lacks (behind_clashes sum n) is)
lacks_clashes false sum n text lacks is = (refl, is)

-- the word profile stands there
pub has_profile : (sum : Option (List ℕ)) (n : ℕ) (text x : List ℕ)
    → StripsPrefix (FindsTextPrefix (codes " profile: ")) text x → text ≡ behind_clashes sum n
    → (digits : List ℕ) × (sum ≡ Some digits) × (x ≡ digits ++ 44 ∷ behind_comma n)
has_profile (Some sum) n text x strips is = (
  sum,
  refl,
  strips.2 ∙ ap (λ k. drop k text) strips.1.0 ∙ ap (λ t. drop 10 t) is
      ∙ drop-append_seam (codes " profile: ") (sum ++ 44 ∷ behind_comma n),
)
has_profile None n text x strips is =
    absurd (other_second (behind_comma n) (codes " profile: " ++ drop strips.0 text) (λ same. absurd (omega arith)) (sym is ∙ strips.1.1))

-- or it doesn't
pub lacks_profile : (sum : Option (List ℕ)) (n : ℕ) (text : List ℕ)
    → FindsTextPrefix (codes " profile: ") text None → text ≡ behind_clashes sum n
    → (None ≡ sum) × (text ≡ behind_comma n)
lacks_profile (Some sum) n text lacks is = absurd (lacks (sum ++ 44 ∷ behind_comma n) is)
lacks_profile None n text lacks is = (refl, is)

no_comma : (sum : List ℕ) → list_all is_sum_digit sum ≡ true → (i : ℕ) → i < length sum → get_or sum i 0 ≡ 44 → ⊥
no_comma [] digits i inside same = absurd (omega arith)
no_comma (d ∷ sum) digits i inside same = grind (arith, both_true, nat_tests, no_comma sum)

-- the digits, and what stands behind the comma
pub sum_parts : (sum text rest : List ℕ) (r : Option (Bor (List ℕ) × Bor (List ℕ)))
    → IsSplitOnceResult 44 text r → IsSum sum → text ≡ sum ++ 44 ∷ rest
    → MatchOption r ⊥ (λ x. (x.0.now ≡ sum) × (x.1.now ≡ rest))
sum_parts sum text rest r cases is cut = split_after 44 text sum rest r cases (lit< tt) cut (no_comma sum is.digits)

-- the digits of a profile
pub sum_of : (sum : Option (List ℕ)) (digits : List ℕ) → IsProfileSum sum → sum ≡ Some digits → IsSum digits
sum_of sum digits is same = subst IsProfileSum same is
