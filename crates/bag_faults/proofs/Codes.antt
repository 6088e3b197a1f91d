-- Codes are reported apart by their numbers.
use Rattle.bag_faults.proofs.Common.{◌≡◌, ◌<◌, List, [], ◌∷◌, Bool, true, false, cond, subst, Option, Some, refl, sym}
use Rattle.bag_faults.proofs.Common.{ap, ◌∙◌, unwrap_or, ◌==◌, nat_lt, not, arith, list_all, nat_tests, and_parts}
use Rattle.bag_faults.proofs.Common.{number, word, all_codes, Code}
use Rattle.std.proofs.Common.{find}
use Rattle.bag_text.proofs.Codes.{code_numbered, numbered_code}

pub same_some : {A : Type 0} (x y : A) → Some x ≡ Some y → x ≡ y
same_some x y e = ap (λ o. unwrap_or o x) e

passes_at : {A : Type 0} (test : A → Bool) (is_first : Bool) (first x : A) (later : Option A) → test first ≡ true
    → (later ≡ Some x → test x ≡ true)
    → cond is_first (Some first) later ≡ Some x → test x ≡ true
passes_at test true first x later here there f = subst (λ y. test y ≡ true) (same_some first x f) here
passes_at test false first x later here there f = there f

-- what is found among those that all pass a test passes it
found_passes : {A : Type 0} (found test : A → Bool) (xs : List A) (x : A) → find found xs ≡ Some x
    → list_all test xs ≡ true → test x ≡ true
found_passes found test [] x f all = cc
found_passes found test (y ∷ ys) x f all =
    let two =
    and_parts (test y) (list_all test ys) all
    in passes_at test (found y) y x (find found ys) two.0 (λ later. found_passes found test ys x later two.1) f

-- what all of the list pass, each code passes
each_code : (test : Code → Bool) → list_all test all_codes ≡ true → (c : Code) → test c ≡ true
each_code test all c = found_passes (λ code. number code == number c) test all_codes c (numbered_code c) all

-- a number has three digits
pub small_number : (c : Code) → number c < 1000
small_number c = let test = each_code (λ code. nat_lt (number code) 1000) refl c in grind (arith, nat_tests)

-- a word is without a space
pub word_test : (c : Code) → list_all (λ b. not (b == 32)) (word c) ≡ true
word_test = each_code (λ code. list_all (λ b. not (b == 32)) (word code)) refl

pub same_code : (c d : Code) → number c ≡ number d → c ≡ d
same_code c d e = same_some c d (sym (numbered_code c) ∙ ap code_numbered e ∙ numbered_code d)
