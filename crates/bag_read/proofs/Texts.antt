-- Tests of texts and prefixes.
use Rattle.bag_read.proofs.Common.{List, MatchOption, None, Option, Some, arith, drop, length, nat_eq, refl, true, ℕ}
use Rattle.bag_read.proofs.Common.{◌++◌, ◌≡◌, Decides-eqb, starts_is, Bor, starts_with, option_copied, after_prefix}
use Rattle.std.specs.Str.Pattern.{StripsPrefix, FindsTextPrefix}

pub prefix_test : (p t : List ℕ)
    → (starts_with nat_eq t p ≡ true → t ≡ p ++ drop (length p) t)
    × ((rest : List ℕ) → t ≡ p ++ rest → starts_with nat_eq t p ≡ true)
prefix_test p t = starts_is Decides-eqb t p (starts_with nat_eq t p) refl

-- the prefix and what stands after it are the text
pub after_is : (p t rest : List ℕ) → after_prefix p t ≡ Some rest → t ≡ p ++ rest
after_is p t rest h = grind (arith, starts_with, nat_eq, prefix_test)

-- what `strip_prefix` tells
pub strip_is_after : (p t : List ℕ) (r : Option (Bor (List ℕ)))
    → MatchOption r (FindsTextPrefix p t None) (λ x. StripsPrefix (FindsTextPrefix p) t x.now)
    → option_copied r ≡ after_prefix p t
strip_is_after p t r h = grind (arith, nat_eq, prefix_test)
