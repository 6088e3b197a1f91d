-- Calls are counted down to the refused one.
use Rattle.bag_memory.proofs.Common.{◌≡◌, ℕ, zero, suc, false, refl, arith, false≢true, is_kth, next_due, refused_calls}
use Rattle.bag_memory.proofs.Common.{Never, After, Past}
use Rattle.std.specs.Fn.{iterate}
use Rattle.bag_memory.specs.KthCall.{OneCallIsRefused, RefusesAt}

never_due : (n : ℕ) → (is_kth (iterate next_due n Never) ≡ false) × (refused_calls (iterate next_due n Never) ≡ 0)
never_due zero = (refl, refl)
never_due (suc n) = never_due n

past_due : (n : ℕ) → (is_kth (iterate next_due n Past) ≡ false) × (refused_calls (iterate next_due n Past) ≡ 1)
past_due zero = (refl, refl)
past_due (suc n) = past_due n

after_due : (n left : ℕ) → RefusesAt (suc left) n (iterate next_due n (After left))
after_due zero zero =
    record {
      refused = λ _. refl;
      kth = λ _. refl;
      before = λ _. refl;
      after = λ made some.
          absurd (omega (arith, made));
    }
after_due zero (suc left) =
    record {
      refused = λ is. absurd (false≢true is);
      kth = λ is. absurd (omega (arith, is));
      before = λ _.
          refl;
      after = λ made some. absurd (omega (arith, made));
    }
after_due (suc n) zero = grind (arith, past_due n, false≢true)
after_due (suc n) (suc left) = grind (arith, after_due n left)

pub one_call_is_refused : OneCallIsRefused
one_call_is_refused zero calls = grind (arith, false≢true, never_due)
one_call_is_refused (suc left) calls = after_due calls left
