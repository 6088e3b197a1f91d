-- The faults of a tag file tell whether its bytes are UTF-8.
use Rattle.bag_facts.proofs.Common.{arith, ◌≡◌, ◌↔◌, ℕ, List, [], Bool, true, false, refl, sym, ◌∙◌, subst, Any, IsTrue}
use Rattle.bag_facts.proofs.Common.{is_utf8, IsNoText, Code, NotUtf8, line_fault, AreFaults, LineFault}

-- where the fault of bytes that aren't UTF-8 is this one
module _ (bytes : List ℕ) (IsWrong : Code → LineFault → Type 0)
    (to : IsNoText bytes → IsWrong NotUtf8 (line_fault 0 NotUtf8 []))
    (from : (fault : LineFault) → IsWrong NotUtf8 fault → IsNoText bytes) (faults : List LineFault)
    (list : AreFaults (λ fault. IsWrong fault.code fault) faults) where
  tells : Any (λ fault. fault.code ≡ NotUtf8) faults → IsNoText bytes
  tells one = from one.1 (subst (λ code. IsWrong code one.1) one.4 ((list.members one.1).0 (one.0, one.2, one.3)))

  text_by : (is_text text : Bool) → is_utf8 bytes ≡ text
      → IsTrue is_text ↔ ¬ (Any (λ fault. fault.code ≡ NotUtf8) faults) → is_text ≡ text
  text_by true false e is = grind arith
  text_by false true e is = is.1 (λ one. let clash : false ≡ true = sym (tells one) ∙ e in cc)
  text_by _ _ e is = refl

  -- they are UTF-8 where no fault says other
  pub text_told : (is_text : Bool) → IsTrue is_text ↔ ¬ (Any (λ fault. fault.code ≡ NotUtf8) faults)
      → is_text ≡ is_utf8 bytes
  text_told is_text is = text_by is_text (is_utf8 bytes) refl is
