-- What a call did, where its fault is handed on as what it means.
use Rattle.bag_disk.proofs.Common.{◌≡◌, Err, IfErr, OnOk, Result, false≢true, refl, subst, sym}
use Rattle.std.proofs.Common.{MatchResult, Ok, OnErr}
use Rattle.std.specs.Prelude.{IsErrAnd, is_ok}

-- what was done where it answered
pub on_ok_mapped : {E F : Type 0} (call : Result (Unit {0}) E) (r : Result (Unit {0}) F) (P Q : Type 0)
    → is_ok r ≡ is_ok call → (P → Q) → OnOk call P → OnOk r Q
on_ok_mapped (Ok u) (Ok v) P Q same f done = f done
on_ok_mapped (Ok u) (Err e) P Q same f done = tt
on_ok_mapped (Err e) (Ok u) P Q same f done = absurd (false≢true (sym same))
on_ok_mapped (Err e) (Err r) P Q same f done = tt

-- a refusal is what the fault means
pub if_err_mapped : {E F : Type 0} (call : Result (Unit {0}) E) (r : Result (Unit {0}) F) (meaning : E → F)
    (P : F → Type 0) → MatchResult call (λ u. r ≡ Ok u) (λ e. IsErrAnd r (λ f. f ≡ meaning e))
    → ((e : E) → call ≡ Err e → P (meaning e)) → IfErr r P
if_err_mapped (Ok u) r meaning P is due = subst (λ s. IfErr s P) (sym is) tt
if_err_mapped (Err e) (Ok u) meaning P is due = tt
if_err_mapped (Err e) (Err f) meaning P is due = subst P (sym is) (due e refl)
