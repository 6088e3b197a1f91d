-- An error that is passed on.
use Rattle.bag_faults.proofs.Common.{◌≡◌, Result, Ok, Err, sym, subst, IfErr, IsErrAnd, OnErr}

pub passed_on : {T E : Type 0} (r : Result T E) (x : E) (Q : E → Type 0) → IsErrAnd r (λ e. e ≡ x) → Q x → IfErr r Q
passed_on (Ok y) x Q h q = tt
passed_on (Err e) x Q h q = subst Q (sym h) q

pub on_error : {T E : Type 0} (r : Result T E) (P : Type 0) → P → OnErr r P
on_error (Ok y) P p = tt
on_error (Err e) P p = p
