-- A fault is the one that is made of its fields.
use Rattle.bag_stages.proofs.Common.{arith, ◌≡◌, ℕ, List, Option, Alg, Code, of_line, Fault, At}

module _ (f : Fault) (code : Code) (path : List ℕ) (alg : Option Alg) (line : ℕ) (detail : List ℕ) where
  pub made_of : f.code ≡ code → At f path alg line detail → f ≡ of_line code path alg line detail
  made_of e at = λ i.
      record { code = e i; path = at.path_is i; alg = at.alg_is i; line = at.line_is i; detail = at.detail_is i }

  pub has_fields : f ≡ of_line code path alg line detail → At f path alg line detail
  has_fields is = grind arith
