use Rattle.std.proofs.Common.{rules, tests}
use Rattle.std.proofs.lemmas.Bool.{MatchBool-at_true}
use Rattle.std.proofs.lemmas.Iterator.{YieldsList-from_slice, cases_from_any}
use Rattle.std.specs.List.{slice_index_or}
use Rattle.std.specs.Prelude.{⊤}
use Rattle.bag_stages.proofs.Common.{Md5, algs}
use Rattle.bag_stages.specs.PayloadNamed.{IsNamedExactly}
use Rattle.bag_stages.proofs.left_out.is_some_exact.Goals as goal

pub returns : goal.returns
returns c = λ bag facts deep yes.
    let found = MatchBool-at_true _ _ yes (cases_from_any _ _ _ (IsNamedExactly bag) (λ alg. ⊤)
    c.any.ensures.ran (YieldsList-from_slice algs cc) (λ x q k. search (rules, tests))
    (λ x q k. search (rules, tests))) in
    (slice_index_or algs found.0 Md5, found.2 Md5)
