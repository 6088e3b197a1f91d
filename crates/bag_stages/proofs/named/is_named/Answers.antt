use Rattle.std.proofs.Common.{rules, tests}
use Rattle.std.proofs.lemmas.Bool.{MatchBool-at_true}
use Rattle.std.proofs.lemmas.Iterator.{YieldsList-from_slice, cases_from_any}
use Rattle.std.proofs.lemmas.Iterator.Search.{true_from_Any}
use Rattle.std.specs.List.{slice_index_or}
use Rattle.bag_stages.proofs.Common.{Alg, Md5, Names, algs, each_is_listed}
use Rattle.bag_stages.proofs.named.is_named.Goals as goal

pub returns-clause-named : goal.returns-clause-named
returns-clause-named c = λ bag facts deep yes.
    let P = λ (alg : Alg). Names bag c.args.kind alg c.args.path.now in
    let found = MatchBool-at_true _ _ yes (cases_from_any _ _ _ P (λ alg. ¬ (P alg)) c.any.ensures.ran
    (YieldsList-from_slice algs cc) (λ x q k. search (rules, tests)) (λ x q k. search (rules, tests))) in
    (slice_index_or algs found.0 Md5, found.2 Md5)

pub returns-clause-unnamed : goal.returns-clause-unnamed
returns-clause-unnamed c = λ bag facts deep some.
    let P = λ (alg : Alg). Names bag c.args.kind alg c.args.path.now in
    true_from_Any P (λ alg. ¬ (P alg)) _ algs (λ alg named unnamed. absurd (unnamed named))
    (cases_from_any _ _ _ P (λ alg. ¬ (P alg)) c.any.ensures.ran
    (YieldsList-from_slice algs cc) (λ x q k. search (rules, tests)) (λ x q k. search (rules, tests)))
    some.0 (each_is_listed some.0) some.1
