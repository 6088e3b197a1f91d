use Rattle.bag_arguments.proofs.Common.{◌∙◌, [], List, Bool, ap, sym, arith, get_or, take_all, fold_more, algs, name}
use Rattle.bag_arguments.proofs.Common.{Alg, found_of, rows_of, is_given}
use Rattle.bag_text.specs.declared.alg.Alg.TheVariants.{Md5}
use Rattle.bag_arguments.proofs.Reading.{named_one_by_one, with_if}
use Rattle.bag_arguments.proofs.given.named_algs.Goals as goal

pub loop-alg-preserved : goal.loop-alg-preserved
loop-alg-preserved c =
    let p : Alg → Bool = λ alg. is_given (rows_of (found_of c.args.matches.now)) (name alg) in
    let i = c.loop-alg.alg-index in
    c.with_named-set.ensures
    ∙ ap (λ (set : List Alg). with_if p set (get_or algs i Md5)) c.loop-alg.invariant
    ∙ sym (fold_more (with_if p) [] algs i Md5 (omega arith))

pub returns : goal.returns
returns c =
    rw (
      take_all c.loop-alg.alg-index algs (omega arith),
      named_one_by_one (λ alg. is_given (rows_of (found_of c.args.matches.now)) (name alg)),
    ) at c.loop-alg.invariant
