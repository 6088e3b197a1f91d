use Rattle.bag_cli.proofs.Common.{arith, inl, [], refl, sym, append-nil, err_from_is_err_and, visits_of}
use Rattle.bag_cli.proofs.work.Work.check_by.Goals as goal

pub returns-in_err-say_unchecked : goal.returns-in_err-say_unchecked
returns-in_err-say_unchecked g c =
    let refused = c.in_err-say_unchecked.ensures in
    rw (err_from_is_err_and c.from_residual.result c.from_residual.ensures.1).1
    ([], sym (append-nil (visits_of c.args.visits.now)), inl (refl, refused.1, refl, refused.0))

pub returns : goal.returns
returns g c = grind arith
