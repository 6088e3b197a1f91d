use Rattle.bag_program.proofs.Common.{rules, ◌≡◌, max, arith, err_from_is_err_and, visits_of}
use Rattle.bag_program.proofs.Turns.{looped_all, looped_last, looped_more, none_yet}
use Rattle.bag_program.proofs.one_by_one.in_turn.Goals as goal

pub loop-name-init : goal.loop-name-init
loop-name-init g c = record { most = omega arith; turns = none_yet }

pub returns-in_err-status : goal.returns-in_err-status
returns-in_err-status g c =
    let done = c.in_err-status.ensures.done in
    rw (err_from_is_err_and c.from_residual.result c.from_residual.ensures.1).1
    (looped_last c.loop-name.invariant.turns c.loop-name-test.true c.name-item.is
    (visits_of c.do_for.new.visits) done.0 (g.O.Out.state c.do_for.new.out) c.loop-name.invariant.most
    done.1 (rw c.as_str.ensures at done.2))

pub loop-name-preserved : goal.loop-name-preserved
loop-name-preserved g c =
    let done = c.in_ok-status.ensures.done in
    let most : c.max-greatest.result ≡ max c.loop-name.greatest c.in_ok-status.status = search rules in
    record {
      most = omega (arith, most, c.in_ok-status.ensures.status, c.loop-name.invariant.most);
      turns =
          looped_more c.loop-name.invariant.turns c.loop-name-test.true c.name-item.is done.0
          c.in_ok-status.status most done.1 (rw c.as_str.ensures at done.2);
    }

pub returns : goal.returns
returns g c = looped_all c.loop-name.invariant.turns c.loop-name-test.false
