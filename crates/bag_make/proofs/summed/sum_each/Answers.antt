use Rattle.bag_make.proofs.Common.{StopsAmong}
use Rattle.bag_faults.proofs.PassedOn.{passed_on}
use Rattle.bag_make.proofs.Summing.{sums_none, sums_one_more, opens_first, stops_at, opens_all_first, sums_all}
use Rattle.bag_make.proofs.summed.sum_each.Goals as goal

pub loop-entry-init : goal.loop-entry-init
loop-entry-init g c = rw c.new-summed.ensures.items
    (sums_none c.args.files.now c.args.algs (g.T.Tree.state c.args.tree.now))

pub loop-entry-preserved : goal.loop-entry-preserved
loop-entry-preserved g c =
    let s = c.in_ok-append_summed.ensures.summed in
    sums_one_more _ _ _ _ _ _ (g.T.Tree.state c.append_summed.new.tree) _ c.loop-entry-test.true c.entry-item.is
    c.loop-entry.invariant
    c.append_summed.new.summed.items s.0 s.1 c.append_summed.ensures.keeps c.in_ok-append_summed.ensures.no_failure
    c.in_ok-append_summed.ensures.opened s.2

pub returns-in_err-append_summed-clause-opens : goal.returns-in_err-append_summed-clause-opens
returns-in_err-append_summed-clause-opens g c =
    opens_first _ _ _ _ _ _
    (g.T.Tree.state c.append_summed.new.tree) _ c.loop-entry-test.true c.entry-item.is c.loop-entry.invariant
    c.in_err-append_summed.ensures.opens

pub returns-in_err-append_summed-clause-stop : goal.returns-in_err-append_summed-clause-stop
returns-in_err-append_summed-clause-stop g c =
    let new = g.T.Tree.state c.append_summed.new.tree in
    let stop = c.in_err-append_summed.field-0.0 in
    passed_on c.from_residual.result stop (StopsAmong c.args.files.now (g.T.Tree.state c.args.tree.now) new)
    c.from_residual.ensures.1
    (stops_at _ _ _ _ _ _ new _ c.loop-entry-test.true c.entry-item.is c.loop-entry.invariant stop
    c.in_err-append_summed.ensures.stop)

pub returns-clause-opens : goal.returns-clause-opens
returns-clause-opens g c = opens_all_first _ _ _ _ _ _ c.loop-entry-test.false c.loop-entry.invariant

pub returns-clause-summed : goal.returns-clause-summed
returns-clause-summed g c = sums_all _ _ _ _ _ _ c.loop-entry-test.false c.loop-entry.invariant
