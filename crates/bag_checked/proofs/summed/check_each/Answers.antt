use Rattle.bag_checked.proofs.Common.{◌∙◌, ◌+◌, inr, subst, sym}
use Rattle.bag_checked.proofs.FirstOpened.{left_at, left_out_of_memory, opens_at, opens_each}
use Rattle.bag_checked.proofs.Summing.{ChecksFirst, checks_all, checks_none, checks_one_more, passes_over}
use Rattle.bag_tree.proofs.Calm.{nothing_then}
use Rattle.bag_checked.proofs.summed.check_each.Goals as goal

pub loop-entry-init : goal.loop-entry-init
loop-entry-init g c =
    rw (c.new-summed.ensures.items, c.new-info.ensures)
    (checks_none c.args.facts.now c.args.files.now c.args.with_payload c.args.algs (g.T.Tree.state c.args.tree.now))

pub loop-entry-preserved : goal.loop-entry-preserved
loop-entry-preserved g c =
    subst
    (ChecksFirst c.args.facts.now c.args.files.now (c.loop-entry.entry-index + 1) c.args.with_payload c.args.algs
    (g.T.Tree.state c.args.tree.now) (g.T.Tree.state c.check_file.new.tree) c.push.new.self.items)
    (sym c.unwrap_or-info.ensures)
    (checks_one_more _ _ _ _ _ _ _ _ (g.T.Tree.state c.check_file.new.tree) _ _ c.loop-entry-test.true c.entry-item.is
    c.loop-entry.invariant (sym c.is_read.ensures ∙ c.if-not-is_read.false) c.push.new.self.items c.in-Ok.checked.0
    c.in-Ok.checked.1 c.in-Ok-push.ensures.items c.check_file.ensures.keeps c.in-Ok.ensures.checked)

pub loop-entry-preserved-then-not-is_read : goal.loop-entry-preserved-then-not-is_read
loop-entry-preserved-then-not-is_read g c =
    let state = g.T.Tree.state in
    passes_over c.args.facts.now c.args.files.now c.loop-entry.entry-index _ c.args.with_payload c.args.algs
    (state c.args.tree.now) (state c.loop-entry.tree) (state c.loop-entry.tree) c.loop-entry.summed.items
    c.loop-entry.info c.loop-entry-test.true c.entry-item.is c.loop-entry.invariant
    (sym c.is_read.ensures ∙ c.if-not-is_read.true)

pub returns-clause-checked : goal.returns-clause-checked
returns-clause-checked g c =
    checks_all c.args.facts.now c.args.files.now c.loop-entry.entry-index c.args.with_payload c.args.algs
    (g.T.Tree.state c.args.tree.now) (g.T.Tree.state c.loop-entry.tree) c.loop-entry.summed.items c.loop-entry.info
    c.loop-entry-test.false c.loop-entry.invariant

pub returns-in-Err-clause-unchecked : goal.returns-in-Err-clause-unchecked
returns-in-Err-clause-unchecked g c =
    left_at _ _ _ _ _ _ _ _ (g.T.Tree.state c.check_file.new.tree) _ _ c.loop-entry-test.true c.entry-item.is
    c.loop-entry.invariant (sym c.is_read.ensures ∙ c.if-not-is_read.false) c.in-Err.unchecked
    c.in-Err.ensures.unchecked

pub returns-in_default-clause-unchecked : goal.returns-in_default-clause-unchecked
returns-in_default-clause-unchecked g c =
    let old = g.T.Tree.state c.args.tree.now in
    let new = g.T.Tree.state c.check_file.new.tree in
    left_out_of_memory c.args.facts.now _ old new c.no_memory.result c.no_memory.ensures
    (nothing_then old _ new c.loop-entry.invariant.no_failure c.in-Ok.ensures.checked.once.no_failure)

pub returns-in-Err-clause-opens : goal.returns-in-Err-clause-opens
returns-in-Err-clause-opens g c =
    opens_at _ _ _ _ _ _ _ _ (g.T.Tree.state c.check_file.new.tree) _ _ c.loop-entry-test.true c.entry-item.is
    c.loop-entry.invariant (sym c.is_read.ensures ∙ c.if-not-is_read.false) c.in-Err.ensures.opens

pub returns-in_default-clause-opens : goal.returns-in_default-clause-opens
returns-in_default-clause-opens g c =
    opens_at _ _ _ _ _ _ _ _ (g.T.Tree.state c.check_file.new.tree) _ _ c.loop-entry-test.true c.entry-item.is
    c.loop-entry.invariant (sym c.is_read.ensures ∙ c.if-not-is_read.false) (inr c.in-Ok.ensures.checked.once.opened)

pub returns-clause-opens : goal.returns-clause-opens
returns-clause-opens g c =
    let old = g.T.Tree.state c.args.tree.now in
    let new = g.T.Tree.state c.loop-entry.tree in
    opens_each c.args.with_payload c.args.files.now old new
    (checks_all c.args.facts.now c.args.files.now c.loop-entry.entry-index c.args.with_payload c.args.algs old new
    c.loop-entry.summed.items c.loop-entry.info c.loop-entry-test.false c.loop-entry.invariant).once.opened
