use Rattle.bag_checked.proofs.Common.{◌∙◌, subst, sym}
use Rattle.bag_tree.specs.DigestsOf.{AreSumsOf}
use Rattle.bag_tree.specs.Stop.{IsRefusalOf}
use Rattle.bag_checked.proofs.Comparing.{is_checked, left_unchecked}
use Rattle.bag_facts.proofs.StoppingAmong.{stop_of_whole}
use Rattle.bag_checked.proofs.Stopping.{left_for_memory}
use Rattle.bag_checked.proofs.checked.check_and_keep.Goals as goal

pub returns-in_default-clause-unchecked : goal.returns-in_default-clause-unchecked
returns-in_default-clause-unchecked g c =
    left_for_memory c.args.file.now c.args.expected.now (g.T.Tree.state c.args.tree.now) c.out_of_memory.result
    c.out_of_memory.ensures

pub returns-in-Ok-compare-clause-checked : goal.returns-in-Ok-compare-clause-checked
returns-in-Ok-compare-clause-checked g c =
    let bytes = c.in-Ok-read_whole.bytes in
    let asked = c.with_given.result in
    let read = c.in-Ok-read_whole.ensures in
    is_checked (g.T.Tree.state c.args.tree.now) (g.T.Tree.state c.read_whole.new.tree) c.args.file.now
    c.args.expected.now c.args.algs asked bytes.items c.sums_of-found.result
    (record { no_failure = read.no_failure; opened = read.opened; listed = c.read_whole.ensures.listed })
    (record { gave = read.gave; size = sym bytes.ok.0 ∙ read.size; honest = read.whole })
    (subst (λ some. AreSumsOf asked some c.sums_of-found.result) c.deref.ensures.value c.sums_of-found.ensures)
    c.with_given.ensures.given c.with_given.ensures.kept c.in-Ok-compare.sums c.in-Ok-compare.ensures.same
    c.in-Ok-compare.ensures.right

pub returns-clause-unchecked : goal.returns-clause-unchecked
returns-clause-unchecked g c =
    let bytes = c.in-Ok-read_whole.bytes in
    let asked = c.with_given.result in
    let read = c.in-Ok-read_whole.ensures in
    left_unchecked (g.T.Tree.state c.args.tree.now) (g.T.Tree.state c.read_whole.new.tree) c.args.file.now
    c.args.expected.now c.args.algs asked bytes.items c.sums_of-found.result
    (record { no_failure = read.no_failure; opened = read.opened; listed = c.read_whole.ensures.listed })
    (record { gave = read.gave; size = sym bytes.ok.0 ∙ read.size; honest = read.whole })
    (subst (λ some. AreSumsOf asked some c.sums_of-found.result) c.deref.ensures.value c.sums_of-found.ensures)
    c.with_given.ensures.given c.with_given.ensures.kept c.in-Err-compare.unchecked c.in-Err-compare.ensures.differs

pub returns-in-Err-clause-unchecked : goal.returns-in-Err-clause-unchecked
returns-in-Err-clause-unchecked g c = record {
  opens = c.read_whole.ensures.opens;
  differs = tt;
  stopped =
      stop_of_whole c.args.file.now (g.T.Tree.state c.args.tree.now) (g.T.Tree.state c.read_whole.new.tree)
      c.in-Err.cause c.of_file.result c.in-Err.ensures.refused c.in-Err.ensures.out_of_memory c.in-Err.ensures.refused_at
      (subst (λ path. IsRefusalOf c.in-Err.cause path c.of_file.result) c.in-Ok.ensures c.of_file.ensures);
}
