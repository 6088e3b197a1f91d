use Rattle.bag_checked.proofs.Common.{subst}
use Rattle.bag_tree.specs.Stop.{IsRefusalOf}
use Rattle.bag_checked.proofs.Comparing.{all_checked, all_unchecked}
use Rattle.bag_facts.proofs.StoppingAmong.{stop_of_refusal}
use Rattle.bag_checked.proofs.Stopping.{left_for_memory}
use Rattle.bag_checked.proofs.checked.check_and_sum.Goals as goal

pub returns-in_default-clause-unchecked : goal.returns-in_default-clause-unchecked
returns-in_default-clause-unchecked g c =
    left_for_memory c.args.file.now c.args.expected.now (g.T.Tree.state c.args.tree.now) c.out_of_memory.result
    c.out_of_memory.ensures

pub returns-clause-checked : goal.returns-clause-checked
returns-clause-checked g c =
    let ok = c.in-Ok-digest_file.ensures in
    all_checked (g.T.Tree.state c.args.tree.now) (g.T.Tree.state c.digest_file.new.tree) c.args.file.now
    c.args.expected.now c.args.algs c.with_given-asked.result ok.sums.content c.in-Ok-digest_file.sums
    (record { no_failure = ok.no_failure; opened = ok.opened; listed = c.digest_file.ensures.listed })
    (record { gave = ok.sums.gave; size = ok.sums.size; honest = ok.sums.honest }) ok.sums.sums_of
    c.with_given-asked.ensures.given c.with_given-asked.ensures.kept c.compare.result c.compare.ensures.same
    c.compare.ensures.right

pub returns-clause-unchecked : goal.returns-clause-unchecked
returns-clause-unchecked g c =
    let ok = c.in-Ok-digest_file.ensures in
    all_unchecked (g.T.Tree.state c.args.tree.now) (g.T.Tree.state c.digest_file.new.tree) c.args.file.now
    c.args.expected.now c.args.algs c.with_given-asked.result ok.sums.content c.in-Ok-digest_file.sums
    (record { no_failure = ok.no_failure; opened = ok.opened; listed = c.digest_file.ensures.listed })
    (record { gave = ok.sums.gave; size = ok.sums.size; honest = ok.sums.honest }) ok.sums.sums_of
    c.with_given-asked.ensures.given c.with_given-asked.ensures.kept c.compare.result c.compare.ensures.differs

pub returns-in-Err-clause-unchecked : goal.returns-in-Err-clause-unchecked
returns-in-Err-clause-unchecked g c = record {
  opens = c.digest_file.ensures.opens;
  differs = tt;
  stopped =
      stop_of_refusal c.args.file.now (g.T.Tree.state c.args.tree.now) (g.T.Tree.state c.digest_file.new.tree)
      c.in-Err.cause c.of_file.result c.in-Err.ensures.refused c.in-Err.ensures.answered c.in-Err.ensures.refused_at
      (subst (λ path. IsRefusalOf c.in-Err.cause path c.of_file.result) c.in-Ok.ensures c.of_file.ensures);
}
