use Rattle.bag_walk.proofs.Common.{◌≡◌, ◌≤◌, take, drop, string_bytes, sum, option_copied, Keeps, Chain, Progress}
use Rattle.bag_walk.proofs.Common.{ForReport, before_segments}
use Rattle.bag_walk.proofs.SegmentRuns.{IsWrittenTo}
use Rattle.bag_walk.proofs.segments.run_segments.Given as goal

abbrev pub invariant-loop-limit : goal.invariant-loop-limit
invariant-loop-limit g l = record {
  keeps : Keeps (g.T.Tree.state l.fn.tree) (g.T.Tree.state l.tree);
  bounded : l.written ≤ sum (take l.limit-index l.limits);
  untouched : sum (take l.limit-index l.limits) ≡ 0 → l.tree ≡ l.fn.tree;
  written_to : ForReport (g.T.Tree.state l.fn.tree) (option_copied l.profile) l.fn.options
      (IsWrittenTo l.written (string_bytes l.lines.last));
  follows : (last : Progress)
      → Chain (option_copied l.profile) l.fn.options (drop l.limit-index l.limits)
      (record { tree = g.T.Tree.state l.tree; out = g.W.Out.state l.out; count = l.written; outcome = l.outcome }) last
      → Chain (option_copied l.profile) l.fn.options l.limits
      (before_segments (g.T.Tree.state l.fn.tree) (g.W.Out.state l.fn.out)) last;
}
