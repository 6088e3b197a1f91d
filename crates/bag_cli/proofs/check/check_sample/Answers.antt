use Rattle.bag_cli.proofs.Common.{◌≡◌, None, refl, subst, MatchResult, codes, Result, Ok, Err, OutState, TreeState}
use Rattle.bag_cli.proofs.Common.{CheckOutcome, Plan, IsCheckOf, IsCheckOfSample, sample_state}
use Rattle.bag_memory.specs.MemoryView.{state_of_memory}
use Rattle.bag_cli.proofs.check.check_sample.Goals as goal

-- the check of a tree that is the sample
of_sample : {E : Type 0} (plan : Plan) (tree new : TreeState) (before after : OutState) (checked : Result CheckOutcome E)
    → tree ≡ sample_state → new.failures ≡ 0
    → MatchResult checked (λ outcome. IsCheckOf plan None tree new (codes "sample") before after outcome) (λ _.
    (after ≡ before) × (new ≡ tree))
    → MatchResult checked (λ outcome. IsCheckOfSample plan before after outcome) (λ _. after ≡ before)
of_sample plan tree new before after (Ok outcome) same no_failure check =
    (new, no_failure, subst (λ tree. IsCheckOf plan None tree new (codes "sample") before after outcome) same check)
of_sample plan tree new before after (Err e) same no_failure nothing = nothing.0

pub returns : goal.returns
returns g c =
    of_sample c.args.plan.now _ (state_of_memory c.check_tree-tree.result.0) (g.O.Out.state c.args.out.now)
    (g.O.Out.state c.check_tree-tree.new.out)
    c.check_tree-tree.result.1 c.in_ok-tree.ensures refl c.check_tree-tree.ensures
