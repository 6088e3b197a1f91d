use Rattle.bag_sources.proofs.Common.{refl}
use Rattle.bag_sources.proofs.Merging.{nothing_opened}
use Rattle.bag_sources.proofs.fixed.FixedSource.fill.Goals as goal

pub returns-clause-none_early : goal.returns-clause-none_early
returns-clause-none_early g c = λ ordered bag h sees.
    let state = g.T.Tree.state c.args._tree.now in nothing_opened c.args.self.now.faults state state refl
