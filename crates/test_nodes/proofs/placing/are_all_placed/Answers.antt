use Rattle.std.proofs.Common.{ap, ◌∙◌}
use Rattle.std.specs.Option.{option_map}
use Rattle.test_nodes.specs.Held.{node_of}
use Rattle.test_nodes.proofs.HeldNodes.{found_at}
use Rattle.test_nodes.proofs.placing.are_all_placed.Goals as goal

pub returns-clause-found : goal.returns-clause-found
returns-clause-found c = λ k d within.
    found_at c.args.nodes.now.entries _ ∙ ap (option_map node_of) (c.iter.ensures.found k d within)
