use Rattle.bag_tree.proofs.Common.{◌≡◌, ◌+◌, ◌∷◌, ◌++◌, [], Keeps, HasOpen}
use Rattle.bag_tree.specs.Whole.{HasTakenSome}
use Rattle.bag_tree.proofs.file_reading.read_file.Given as goal

abbrev pub invariant-loop-count : goal.invariant-loop-count
invariant-loop-count g l =
    let state = g.T.Tree.state in
    record {
      keeps : Keeps (state l.fn.tree) (state l.tree);
      no_failure : (state l.tree).failures ≡ (state l.fn.tree).failures;
      opened : (state l.tree).openings ≡ (state l.fn.tree).openings ++ l.entry.path ∷ [];
      file_open : HasOpen (state l.tree);
      given : (state l.tree).given + l.left ≡ l.entry.size;
      listed : (state l.tree).listed ≡ (state l.fn.tree).listed;
      taken : HasTakenSome (g.S.Taker.has_taken l.fn.taker l.taker) (state l.fn.tree) (state l.tree) l.entry l.left;
    }

abbrev pub decreases-loop-count : goal.decreases-loop-count
decreases-loop-count g l = l.left
