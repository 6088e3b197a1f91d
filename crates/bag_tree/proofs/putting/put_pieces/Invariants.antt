use Rattle.bag_tree.proofs.Common.{take, Appends, joined_pieces}
use Rattle.bag_tree.proofs.putting.put_pieces.Given as goal

abbrev pub invariant-loop-piece : goal.invariant-loop-piece
invariant-loop-piece g l = Appends (g.W.Out.state l.fn.out).taken (g.W.Out.state l.out).taken
    (joined_pieces (take l.piece-index l.pieces))
