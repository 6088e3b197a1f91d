use Rattle.bag_make.proofs.Common.{◌≡◌, ◌∷◌, map, take, lent_texts, MakeFolder, MoveIn}
use Rattle.bag_make.proofs.plan.moves.Given as goal

abbrev pub invariant-loop-top : goal.invariant-loop-top
invariant-loop-top l = l.steps.items ≡ MakeFolder ∷ map MoveIn (lent_texts (take l.top-index l.tops))
