-- Makings, and their status.
use Rattle.bag_cli.proofs.Common.{◌≤◌, ℕ, List, arith, Ok, OutState, TreeState, Plan, Event, AreMakingsOf}
use Rattle.bag_cli.proofs.Common.{IsMakingBy}
use Rattle.bag_program.proofs.Deeds.{deeds_status}

-- a making that was reported has a status
pub told_status : (plan : Plan) (name : List ℕ) (tree new : TreeState)
    (before after : OutState) (n : ℕ) → IsMakingBy plan name tree new before after (Ok n) → n ≤ 3
told_status plan name tree new before after n told = grind arith

-- what makings give is a status
pub makings_status : (plan : Plan) (tree_of : List ℕ → TreeState) (names : List (List ℕ)) (before after : OutState)
    (visits : List Event) (n : ℕ)
    → AreMakingsOf plan tree_of names before after visits n → n ≤ 3
makings_status plan = deeds_status (IsMakingBy plan) (told_status plan)
