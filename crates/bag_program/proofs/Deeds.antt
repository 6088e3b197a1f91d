-- What is done with trees, and what is written, and the status.
use Rattle.bag_program.proofs.Common.{◌≤◌, ℕ, List, arith, Ok, OutState, TreeState, Event, AreDoneWith, IsSaid, TreeDeed}
use Rattle.bag_program.proofs.Turns.{turns_status}

-- a text that is written, or cut off, has a status
pub said_status : (text : List ℕ) (before after : OutState) (visits : List Event) (n : ℕ)
    → IsSaid text before after visits n → n ≤ 3
said_status text before after visits n said = grind arith

-- what is done with trees in turn has a status, where what is done with each has one
pub deeds_status : (Done : TreeDeed)
    → ((name : List ℕ) (tree new : TreeState) (before after : OutState) (n : ℕ)
    → Done name tree new before after (Ok n) → n ≤ 3)
    → (tree_of : List ℕ → TreeState) (names : List (List ℕ)) (before after : OutState) (visits : List Event) (n : ℕ)
    → AreDoneWith Done tree_of names before after visits n → n ≤ 3
deeds_status Done statuses tree_of names before after visits n deeds =
    turns_status _ _ (λ name before after visits n whole.
    statuses name (tree_of name) whole.new before after n whole.done) names before after visits n deeds
