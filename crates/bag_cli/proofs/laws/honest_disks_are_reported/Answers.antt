-- What is reported of a bag on an honest disk.
use Rattle.bag_cli.proofs.Common.{◌≡◌, [], ◌∷◌, ℕ, inl, inr, IsTrue, List, Option, None, arith}
use Rattle.bag_cli.proofs.Common.{DiskState, Event, OutState, tree_state, Plan, SummedProfile, AreChecksOf, GivesReport}
use Rattle.bag_cli.proofs.Common.{profile_of}
use Rattle.bag_store.specs.DiskBag.{bag_of}
use Rattle.bag_cli.proofs.OverHonest.{check_reported}
use Rattle.bag_cli.proofs.laws.honest_disks_are_reported.Goals as goal

by_turn : (plan : Plan) (profile : Option SummedProfile) (below : List ℕ → DiskState) (name : List ℕ)
    (before after : OutState) (visits : List Event) (n : ℕ) → IsTrue (below name).honest → plan.part ≡ None
    → AreChecksOf plan profile (λ name. tree_state (below name) 0) (name ∷ []) before after visits n
    → GivesReport plan (profile_of profile) (bag_of (below name).nodes) name before after n
by_turn plan profile below name before after visits n honest alone (inl last) = λ no_failure. absurd (no_failure last.0)
by_turn plan profile below name before after visits n honest alone (inr on) =
    let greatest : n ≡ on.first = omega (arith, on.greatest, on.others.0) in
    rw (greatest, on.others.1)
    (check_reported plan profile (tree_state (below name) 0) name before on.mid on.first honest on.own alone on.whole)

pub returns : goal.returns
returns c plan profile below name before after visits n honest whole checks =
    by_turn plan profile below name before after visits n honest whole checks
