use Rattle.bag_cli.proofs.Common.{◌≡◌, inl, inr, ◌++◌, ℕ, List, IsTrue, ap, ◌∙◌, append-nil, arith, OutState}
use Rattle.bag_cli.proofs.Common.{DiskState, Event, tree_state, HonestFoldersAreReported, Plan, IsMakingBy, IsWholeDeed}
use Rattle.bag_cli.proofs.Common.{ReportsMade}
use Rattle.bag_cli.proofs.laws.honest_folders_are_made.Goals as goal

-- a whole making with status 0
whole : HonestFoldersAreReported
    → (plan : Plan) (below : List ℕ → DiskState) (name : List ℕ) (before after : OutState) (visits : List Event) (n : ℕ)
    → IsTrue (below name).honest → n ≡ 0
    → IsWholeDeed (IsMakingBy plan) (tree_state (below name) 0) name before after visits n
    → ReportsMade plan (tree_state (below name) 0) name before after visits
whole law plan below name before after visits n honest zero_is making =
    elim (law name plan.algs plan.info plan.quiet (tree_state (below name) 0) making.new before after 0
    honest (rw zero_is at making.done)) [
      | inl is ↦ (making.new, making.visit, is)
      | inr not ↦ absurd (omega (arith, not.status))
    ]

pub returns : goal.returns
returns c plan below name before after visits honest (inl last) = absurd (omega (arith, last.0))
returns c plan below name before after visits honest (inr on) =
    let all : visits ≡ on.own = on.parts ∙ ap (λ left. on.own ++ left) on.others.2 ∙ append-nil on.own in
    rw (on.others.1, all)
    (whole c.honest_folders_are_reported.ensures plan below name before on.mid on.own on.first honest
    (omega (arith, on.greatest)) on.whole)
