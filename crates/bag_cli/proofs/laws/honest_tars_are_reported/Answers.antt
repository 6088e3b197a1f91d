-- What is reported of a bag in an honest tar file.
use Rattle.bag_cli.proofs.Common.{◌≡◌, [], ◌∷◌, ℕ, inl, inr, IsTrue, List, Option, None, arith, subst, sym}
use Rattle.bag_cli.proofs.Common.{ArchiveState, Event, OutState, Plan, SummedProfile, AreTarChecksOf, GivesReport}
use Rattle.bag_cli.proofs.Common.{IsWholeTarCheck, profile_of}
use Rattle.bag_tar.specs.Tar.{AnArchiveHoldsOneBag, IsTarOf}
use Rattle.bag_tree.specs.Bag.{Bag}
use Rattle.bag_cli.proofs.OverHonest.{check_reported}
use Rattle.bag_cli.proofs.laws.honest_tars_are_reported.Goals as goal

module _ (one_bag : AnArchiveHoldsOneBag) (plan : Plan) (profile : Option SummedProfile) (archive : ArchiveState)
    (name : List ℕ) (bag : Bag) (honest : IsTrue archive.honest) (holds : IsTarOf archive.bytes bag)
    (alone : plan.part ≡ None) where
  whole : (before after : OutState) (visits : List Event) (n : ℕ)
      → IsWholeTarCheck plan profile archive name before after visits n
      → GivesReport plan (profile_of profile) bag name before after n
  whole before after visits n (own, e, inl tree) =
      let is : tree.0.bag ≡ bag = one_bag archive.bytes tree.0.bag bag (tree.1.bag honest) holds in
      subst (λ (bag : Bag). GivesReport plan (profile_of profile) bag name before after n) is
      (check_reported plan profile tree.0 name before after n (subst IsTrue (sym tree.1.honest) honest) own alone tree.2)
  whole before after visits n (own, e, inr none) = λ no_failure. absurd (no_failure none.tells.tells.0)

by_turn : (one_bag : AnArchiveHoldsOneBag) (plan : Plan) (profile : Option SummedProfile)
    (archived : List ℕ → ArchiveState) (name : List ℕ) (bag : Bag) (before after : OutState) (visits : List Event)
    (n : ℕ) → IsTrue (archived name).honest → IsTarOf (archived name).bytes bag → plan.part ≡ None
    → AreTarChecksOf plan profile archived (name ∷ []) before after visits n
    → GivesReport plan (profile_of profile) bag name before after n
by_turn one_bag plan profile archived name bag before after visits n honest holds alone (inl last) =
    λ no_failure. absurd (no_failure last.0)
by_turn one_bag plan profile archived name bag before after visits n honest holds alone (inr on) =
    let greatest : n ≡ on.first = omega (arith, on.greatest, on.others.0) in
    rw (greatest, on.others.1)
    (whole one_bag plan profile (archived name) name bag honest holds alone before on.mid on.own on.first on.whole)

pub returns : goal.returns
returns c plan profile archived name bag before after visits n honest holds alone checks =
    by_turn c.an_archive_holds_one_bag.ensures plan profile archived name bag before after visits n honest holds alone
    checks
