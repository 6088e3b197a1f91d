-- What is reported of an honest tar file that holds no one bag.
use Rattle.bag_cli.proofs.Common.{◌≡◌, ◌⊎◌, ◌∙◌, [], ◌∷◌, ℕ, inl, inr, IsTrue, List, Option, arith, subst, sym}
use Rattle.bag_cli.proofs.Common.{ArchiveState, Event, OutState, Plan, SummedProfile, AreTarChecksOf, Result, Err}
use Rattle.bag_cli.proofs.Common.{IsLastTarCheck, IsWholeTarCheck, unwrap_or}
use Rattle.bag_tar.specs.Found.{Contents}
use Rattle.bag_tar.specs.Walk.{MayStop, contents_of}
use Rattle.bag_archive.specs.declared.tar_fault.TarFault.{TarFault}
use Rattle.bag_cli.specs.TarReported.{IsSaidFor, IsToldFor}
use Rattle.bag_cli.proofs.laws.no_bag_is_unread.Goals as goal

one_fault : (r : Result Contents TarFault) (a b : TarFault) → r ≡ Err a → r ≡ Err b → a ≡ b
one_fault r a b is other = grind arith

said_for : (archive new : ArchiveState) (cause said : TarFault) → IsTrue archive.honest
    → contents_of archive.bytes ≡ Err cause → MayStop said archive new → IsSaidFor cause said
said_for archive new cause said honest none (inl device) = inr (inl device.0)
said_for archive new cause said honest none (inr (same, inl memory)) = inr (inr memory)
said_for archive new cause said honest none (inr (same, inr due)) =
    inl (one_fault (contents_of archive.bytes) said cause (due honest) none)

module _ (plan : Plan) (profile : Option SummedProfile) (archive : ArchiveState) (name : List ℕ) (cause : TarFault)
    (honest : IsTrue archive.honest) (none : contents_of archive.bytes ≡ Err cause) where
  whole : (before after : OutState) (visits : List Event) (n : ℕ)
      → IsWholeTarCheck plan profile archive name before after visits n → (n ≡ 3) × IsToldFor cause name before after
  whole before after visits n (own, e, inl tree) =
      let bad = sym (tree.1.bag honest).read ∙ none in cc
  whole before after visits n (own, e, inr told) = (
    told.tells.tells.0,
    (
      told.stop.cause,
      unwrap_or told.tells.member [],
      said_for archive told.new cause told.stop.cause honest none told.no_tree.cause,
      told.tells.tells.1,
    ),
  )

by_turn : (plan : Plan) (profile : Option SummedProfile) (archived : List ℕ → ArchiveState) (name : List ℕ)
    (cause : TarFault) (before after : OutState) (visits : List Event) (n : ℕ)
    → IsTrue (archived name).honest → contents_of (archived name).bytes ≡ Err cause
    → AreTarChecksOf plan profile archived (name ∷ []) before after visits n
    → (n ≡ 3) × (IsToldFor cause name before after
    ⊎ IsLastTarCheck plan profile (archived name) name before after visits)
by_turn plan profile archived name cause before after visits n honest none (inl last) = (last.0, inr last.1)
by_turn plan profile archived name cause before after visits n honest none (inr on) =
    let one = whole plan profile (archived name) name cause honest none before on.mid on.own on.first on.whole in (
      omega (arith, on.greatest, on.others.0, one.0),
      inl (subst (IsToldFor cause name before) (sym on.others.1) one.1),
    )

pub returns : goal.returns
returns c plan profile archived name cause before after visits n honest none checks =
    by_turn plan profile archived name cause before after visits n honest none checks
