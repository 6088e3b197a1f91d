-- Checks and their statuses.
use Rattle.bag_cli.proofs.Common.{◌≡◌, inl, inr, ◌≤◌, ℕ, List, Option, refl, ap, ◌∙◌, arith, MatchOption, MatchResult}
use Rattle.bag_cli.proofs.Common.{Result, Ok, Err, OutState, TreeState, Event, CheckOutcome, Unwritten, SummedProfile, Plan}
use Rattle.bag_walk.specs.declared.part_run.PartOutcome.TheVariants as part
use Rattle.bag_cli.specs.declared.check_outcome.CheckOutcome.TheVariants.{OfBag, OfPart}
use Rattle.bag_arguments.specs.declared.plan.Action.{Action}
use Rattle.bag_arguments.specs.declared.plan.Action.TheVariants.{CheckTars}
use Rattle.bag_cli.proofs.Common.{AreTarChecksOf, ArchiveState, DiskState, IsLastTarCheck, IsWholeAs, IsWholeTarCheck}
use Rattle.bag_cli.proofs.Common.{tree_state}
use Rattle.bag_cli.proofs.Common.{AreChecksOf, HasRunOut, IsCheckOf, IsLastCheck, IsVisitToCheck, IsWholeCheck}
use Rattle.bag_cli.proofs.Common.{result_ok, subst, sym, visit_of, whole_status}
use Rattle.bag_cli.specs.Checking.{ChecksFolder}
use Rattle.bag_program.proofs.Turns.{turns_status}

-- what the status says of a check
pub next_check : {E : Type 0} (plan : Plan) (profile : Option SummedProfile) (tree : TreeState) (name : List ℕ)
    (before after : OutState) (visits : List Event) (checked : Result CheckOutcome E)
    → MatchResult checked (λ outcome. IsVisitToCheck plan profile tree name before after visits outcome) (λ _.
    HasRunOut tree name before after visits)
    → MatchOption (whole_status checked) (IsLastCheck plan profile tree name before after visits) (λ n.
    IsWholeCheck plan profile tree name before after visits n)
next_check plan profile tree name before after visits (Ok (OfBag (Unwritten n))) check =
    inl (OfBag (Unwritten n), refl, check)
next_check plan profile tree name before after visits (Ok (OfBag outcome)) check =
    record { outcome = OfBag outcome; check = check; status_is = refl }
next_check plan profile tree name before after visits (Ok (OfPart (part.Unwritten n))) check =
    inl (OfPart (part.Unwritten n), refl, check)
next_check plan profile tree name before after visits (Ok (OfPart outcome)) check =
    record { outcome = OfPart outcome; check = check; status_is = refl }
next_check plan profile tree name before after visits (Err e) nothing = inr nothing

-- where the status of a check is known, its whole report was written; else it was the last
pub check_by_status : {E F : Type 0} (plan : Plan) (profile : Option SummedProfile) (tree : TreeState) (name : List ℕ)
    (before after : OutState) (visits : List Event) (checked : Result CheckOutcome E) (done : Result ℕ F)
    → result_ok done ≡ whole_status checked
    → MatchOption (whole_status checked) (IsLastCheck plan profile tree name before after visits) (λ n.
    IsWholeCheck plan profile tree name before after visits n)
    → ChecksFolder plan profile tree name before after visits done
check_by_status plan profile tree name before after visits checked (Ok n) same turn =
    subst (λ (next : Option ℕ). MatchOption next (IsLastCheck plan profile tree name before after visits) (λ n.
    IsWholeCheck plan profile tree name before after visits n))
    (sym same) turn
check_by_status plan profile tree name before after visits checked (Err e) same turn =
    subst (λ (next : Option ℕ). MatchOption next (IsLastCheck plan profile tree name before after visits) (λ n.
    IsWholeCheck plan profile tree name before after visits n))
    (sym same) turn

-- The folder's tree was given for it, and left as the check leaves it; or as it was given, where memory ran out.
pub visited_check : {E : Type 0} (plan : Plan) (profile : Option SummedProfile) (tree old new : TreeState) (name : List ℕ)
    (before after : OutState) (checked : Result CheckOutcome E) → old ≡ tree
    → MatchResult checked (λ outcome. IsCheckOf plan profile old new name before after outcome) (λ _.
    (after ≡ before) × (new ≡ old))
    → MatchResult checked (λ outcome. IsVisitToCheck plan profile tree name before after (visit_of name new) outcome)
    (λ _. HasRunOut tree name before after (visit_of name new))
visited_check plan profile tree old new name before after (Ok outcome) same check = (new, refl, rw same at check)
visited_check plan profile tree old new name before after (Err e) same nothing =
    (nothing.0, inr (ap (visit_of name) (nothing.1 ∙ same)))

-- a whole check has a status
pub check_status_is : (plan : Plan) (profile : Option SummedProfile) (tree : TreeState) (name : List ℕ)
    (before after : OutState) (visits : List Event) (n : ℕ)
    → IsWholeCheck plan profile tree name before after visits n → n ≤ 3
check_status_is plan profile tree name before after visits n check = grind arith

-- what checks give is a status
pub checks_status : (plan : Plan) (profile : Option SummedProfile) (tree_of : List ℕ → TreeState) (names : List (List ℕ))
    (before after : OutState) (visits : List Event) (n : ℕ)
    → AreChecksOf plan profile tree_of names before after visits n → n ≤ 3
checks_status plan profile tree_of names before after visits n checks = grind (arith, turns_status)

-- a check of a tar file has a status
pub tar_status_is : (plan : Plan) (profile : Option SummedProfile) (archive : ArchiveState) (name : List ℕ)
    (before after : OutState) (visits : List Event) (n : ℕ)
    → IsWholeTarCheck plan profile archive name before after visits n → n ≤ 3
tar_status_is plan profile archive name before after visits n (own, e, inl tree) =
    check_status_is plan profile tree.0 name before after own n tree.2
tar_status_is plan profile archive name before after visits n (own, e, inr none) = omega (arith, none.tells.tells.0)

-- what checks of tar files give is a status
pub tars_status : (plan : Plan) (profile : Option SummedProfile) (archived : List ℕ → ArchiveState) (names : List (List ℕ))
    (before after : OutState) (visits : List Event) (n : ℕ)
    → AreTarChecksOf plan profile archived names before after visits n → n ≤ 3
tars_status plan profile archived names before after visits n checks =
    turns_status (λ name. IsLastTarCheck plan profile (archived name) name)
    (λ name. IsWholeTarCheck plan profile (archived name) name)
    (λ name. tar_status_is plan profile (archived name) name) names before after visits n checks

-- whatever is checked by a plan, it has a status
pub status_as : (action : Action) (below : List ℕ → DiskState) (archived : List ℕ → ArchiveState) (plan : Plan)
    (profile : Option SummedProfile) (name : List ℕ) (before after : OutState) (visits : List Event) (n : ℕ)
    → IsWholeAs action below archived plan profile name before after visits n → n ≤ 3
status_as CheckTars below archived plan profile name before after visits n check =
    tar_status_is plan profile (archived name) name before after visits n check
status_as action below archived plan profile name before after visits n check =
    check_status_is plan profile (tree_state (below name) 0) name before after visits n check
