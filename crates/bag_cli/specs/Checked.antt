-- What checks write, and the exit status after them.
use Rattle.std.specs.Prelude.{ℕ, ◌≡◌, ◌⊎◌, ⊤, List, [], ◌∷◌, codes, false}
use Rattle.std.specs.Prelude.{Option, Some, None, option_map}
use Rattle.bag_tree.specs.Out.{OutState}
use Rattle.bag_tree.specs.Tree.{TreeState}
use Rattle.bag_program.specs.Visits.{visit_of, Event, Asked, Closed, Entered, NotGiven, Left, Read, Opened, Shut}
use Rattle.bag_faults.specs.Part.{Part as PartValue}
use Rattle.bag_walk.specs.declared.outcome.Request.{Request}
use Rattle.bag_profile.specs.Profile.{Profile}
use Rattle.bag_walk.specs.PartRuns.{IsRunOfPart}
use Rattle.bag_walk.specs.WholeRun.{IsRunOver}
use Rattle.bag_arguments.specs.declared.plan.Plan.{Plan}
use Rattle.bag_program.specs.InTurn.{AreInTurn, Deed}
use Rattle.bag_cli.specs.Status.{check_status}
use Rattle.bag_cli.specs.declared.check_outcome.CheckOutcome.{CheckOutcome}
use Rattle.bag_cli.specs.declared.check_outcome.CheckOutcome.TheVariants.{OfBag, OfPart}
use Rattle.bag_cli.specs.Sample.{sample_state}
use Rattle.bag_cli.specs.declared.profile_file.SummedProfile.{SummedProfile}

-- what a plan's check of the bag of this name asks for
abbrev pub request_of : Plan → List ℕ → Request
request_of plan name = record {
  options = plan.options;
  after = plan.after;
  limit = plan.limit;
  quiet = plan.quiet;
  name = name;
}

-- the profile that was read, and the SHA-256 of the bytes that it was read from
abbrev pub profile_of : Option SummedProfile → Option Profile
profile_of read = option_map (λ read. read.profile) read

abbrev pub sum_of : Option SummedProfile → Option (List ℕ)
sum_of read = option_map (λ read. read.sum) read

-- a check of a tree's bag, or of a part of it where one is asked for
abbrev pub IsCheckBy : Option PartValue → Option SummedProfile → TreeState → TreeState → Request
    → OutState → OutState → CheckOutcome → Type 0
IsCheckBy None profile tree new request before after (OfBag outcome) =
    IsRunOver tree new (profile_of profile) request before after outcome
IsCheckBy (Some part) profile tree new request before after (OfPart outcome) =
    IsRunOfPart tree new (profile_of profile) (sum_of profile) part request before after outcome
IsCheckBy part profile tree new request before after outcome = ⊥

-- a check of a tree
abbrev pub IsCheckOf : Plan → Option SummedProfile → TreeState → TreeState → List ℕ
    → OutState → OutState → CheckOutcome → Type 0
IsCheckOf plan profile tree new name before after outcome =
    IsCheckBy plan.part profile tree new (request_of plan name) before after outcome

-- a check of the tree that was given for a folder, and that was left as the check leaves it
abbrev pub IsVisitToCheck : Plan → Option SummedProfile → TreeState → List ℕ
    → OutState → OutState → List Event → CheckOutcome → Type 0
IsVisitToCheck plan profile tree name before after visits outcome =
    (new : TreeState) × (visits ≡ visit_of name new)
    × IsCheckOf plan profile tree new name before after outcome

-- a check whose whole report was written, its visit, and its status
pub record IsWholeCheck (plan : Plan) (profile : Option SummedProfile) (tree : TreeState)
    (name : List ℕ) (before after : OutState) (visits : List Event) (n : ℕ) : Type 0 where
  pub outcome : CheckOutcome
  pub check : IsVisitToCheck plan profile tree name before after visits outcome
  -- the output took the whole report
  pub status_is : check_status outcome ≡ Some n

-- Memory ran out for a folder, and nothing was written: it was asked for and couldn't be given, or
-- it was given, and its tree was left as it was.
abbrev pub HasRunOut : TreeState → List ℕ → OutState → OutState → List Event → Type 0
HasRunOut tree name before after visits =
    (after ≡ before) × ((visits ≡ NotGiven name ∷ []) ⊎ (visits ≡ visit_of name tree))

-- a check that is the last: the output refused, or memory ran out for the folder, which was asked
-- for
abbrev pub IsLastCheck : Plan → Option SummedProfile → TreeState → List ℕ
    → OutState → OutState → List Event → Type 0
IsLastCheck plan profile tree name before after visits =
    ((outcome : CheckOutcome) × (check_status outcome ≡ None)
    × IsVisitToCheck plan profile tree name before after visits outcome)
    ⊎ HasRunOut tree name before after visits

-- The checks of the bags of these names in the trees that they name, one after the other, each with
-- the plan's limit. After one that couldn't be read or has faults comes the next; after one that
-- couldn't be written comes none.
abbrev pub AreChecksOf : Plan → Option SummedProfile → (List ℕ → TreeState) → List (List ℕ) → Deed
AreChecksOf plan profile tree_of names before after visits n =
    AreInTurn (λ name. IsLastCheck plan profile (tree_of name) name)
    (λ name. IsWholeCheck plan profile (tree_of name) name)
    names before after visits n

-- no device had failed when its tree was left
abbrev pub HaveNoFailure : List Event → Type 0
HaveNoFailure [] = ⊤
HaveNoFailure (Entered name ∷ visits) = HaveNoFailure visits
HaveNoFailure (NotGiven name ∷ visits) = HaveNoFailure visits
HaveNoFailure (Left state ∷ visits) = (state.failures ≡ 0) × HaveNoFailure visits
HaveNoFailure (Read path answer ∷ visits) = HaveNoFailure visits
HaveNoFailure (Opened path ∷ visits) = HaveNoFailure visits
HaveNoFailure (Shut state ∷ visits) = (state.failures ≡ 0) × HaveNoFailure visits
HaveNoFailure (Asked paths ∷ visits) = HaveNoFailure visits
HaveNoFailure (Closed state ∷ visits) = (state.has_failed ≡ false) × HaveNoFailure visits

-- The sample was checked, as a folder of its name would be, and its device never fails. It is held
-- in memory: these visits are none of a folder.
abbrev pub IsSampleChecked : Plan → OutState → OutState → ℕ → Type 0
IsSampleChecked plan before after n =
    (visits : List Event) × HaveNoFailure visits
    × AreChecksOf plan None (λ _. sample_state) (codes "sample" ∷ []) before after visits n
