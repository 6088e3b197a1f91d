-- What is known of a folder after a making, by what is to be done then.
use Rattle.std.specs.Prelude.{ℕ, ◌≡◌, ◌⊎◌, ◌-◌, IsTrue, List, [], ◌∷◌, Result, codes}
use Rattle.std.specs.declared.result.Result.TheVariants.{Ok, Err}
use Rattle.bag_text.specs.declared.alg.Alg.{Alg}
use Rattle.bag_text.specs.declared.alg.Alg.TheVariants.{Sha256, Sha512}
use Rattle.bag_tree.specs.Tree.{TreeState, Keeps}
use Rattle.bag_report.specs.Valid.{HasNoFault}
use Rattle.bag_make.specs.Make.{HasBegunFile, HasKnownSize, HasMade}
use Rattle.bag_make.specs.Plan.{after}
use Rattle.bag_make.specs.declared.fault.MakeFault.{MakeFault}
use Rattle.bag_make.specs.declared.fault.MakeFault.TheVariants.{NoAlgorithm, InTheWay, BadValue}
use Rattle.bag_make.specs.declared.fault.MakeFault.TheVariants.{ReadStopped, Memory, StepRefused}
use Rattle.example_calls.specs.declared.making.Advice.{Advice}
use Rattle.example_calls.specs.declared.making.Advice.TheVariants.{Done, AskOtherwise, ClearTheWay}
use Rattle.example_calls.specs.declared.making.Advice.TheVariants.{TryAgain, MoveBack}

-- SHA-256 and SHA-512
abbrev pub two_algs : List Alg
two_algs = Sha256 ∷ Sha512 ∷ []

-- the element that names whom to ask
abbrev pub contact_element : List ℕ → List (List ℕ × List ℕ)
contact_element contact = (codes "Contact-Name", contact) ∷ []

-- the folder is the bag that is made of it, without a fault where its size can be known
pub record IsMadeFor (contact : List ℕ) (old new : TreeState) : Type 0 where
  pub made : HasMade two_algs (contact_element contact) old new
  pub valid : IsTrue old.honest → HasKnownSize old.bag → HasNoFault new.bag

-- the folder is the bag; or the steps before this one were taken, and a file of it may be begun; or
-- nothing was changed
abbrev pub IsAdvised : List ℕ → TreeState → TreeState → Advice → Type 0
IsAdvised contact old new Done = IsMadeFor contact old new
IsAdvised contact old new (MoveBack place) = IsTrue old.honest
    → (new.bag ≡ after (place - 1) old.bag two_algs (contact_element contact))
    ⊎ HasBegunFile two_algs (contact_element contact) old.bag new.bag place
IsAdvised contact old new advice = Keeps old new

-- what the answer of a making asks for
abbrev pub advice_of : Result (Unit {0}) MakeFault → Advice
advice_of (Ok _) = Done
advice_of (Err NoAlgorithm) = AskOtherwise
advice_of (Err BadValue) = AskOtherwise
advice_of (Err InTheWay) = ClearTheWay
advice_of (Err (ReadStopped _)) = TryAgain
advice_of (Err Memory) = TryAgain
advice_of (Err (StepRefused place _)) = MoveBack place
