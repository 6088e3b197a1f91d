-- What a making promises, by what is to be done then.
use Rattle.std.specs.Prelude.{ℕ, List, Result}
use Rattle.std.specs.declared.result.Result.TheVariants.{Ok, Err}
use Rattle.bag_tree.specs.Tree.{TreeState}
use Rattle.bag_make.specs.WholeMaking.{IsMake}
use Rattle.bag_make.specs.declared.fault.MakeFault.{MakeFault}
use Rattle.bag_make.specs.declared.fault.MakeFault.TheVariants.{NoAlgorithm, InTheWay, BadValue}
use Rattle.bag_make.specs.declared.fault.MakeFault.TheVariants.{ReadStopped, Memory, StepRefused}
use Rattle.example_calls.specs.Making.{IsAdvised, advice_of, contact_element, two_algs}

module _ (contact : List ℕ) (old new : TreeState) where
  pub is_advised : (made : Result (Unit {0}) MakeFault) → IsMake two_algs (contact_element contact) old new made
      → IsAdvised contact old new (advice_of made)
  is_advised (Ok _) make = record { made = make.made; valid = make.valid }
  is_advised (Err NoAlgorithm) make = make.refused.1
  is_advised (Err BadValue) make = make.refused.1
  is_advised (Err InTheWay) make = make.refused.1.keeps
  is_advised (Err (ReadStopped _)) make = make.refused.1
  is_advised (Err Memory) make = make.refused.1
  is_advised (Err (StepRefused _ _)) make = make.leaves
