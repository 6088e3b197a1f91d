-- What making a bag leaves.
use Rattle.bag_make.proofs.Common.{arith, ◌≡◌, inl, inr, ◌++◌, List, false, IsTrue, map, All, false_from_ne_true}
use Rattle.bag_make.proofs.Common.{rank_cmp, Alg, IsBag, files_of, TreeState, Keeps, NewElement, File, MadeIsValid}
use Rattle.bag_make.proofs.Common.{CanAsk, HasKnownSize, HasMade, HasNoFault, Leaves, MayRefuseMaking, is_in_the_way}
use Rattle.bag_make.proofs.Common.{steps, AreTexts, HasLeft, HasTaken, MakeFault, Step, Create}
use Rattle.std.specs.List.Sorted.{IsStrictlySortedBy}
use Rattle.std.specs.Prelude.{◌≤◌}
use Rattle.bag_tree.specs.Changes.{IsUnchanged}
use Rattle.bag_make.specs.declared.fault.MakeFault.TheVariants as fault_of
use Rattle.bag_make.proofs.StepsMake.{steps_make}

module _ (algs : List Alg) (info : List NewElement) (old mid new : TreeState) (planned : List Step)
    (is_bag : IsBag old.bag) (keeps : Keeps old mid)
    (are : IsTrue old.honest → (planned ≡ steps old.bag algs info) × (is_in_the_way old.bag ≡ false))
    (taken : HasTaken planned mid new) where
  -- all steps make the bag
  pub has_made : CanAsk algs info → All AreTexts info → IsStrictlySortedBy rank_cmp algs
      → (IsTrue old.honest → IsTrue old.plain) → mid.failures ≡ old.failures
      → (IsTrue old.honest → mid.openings ≡ old.openings ++ map (λ (e : File). e.0) (files_of old.bag))
      → HasMade algs info old new
  has_made asked texts ascend plain no_failure opened = grind (arith, steps_make, false_from_ne_true)

-- and it has no fault
pub made_has_no_fault : MadeIsValid → (algs : List Alg) (info : List NewElement) (old new : TreeState) → IsBag old.bag
    → HasMade algs info old new → IsTrue old.honest → HasKnownSize old.bag
    → HasNoFault new.bag
made_has_no_fault law algs info old new is_bag h honest can = grind arith

-- what a refused step leaves of the rest
abbrev IsAsBefore : TreeState → TreeState → Type 0
IsAsBefore old new =
    (new.honest ≡ old.honest) × (old.failures ≤ new.failures) × (new.noted ≡ old.noted) × (new.openings ≡ old.openings)

of_unchanged : (old new : TreeState) → IsUnchanged old new → IsAsBefore old new
of_unchanged old new same = (same.keeps.honest, same.keeps.failures, same.keeps.noted, same.openings)

pub left_so : (step : Step) (before new : TreeState) → HasLeft step before new → IsAsBefore before new
left_so (Create name bytes) before new (inl left) = of_unchanged before new left
left_so (Create name bytes) before new (inr left) =
    (left.begun.honest, left.begun.failures, left.begun.noted, left.begun.openings)
left_so _ before new left = of_unchanged before new left

-- where it was refused before a step
pub leaves_bag : (algs : List Alg) (info : List NewElement) (old new : TreeState) (fault : MakeFault)
    → MayRefuseMaking algs info old new fault → IsTrue old.honest → Leaves algs info old.bag new.bag fault
leaves_bag algs info old new fault_of.InTheWay h honest = h.1.keeps.bag
leaves_bag algs info old new (fault_of.StepRefused place cause) (asked, h) honest = grind arith
leaves_bag algs info old new _ h honest = h.1.bag
