-- Laws about makings.
use Rattle.std.specs.Prelude.{◌≡◌, false, List, All}
use Rattle.bag_text.specs.Bytes.{Path}
use Rattle.bag_text.specs.declared.alg.Alg.{Alg}
use Rattle.bag_tree.specs.Bag.{Bag, IsBag, has_folder}
use Rattle.bag_tags.specs.Element.{AreTexts, NewElement}
use Rattle.bag_make.specs.Made.{made}
use Rattle.bag_make.specs.Make.{CanAsk, HasKnownSize}
use Rattle.bag_make.specs.Steps.{new_folder, after_steps}
use Rattle.bag_tree.specs.Tree.{TreeState}
use Rattle.bag_make.specs.Plan.{is_in_the_way, steps}
use Rattle.std.specs.List.Sorted.{IsStrictlySortedBy}
use Rattle.bag_text.specs.Alg.{rank_cmp}
use Rattle.bag_report.specs.Valid.{HasNoFault}
use Rattle.bag_facts.specs.StopsAmong.{IsRefusedAmong}

-- what a bag is made of: files that can be counted, a set of algorithms that isn't empty, and
-- elements that can be written
pub record CanMake (bag : Bag) (algs : List Alg) (info : List NewElement) : Type 0 where
  pub is_bag : IsBag bag
  pub asked : CanAsk algs info
  pub ascending : IsStrictlySortedBy rank_cmp algs
  pub texts : All AreTexts info
  pub known : HasKnownSize bag

-- the law: a bag that was made has no fault
abbrev pub MadeIsValid : Type 0
MadeIsValid =
    (bag : Bag) (algs : List Alg) (info : List NewElement) → CanMake bag algs info
    → HasNoFault (made bag algs info)

-- the law: a refusal can be reported of one file alone
abbrev pub RefusesOneFile : Type 0
RefusesOneFile =
    (paths : List Path) (old new : TreeState) (one other : Path) → IsRefusedAmong paths old new one
    → IsRefusedAmong paths old new other → one ≡ other

-- the law: all steps make the bag
abbrev pub StepsMake : Type 0
StepsMake =
    (bag : Bag) (algs : List Alg) (info : List NewElement)
    → IsBag bag → is_in_the_way bag ≡ false → has_folder bag new_folder ≡ false
    → after_steps (steps bag algs info) bag ≡ made bag algs info
