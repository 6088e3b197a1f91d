-- What making a bag leaves, and how it is refused.
use Rattle.std.specs.Prelude.{ℕ, ◌≡◌, ◌≢◌, ◌⊎◌, ◌<◌, ◌^◌, ◌-◌, ◌++◌, true, false, IsTrue, List, []}
use Rattle.std.specs.Prelude.{Some, All, map, take, slice_get, sum_by, length}
use Rattle.std.specs.List.{list_any}
use Rattle.std.specs.List.Sorted.{IsStrictlySortedBy}
use Rattle.bag_text.specs.Alg.{rank_cmp}
use Rattle.bag_text.specs.declared.alg.Alg.{Alg}
use Rattle.bag_tree.specs.Bag.{Bag, files_of, has_folder}
use Rattle.bag_tree.specs.Tree.{TreeState, Keeps}
use Rattle.bag_tree.specs.declared.tree_fault.TreeFault.{TreeFault}
use Rattle.bag_tags.specs.Element.{AreTexts, NewElement}
use Rattle.bag_tree.specs.Steps.{create}
use Rattle.bag_make.specs.Made.{made}
use Rattle.bag_make.specs.Request.{is_refused, IsRequestFault}
use Rattle.bag_make.specs.Plan.{after, is_in_the_way, steps}
use Rattle.bag_make.specs.Reading.{HasOnlyListed, LackedMemory}
use Rattle.bag_make.specs.Steps.{HasStopped, new_folder}
use Rattle.bag_make.specs.Stops.{MayStopMaking}
use Rattle.bag_make.specs.declared.fault.MakeFault.{MakeFault}
use Rattle.bag_make.specs.declared.fault.MakeFault.TheVariants.{NoAlgorithm, InTheWay, BadValue}
use Rattle.bag_make.specs.declared.fault.MakeFault.TheVariants.{ReadStopped, Memory, StepRefused}
use Rattle.bag_make.specs.declared.step.Step.{Step}
use Rattle.bag_make.specs.declared.step.Step.TheVariants.{Create}

-- there is an algorithm, and all elements can be given
abbrev pub CanAsk : List Alg → List NewElement → Type 0
CanAsk algs info = (algs ≢ []) × (list_any is_refused info ≡ false)

-- The bag was made: of an honest tree this one, where nothing had the name of the folder that holds
-- the files meanwhile. Each file of the folder was opened once, in path order, and no other. The
-- device didn't fail. A set names each algorithm once.
pub record HasMade (algs : List Alg) (info : List NewElement) (old new : TreeState) : Type 0 where
  pub asked : CanAsk algs info
  pub texts : All AreTexts info
  pub ascend : IsStrictlySortedBy rank_cmp algs
  pub bag : IsTrue old.honest → new.bag ≡ made old.bag algs info
  pub free : IsTrue old.honest
      → (is_in_the_way old.bag ≡ false) × (has_folder old.bag new_folder ≡ false)
  pub plain : IsTrue old.honest → IsTrue old.plain × IsTrue new.plain
  pub failures : new.failures ≡ old.failures
  pub openings : IsTrue old.honest
      → new.openings ≡ old.openings ++ map (λ e. e.0) (files_of old.bag)

-- The steps up to the one that was refused were taken, when all was read, each file once and in
-- path order, the device hadn't failed and the bag was as before. The cause is the tree's answer,
-- and one that the step may be refused for.
pub record HasStoppedAt (algs : List Alg) (info : List NewElement) (old new : TreeState) (place : ℕ)
    (cause : TreeFault) : Type 0 where
  pub free : IsTrue old.honest → is_in_the_way old.bag ≡ false
  pub planned : List Step
  pub steps : IsTrue old.honest → planned ≡ steps old.bag algs info
  pub read : TreeState
  pub keeps : Keeps old read
  pub failures : read.failures ≡ old.failures
  pub openings : IsTrue old.honest
      → new.openings ≡ old.openings ++ map (λ e. e.0) (files_of old.bag)
  pub stopped : HasStopped planned read new (record { place = place; cause = cause })

-- When each refusal comes. Each but that of a step leaves the tree's bag as it was.
abbrev pub MayRefuseMaking : List Alg → List NewElement → TreeState → TreeState → MakeFault → Type 0
MayRefuseMaking algs info old new NoAlgorithm = IsRequestFault algs info NoAlgorithm × Keeps old new
MayRefuseMaking algs info old new BadValue = IsRequestFault algs info BadValue × Keeps old new
MayRefuseMaking algs info old new InTheWay =
    CanAsk algs info × HasOnlyListed old new × (IsTrue old.honest → is_in_the_way old.bag ≡ true)
MayRefuseMaking algs info old new (ReadStopped stop) =
    CanAsk algs info × Keeps old new × MayStopMaking old new stop
MayRefuseMaking algs info old new Memory = CanAsk algs info × Keeps old new × LackedMemory old new
MayRefuseMaking algs info old new (StepRefused place cause) =
    CanAsk algs info × HasStoppedAt algs info old new place cause

-- the file that a step makes is begun
abbrev pub HasBegunFile : List Alg → List NewElement → Bag → Bag → ℕ → Type 0
HasBegunFile algs info old new place =
    (name bytes : List ℕ) × (count : ℕ)
    × (slice_get (steps old algs info) (place - 1) ≡ Some (Create name bytes))
    × (new ≡ create name (take count bytes) (after (place - 1) old algs info))

-- A refused step leaves what the steps before it made, and of itself nothing, but that a file may
-- be begun. Any other refusal leaves the bag as it was.
abbrev pub Leaves : List Alg → List NewElement → Bag → Bag → MakeFault → Type 0
Leaves algs info old new (StepRefused place cause) = (new ≡ after (place - 1) old algs info)
    ⊎ HasBegunFile algs info old new place
Leaves algs info old new fault = new ≡ old

-- the number of the files and their bytes together can be known
pub record HasKnownSize (bag : Bag) : Type 0 where
  pub count : length (files_of bag) < 2 ^ 64
  pub size : sum_by (λ e. length e.1) (files_of bag) < 2 ^ 64
