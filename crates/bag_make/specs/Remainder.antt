-- What is left of a making that was refused or cut off, where it has no fault.
use Rattle.std.specs.Prelude.{ℕ, ◌≡◌, ◌⊎◌, false, IsTrue, List, Some}
use Rattle.bag_text.specs.Bytes.{Content, Path}
use Rattle.bag_text.specs.Path.{is_payload_path, under}
use Rattle.bag_text.specs.declared.alg.Alg.{Alg}
use Rattle.bag_tree.specs.Bag.{Bag, IsBag, HasFile, file}
use Rattle.bag_faults.specs.declared.fault.Fault.{Fault}
use Rattle.bag_stages.specs.DeclarationStage.{IsOfDeclaration}
use Rattle.bag_stages.specs.TagFiles.{bagit_txt}
use Rattle.bag_tags.specs.Element.{NewElement}
use Rattle.bag_report.specs.Valid.{HasNoFault}
use Rattle.bag_make.specs.Made.{data_folder}
use Rattle.bag_make.specs.Make.{Leaves}
use Rattle.bag_make.specs.Plan.{is_in_the_way}
use Rattle.bag_make.specs.declared.fault.MakeFault.{MakeFault}

-- each file of the folder is whole below `data`
abbrev pub IsInPayload : Bag → Bag → Type 0
IsInPayload bag left =
    (path bytes : List ℕ) → file bag path ≡ Some bytes
    → file left (under data_folder path) ≡ Some bytes

-- the folder's own payload is whole at its place, and its own declaration is there
pub record StandsAsBefore (bag left : Bag) : Type 0 where
  pub payload : (path : Path) (bytes : Content) → IsTrue (is_payload_path path)
      → file bag path ≡ Some bytes → file left path ≡ Some bytes
  pub is_declared : HasFile left bagit_txt
  pub declaration : file left bagit_txt ≡ file bag bagit_txt

-- Where what is left has no fault, each file of the folder is in its payload, or the folder's own
-- payload and declaration stand as before.
abbrev pub LacksNoPayload : Bag → Bag → Type 0
LacksNoPayload bag left = HasNoFault left → IsInPayload bag left ⊎ StandsAsBefore bag left

-- the law: so it is with what a refused making leaves, where nothing was in its way
abbrev pub RemaindersLackNoPayload : Type 0
RemaindersLackNoPayload =
    (bag : Bag) (algs : List Alg) (info : List NewElement) (left : Bag) (fault : MakeFault)
    → IsBag bag → is_in_the_way bag ≡ false → Leaves algs info bag left fault
    → LacksNoPayload bag left

-- the folder's declaration has a fault, as where none is there
abbrev pub IsNotDeclared : Bag → Type 0
IsNotDeclared bag = (fault : Fault) × IsOfDeclaration bag fault

-- the law: where the folder didn't declare itself a bag, what is left without a fault has each of
-- its files in the payload
abbrev pub NewBagsLackNoFile : Type 0
NewBagsLackNoFile =
    (bag left : Bag) → IsNotDeclared bag → LacksNoPayload bag left → HasNoFault left
    → IsInPayload bag left
