-- Stage 1: what is a fault of the declaration (RFC 8493, 2.1.1).
use Rattle.std.specs.Prelude.{[], None}
use Rattle.bag_text.specs.declared.code.Code.{Code}
use Rattle.bag_text.specs.declared.code.Code.TheVariants as code
use Rattle.bag_read.specs.Declaration.{IsDeclarationFault}
use Rattle.bag_tree.specs.Bag.{Bag, LacksFile}
use Rattle.bag_faults.specs.declared.fault.Fault.{Fault}
use Rattle.bag_stages.specs.FaultFields.{At, InFile}
use Rattle.bag_stages.specs.TagFiles.{bagit_txt}

-- what a code says of a bag and the other fields of the fault
module _ (bag : Bag) (f : Fault) where
  -- bagit.txt is there, and wrong as `DeclarationFault` says of the code
  abbrev pub InDeclaration : Type 0
  InDeclaration = InFile bag f bagit_txt None IsDeclarationFault

  unfoldable pub DeclarationHolds : Code → Type 0
  -- there is no bagit.txt
  DeclarationHolds code.NoDeclaration = At f bagit_txt None 0 [] × LacksFile bag bagit_txt
  -- its bytes aren't UTF-8, or begin with a byte order mark
  DeclarationHolds code.DeclarationNotUtf8 = InDeclaration
  -- it hasn't two lines
  DeclarationHolds code.DeclarationLineCount = InDeclaration
  -- line 1 declares no version, or line 2 no encoding
  DeclarationHolds code.DeclarationLine = InDeclaration
  -- line 1 declares a version that isn't known
  DeclarationHolds code.VersionUnsupported = InDeclaration
  -- line 2 declares another encoding than UTF-8
  DeclarationHolds code.EncodingUnsupported = InDeclaration
  -- codes of other stages
  DeclarationHolds other = ⊥

-- the fault is one of the bag's declaration: what its code says holds
unfoldable pub IsOfDeclaration : Bag → Fault → Type 0
IsOfDeclaration bag f = DeclarationHolds bag f f.code
