-- Every bag has a list of the faults of its declaration.
use Rattle.bag_stages.proofs.Common.{◌≡◌, ◌⊎◌, ℕ, List, [], ◌∷◌, Bool, true, false, None, refl, is_utf8, lines_of_file}
use Rattle.bag_stages.proofs.Common.{IsDeclarationFault, AreFaults, LineFault, LacksFile, file, has_file}
use Rattle.bag_stages.proofs.Common.{IsOfDeclaration, FaultsAreListed, bagit_txt}
use Rattle.bag_read.specs.DeclarationFaults.{utf8_fault, text_faults}
use Rattle.bag_read.proofs.DeclarationFaults.{faults_of_text, faults_of_no_text}
use Rattle.bag_stages.proofs.DeclarationFaults.{IsNone, OfLine, line_tells, no_declaration, of_some, some_is}
use Rattle.bag_stages.proofs.HasLists.{either, false_or_not, one_where, same_set}
use Rattle.bag_stages.proofs.InFile.{lines_have_list}

-- the faults of the lines of any bytes
line_faults : (bytes : List ℕ) (b : Bool) → is_utf8 bytes ≡ b
    → (faults : List LineFault) × AreFaults (IsDeclarationFault bytes) faults
line_faults bytes true e = (text_faults bytes (lines_of_file bytes), faults_of_text bytes e)
line_faults bytes false e = (utf8_fault ∷ [], faults_of_no_text bytes e)

pub declaration_faults_are_listed : FaultsAreListed IsOfDeclaration
declaration_faults_are_listed bag =
    same_set (λ f. IsNone bag f ⊎ OfLine bag f) (IsOfDeclaration bag) (some_is bag) (of_some bag)
    (either (IsNone bag) (OfLine bag)
    (one_where no_declaration (LacksFile bag bagit_txt) (false_or_not (has_file bag bagit_txt)))
    (lines_have_list bag bagit_txt None 1 IsDeclarationFault (λ b. true) line_tells
    (λ bytes. line_faults bytes (is_utf8 bytes) refl) (file bag bagit_txt) refl))
