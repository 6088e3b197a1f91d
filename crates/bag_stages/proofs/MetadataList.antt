-- Every bag has a list of the faults of its metadata.
use Rattle.bag_stages.proofs.Common.{◌≡◌, ◌⊎◌, ℕ, List, [], ◌∷◌, Bool, true, false, refl, enumerate_from, is_utf8}
use Rattle.bag_stages.proofs.Common.{lines_of_file, IsInfoFault, AreFaults, not_utf8, LineFault, Element, elements_of}
use Rattle.bag_stages.proofs.Common.{Bag, file, rules_in, HasList, bag_info_txt, IsOfMetadata, FaultsAreListed}
use Rattle.bag_stages.proofs.Common.{oxums, oxum_faults, oxum, lines_in, None}
use Rattle.bag_read.specs.InfoReader as reading
use Rattle.bag_read.proofs.InfoFaults.{faults_of_text, faults_of_no_text}
use Rattle.bag_stages.proofs.HasLists.{either, same_set}
use Rattle.bag_stages.proofs.InFile.{lines_have_list}
use Rattle.bag_stages.proofs.MetadataFaults.{OfLine, line_tells, of_some, some_is}
use Rattle.bag_stages.proofs.OxumFaults.{IsOfOxum, oxum_listed}

-- the faults of the lines of any bytes
line_faults : (bag : Bag) (bytes : List ℕ) (b : Bool) → is_utf8 bytes ≡ b
    → (faults : List LineFault) × AreFaults (IsInfoFault (rules_in bag) bytes) faults
line_faults bag bytes true e = (
  reading.faults (rules_in bag) false (enumerate_from 1 (lines_of_file bytes)),
  faults_of_text (rules_in bag) bytes e,
)
line_faults bag bytes false e = (not_utf8 ∷ [], faults_of_no_text (rules_in bag) bytes e)

of_oxums : (bag : Bag) → HasList (IsOfOxum bag)
of_oxums bag =
    let all = lines_in bag bag_info_txt in
    let elements : List Element = reading.elements (rules_in bag) (enumerate_from 1 all) in (
      oxum_faults bag_info_txt (oxum bag) (oxums elements),
      (oxum_listed bag elements (elements_of (rules_in bag) all)).members,
    )

pub metadata_faults_are_listed : FaultsAreListed IsOfMetadata
metadata_faults_are_listed bag =
    same_set (λ f. IsOfOxum bag f ⊎ OfLine bag f) (IsOfMetadata bag) (some_is bag) (of_some bag)
    (either (IsOfOxum bag) (OfLine bag) (of_oxums bag)
    (lines_have_list bag bag_info_txt None 3 (IsInfoFault (rules_in bag)) is_utf8 (line_tells bag)
    (λ bytes. line_faults bag bytes (is_utf8 bytes) refl) (file bag bag_info_txt) refl))
