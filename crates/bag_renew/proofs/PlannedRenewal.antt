-- What is read and composed for a renewal are its changes.
use Rattle.bag_renew.proofs.Common.{◌≡◌, ◌∙◌, inr, ℕ, false, is_some, IsTrue, List, Option, File, FileChange, Renewal}
use Rattle.bag_renew.proofs.Common.{changes, files_of, new_algs, writes_info}
use Rattle.bag_text.specs.Lines.{lines_of_file}
use Rattle.bag_facts.specs.FactsOfBag.{IfBagRead}
use Rattle.bag_facts.specs.declared.facts.Facts.{Facts}
use Rattle.bag_tree.specs.Tree.{TreeState}
use Rattle.bag_changes.specs.Composing.{AreOfFiles}
use Rattle.bag_changes.specs.NewInfo.{IsInfoAfter}
use Rattle.bag_changes.specs.Planned.{ChangesCompared, changes_from}
use Rattle.bag_changes.specs.Reading.{HasReadBag, MayRefuseReading}
use Rattle.bag_renew.specs.Renew.{HasPlanned}
use Rattle.bag_renewed.specs.Renewed.{reads_payload}
use Rattle.bag_renewed.specs.Request.{is_bad_request}
use Rattle.bag_checked.specs.Summed.{AreSummedBy, files_to_read}
use Rattle.bag_changes.specs.declared.fault.RenewFault.TheVariants.{Memory}
use Rattle.bag_tags.specs.declared.summed.SummedFile.{SummedFile}
use Rattle.bag_changes.proofs.ComposedChanges.{changes_of_bag}
use Rattle.bag_changes.proofs.DroppedManifests.{read_to_drop}
use Rattle.bag_renew.proofs.ReadForRenewal.{deep, new_info, read_for_renewal}

module _ (renewal : Renewal) (old new : TreeState) (facts : Facts) (summed : List SummedFile) (read : List ℕ)
    (has : HasReadBag renewal old new facts summed read) where
  pub no_memory : MayRefuseReading renewal old new Memory
  no_memory = inr has.read.no_failure

  module _ (info : Option (List ℕ))
      (is_info : IfBagRead facts (λ bag. IsInfoAfter bag renewal (lines_of_file read) info)) (made : List FileChange)
      (is : IfBagRead facts (λ bag. (files : List File) → AreSummedBy (new_algs bag renewal) files summed
      → made ≡ changes_from bag renewal files info)) where
    -- over any tree they are of the files that were read
    compared : ChangesCompared renewal old new made
    compared =
        let bag = has.seen.0 in
        let far = deep renewal old new facts summed read has in
        let after = is_info bag has.seen.2 far in record {
          bag = bag;
          files = has.files;
          compared = has.compared;
          old_info = read;
          old_info_is = has.info_of;
          info = info;
          info_is = after;
          changes_are = is bag has.seen.2 far has.files (has.summed_of bag has.seen.2);
        }

    -- of an honest tree they are those of the bag
    of_bag : IsTrue old.honest → made ≡ changes old.bag renewal
    of_bag honest =
        let new_one = new_info renewal old new facts summed read has honest info is_info in
        is old.bag (has.of_bag honest) (deep renewal old new facts summed read has)
        (files_to_read (reads_payload old.bag renewal) (files_of old.bag)) (has.sums honest)
        ∙ changes_of_bag old.bag renewal info new_one

    pub planned : is_bad_request renewal.elements ≡ false → AreOfFiles made → HasPlanned renewal old new made
    planned good of_files = record {
      asked = good;
      read = read_for_renewal renewal old new facts summed read has info good is_info;
      dropped = λ honest compared alg is. has.read.valid honest (read_to_drop old.bag renewal compared alg is);
      changes_are = of_bag;
      of_files = of_files;
      compared = compared;
    }
