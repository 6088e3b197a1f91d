use Rattle.bag_report.proofs.Conforming.{inl, inr, refl, TagFileNotAllowed, IsOtherTagFile}
use Rattle.std.proofs.lemmas.Bool.{both_ways}
use Rattle.bag_report.proofs.FaultSets.{all_items, one_next}
use Rattle.bag_report.proofs.FilesThere.{fault_of, HoldsOf}
use Rattle.bag_report.proofs.TagFiles.{other_all}
use Rattle.bag_report.proofs.tag_files.other_tag_files.Goals as goal
use Rattle.bag_report.proofs.tag_files.other_tag_files.Goals.{then-is_other_tag_file+in_ok-about+in_ok-push}
use Rattle.bag_report.proofs.tag_files.other_tag_files.Goals.{else-is_other_tag_file}

pub loop-entry-preserved : goal.loop-entry-preserved
loop-entry-preserved c =
    let other = IsOtherTagFile c.args.profile.now in
    let tells = rw c.as_str.ensures at c.is_other_tag_file.ensures in
    one_next (fault_of TagFileNotAllowed other)
    (HoldsOf TagFileNotAllowed other) c.files-files.result.now c.loop-entry.entry-index c.entry-item.result
    c.loop-entry.faults.items
    c.loop-entry-test.true c.entry-item.is c.loop-entry.invariant c.if-is_other_tag_file.faults.items
    (elim c.if-is_other_tag_file.branch [
      | then-is_other_tag_file+in_ok-about+in_ok-push w ↦
          inl (
            w.in_ok-about.field-0,
            rw w.faults-is w.in_ok-push.ensures.items,
            w.in_ok-about.ensures,
            tells.0 w.if-is_other_tag_file.true,
          )
      | else-is_other_tag_file w ↦ inr (
        rw w.faults-is refl,
        λ is.
            both_ways _ w.if-is_other_tag_file.false (tells.1 is),
      )
    ])

pub returns : goal.returns
returns c = λ bag facts.
    let files = c.files-files.result.now in
    let other = IsOtherTagFile c.args.profile.now in
    other_all bag c.args.profile.now files c.loop-entry.faults.items (rw c.files-files.ensures facts.listing.files)
    (all_items (fault_of TagFileNotAllowed other)
    (HoldsOf TagFileNotAllowed other) files c.loop-entry.entry-index c.loop-entry.faults.items c.loop-entry-test.false
    c.loop-entry.invariant)
