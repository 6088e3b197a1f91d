use Rattle.bag_report.proofs.Conforming.{inl, inr, refl, sym, ◌∙◌}
use Rattle.std.proofs.lemmas.Bool.{both_ways}
use Rattle.bag_report.proofs.FaultSets.{all_items, one_next}
use Rattle.bag_report.proofs.TagFiles.{lacking_all, lacking_fault, IsLacking}
use Rattle.bag_report.proofs.tag_files.lacking_tag_files.Goals as goal
use Rattle.bag_report.proofs.tag_files.lacking_tag_files.Goals.{then-not-has_file+in_ok-about+in_ok-push}
use Rattle.bag_report.proofs.tag_files.lacking_tag_files.Goals.{else-not-has_file}

pub loop-path-preserved : goal.loop-path-preserved
loop-path-preserved c = λ bag facts.
    let tells = rw c.as_str.ensures at (c.has_file.ensures bag facts) in
    one_next (lacking_fault bag c.args.profile.now)
    (IsLacking bag c.args.profile.now) c.listed-required.result.now c.loop-path.path-index c.path-item.result
    c.loop-path.faults.items
    c.loop-path-test.true c.path-item.is (c.loop-path.invariant bag facts) c.if-not-has_file.faults.items
    (elim c.if-not-has_file.branch [
      | then-not-has_file+in_ok-about+in_ok-push w ↦
          let fault = w.in_ok-about in
          inl (
            fault.field-0,
            rw w.faults-is w.in_ok-push.ensures.items,
            fault.ensures,
            λ has.
                both_ways _ w.if-not-has_file.true (tells ∙ has),
          )
      | else-not-has_file w ↦ inr (rw w.faults-is refl, λ lacks. lacks (sym tells ∙ w.if-not-has_file.false))
    ])

pub returns : goal.returns
returns c = λ bag facts.
    let profile = c.args.profile.now in
    let required = c.listed-required.result.now in
    lacking_all bag profile required c.loop-path.faults.items c.listed-required.ensures
    (all_items (lacking_fault bag profile) (IsLacking bag profile) required c.loop-path.path-index
    c.loop-path.faults.items c.loop-path-test.false (c.loop-path.invariant bag facts))
