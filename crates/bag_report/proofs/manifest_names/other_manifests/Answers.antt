use Rattle.bag_report.proofs.Conforming.{None, [], inl, inr, refl, ap, ◌∙◌, of_path, other_code, IsOtherManifest}
use Rattle.std.proofs.lemmas.Bool.{both_ways}
use Rattle.bag_report.proofs.FaultSets.{all_items, one_next}
use Rattle.bag_report.proofs.FilesThere.{fault_of, HoldsOf}
use Rattle.bag_report.proofs.Manifests.{other_all}
use Rattle.bag_report.proofs.manifest_names.other_manifests.Goals as goal

pub loop-entry-preserved : goal.loop-entry-preserved
loop-entry-preserved c =
    let entry = c.entry-item.result in
    let other = IsOtherManifest c.args.profile.now c.args.kind in
    let tells = rw c.as_str.ensures at c.is_other_manifest.ensures in
    one_next (fault_of (other_code c.args.kind) other)
    (HoldsOf (other_code c.args.kind) other) c.files-files.result.now c.loop-entry.entry-index entry
    c.loop-entry.faults.items
    c.loop-entry-test.true c.entry-item.is c.loop-entry.invariant c.if-is_other_manifest.faults.items
    (elim c.if-is_other_manifest.branch [
      | goal.then-is_other_manifest+in_ok-about+in_ok-push w ↦ inl (
        w.in_ok-about.field-0,
        rw w.faults-is w.in_ok-push.ensures.items,
        w.in_ok-about.ensures ∙ ap (λ code. of_path code entry.path None []) c.other_code-code.ensures,
        tells.0 w.if-is_other_manifest.true,
      )
      | goal.else-is_other_manifest w ↦ inr (
        rw w.faults-is refl,
        λ is.
            both_ways _ w.if-is_other_manifest.false (tells.1 is),
      )
    ])

pub returns : goal.returns
returns c = λ bag facts.
    let files = c.files-files.result.now in
    let other = IsOtherManifest c.args.profile.now c.args.kind in
    other_all bag c.args.profile.now c.args.kind files c.loop-entry.faults.items
    (rw c.files-files.ensures facts.listing.files)
    (all_items (fault_of (other_code c.args.kind) other)
    (HoldsOf (other_code c.args.kind) other) files c.loop-entry.entry-index c.loop-entry.faults.items
    c.loop-entry-test.false c.loop-entry.invariant)
