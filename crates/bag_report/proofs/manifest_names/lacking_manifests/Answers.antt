use Rattle.bag_report.proofs.Conforming.{None, [], inl, inr, refl, ap, ◌∙◌, manifest_name, of_path}
use Rattle.std.proofs.lemmas.Bool.{both_ways}
use Rattle.bag_report.proofs.FaultSets.{all_items, one_next}
use Rattle.bag_report.proofs.Manifests.{lacking_all, lacking_fault, listed_as, IsLacking}
use Rattle.bag_report.proofs.manifest_names.lacking_manifests.Goals as goal

pub loop-name-preserved : goal.loop-name-preserved
loop-name-preserved c = λ bag facts.
    let name = c.name-item.result in
    let tells = c.has_manifest.ensures bag facts name (c.as_str.ensures ∙ c.in_ok-path.ensures) in
    one_next (lacking_fault bag c.args.profile.now c.args.kind)
    (IsLacking bag c.args.profile.now c.args.kind) c.listed-required.result.now c.loop-name.name-index name
    c.loop-name.faults.items
    c.loop-name-test.true c.name-item.is (c.loop-name.invariant bag facts) c.if-not-has_manifest.faults.items
    (elim c.if-not-has_manifest.branch [
      | goal.then-not-has_manifest+in_ok-about+in_ok-push w ↦ inl (
        w.in_ok-about.field-0,
        rw w.faults-is w.in_ok-push.ensures.items,
        w.in_ok-about.ensures ∙ ap (λ path. of_path c.required_code-code.result path None []) c.in_ok-path.ensures
            ∙ ap (λ code. of_path code (manifest_name c.args.kind name) None []) c.required_code-code.ensures,
        λ has. both_ways _ w.if-not-has_manifest.true (tells.1 has),
      )
      | goal.else-not-has_manifest w ↦ inr (rw w.faults-is refl, λ lacks. lacks (tells.0 w.if-not-has_manifest.false))
    ])

pub returns : goal.returns
returns c = λ bag facts.
    let profile = c.args.profile.now in
    let required = c.listed-required.result.now in
    lacking_all bag profile c.args.kind required c.loop-name.faults.items
    (listed_as profile c.args.kind required c.required_list.result c.required_list.ensures c.listed-required.ensures)
    (all_items (lacking_fault bag profile c.args.kind)
    (IsLacking bag profile c.args.kind) required c.loop-name.name-index c.loop-name.faults.items c.loop-name-test.false
    (c.loop-name.invariant bag facts))
