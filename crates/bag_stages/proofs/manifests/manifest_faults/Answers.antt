use Rattle.bag_stages.proofs.Common.{[], List, Fault, sym, append-nil, Contains, IsSaidOfTagFile, items_ascend, on}
use Rattle.bag_stages.proofs.Common.{path_of, text_cmp}
use Rattle.bag_stages.proofs.ByItem.{all_items, no_items, one_item_more}
use Rattle.bag_stages.proofs.ManifestFaults.{OfTag, all_tags_listed, less_tags, no_manifest_listed, of_manifest_listed}
use Rattle.bag_stages.proofs.manifests.manifest_faults.Goals as goal
use Rattle.bag_stages.proofs.manifests.manifest_faults.Goals.{in-Manifest+in_ok-of_manifest+in_ok-append, in_default}

pub loop-tag-init : goal.loop-tag-init
loop-tag-init c = λ bag facts. rw c.new-faults.ensures.items (no_items (OfTag bag))

pub loop-tag-preserved : goal.loop-tag-preserved
loop-tag-preserved c = λ bag facts.
    let tag = c.tag-item.result in
    let before = c.loop-tag.faults.items in
    let here : Contains c.as_slice-tag-items.result.now tag =
    (c.loop-tag.tag-index, c.loop-tag-test.true, sym c.tag-item.is) in
    let said : IsSaidOfTagFile bag tag = facts.said tag (rw c.as_slice-tag-items.ensures at here) in
    let more = λ (of_tag : List Fault).
    one_item_more (on path_of text_cmp) (OfTag bag) (less_tags bag) c.as_slice-tag-items.result.now
    c.loop-tag.tag-index tag before of_tag
    (rw c.as_slice-tag-items.ensures (items_ascend path_of c.args.facts.now.tags facts.tags.ascending))
    c.loop-tag-test.true c.tag-item.is (c.loop-tag.invariant bag facts) in
    elim c.match-tag.branch [
      | in-Manifest+in_ok-of_manifest+in_ok-append w ↦ rw (w.faults-is, w.in_ok-append.ensures.items)
          (more w.in_ok-of_manifest.of_manifest.items
          (of_manifest_listed bag tag w.in-Manifest.manifest w.in_ok-of_manifest.of_manifest.items w.in-Manifest.is said
          (λ of. w.in_ok-of_manifest.ensures bag facts of)))
      | in_default w ↦ rw (w.faults-is, sym (append-nil before))
          (more [] (no_manifest_listed bag tag w.in_default.not-Manifest))
    ]

pub returns : goal.returns
returns c = λ bag facts deep.
    all_tags_listed bag c.args.facts.now c.loop-tag.faults.items facts deep
    (rw (sym c.as_slice-tag-items.ensures)
    (all_items (OfTag bag) c.as_slice-tag-items.result.now c.loop-tag.tag-index c.loop-tag.faults.items
    c.loop-tag-test.false
    (c.loop-tag.invariant bag facts)))
