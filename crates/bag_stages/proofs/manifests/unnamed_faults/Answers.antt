use Rattle.bag_stages.proofs.Common.{sym, append-nil, IsUnnamedFault}
use Rattle.bag_stages.proofs.ByItem.{no_items}
use Rattle.bag_stages.proofs.ByPath.{all_paths, one_found_more}
use Rattle.bag_stages.proofs.ManifestFaults.{less_unnamed}
use Rattle.bag_stages.proofs.manifests.unnamed_faults.Goals as goal
use Rattle.bag_stages.proofs.manifests.unnamed_faults.Goals.{in-Some+in_ok-push, in_default}

pub loop-entry-init : goal.loop-entry-init
loop-entry-init c = λ ordered sorted. rw c.new-faults.ensures.items (no_items _)

pub loop-entry-preserved : goal.loop-entry-preserved
loop-entry-preserved c = λ ordered sorted.
    let m = c.args.manifest.now in
    one_found_more (λ entry. entry.path) (λ f. f.detail) (IsUnnamedFault c.args.path.now m.alg m.entries)
    (less_unnamed c.args.path.now m.alg m.entries) c.args.files.now c.loop-entry.entry-index c.entry-item.result
    c.loop-entry.faults.items _ c.in_ok-fault.field-0 sorted c.loop-entry-test.true c.entry-item.is
    (c.loop-entry.invariant ordered sorted) (c.in_ok-fault.ensures ordered)
    (elim c.match-branch-2.branch [
      | in-Some+in_ok-push w ↦ rw (w.faults-is, w.in-Some.is) w.in_ok-push.ensures.items
      | in_default w ↦ rw (w.faults-is, w.in_default.is) (sym (append-nil c.loop-entry.faults.items))
    ])

pub returns : goal.returns
returns c = λ ordered sorted.
    all_paths (λ e. e.path) (λ f. f.detail) _ c.args.files.now c.loop-entry.entry-index c.loop-entry.faults.items
    c.loop-entry-test.false (c.loop-entry.invariant ordered sorted)
