use Rattle.bag_stages.proofs.Common.{sym, append-nil, IsFileFault}
use Rattle.bag_stages.proofs.ByItem.{no_items}
use Rattle.bag_stages.proofs.ByPath.{all_paths, one_found_more}
use Rattle.bag_stages.proofs.PartFaults.{less_by_file}
use Rattle.bag_stages.proofs.parts.file_faults.Goals as goal
use Rattle.bag_stages.proofs.parts.file_faults.Goals.{in-Some+in_ok-push, in_default}

pub loop-entry-init : goal.loop-entry-init
loop-entry-init c = λ bag tags sorted. rw c.new-faults.ensures.items (no_items _)

pub loop-entry-preserved : goal.loop-entry-preserved
loop-entry-preserved c = λ bag tags sorted.
    one_found_more (λ entry. entry.path) (λ f. f.path) (IsFileFault bag)
    (less_by_file bag) c.args.files.now c.loop-entry.entry-index c.entry-item.result c.loop-entry.faults.items _
    c.in_ok-fault.field-0 sorted
    c.loop-entry-test.true c.entry-item.is (c.loop-entry.invariant bag tags sorted) (c.in_ok-fault.ensures bag tags)
    (elim c.match-branch-2.branch [
      | in-Some+in_ok-push w ↦ rw (w.faults-is, w.in-Some.is) w.in_ok-push.ensures.items
      | in_default w ↦ rw (w.faults-is, w.in_default.is) (sym (append-nil c.loop-entry.faults.items))
    ])

pub returns : goal.returns
returns c = λ bag tags sorted.
    all_paths (λ e. e.path) (λ f. f.path) (IsFileFault bag) c.args.files.now c.loop-entry.entry-index
    c.loop-entry.faults.items c.loop-entry-test.false
    (c.loop-entry.invariant bag tags sorted)
