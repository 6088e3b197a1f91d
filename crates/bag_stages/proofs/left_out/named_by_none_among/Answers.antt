use Rattle.bag_stages.proofs.Common.{◌≡◌, None, inl, inr, true, false, sym, ◌∙◌, PayloadFileNotListed, items_ascend}
use Rattle.bag_stages.proofs.Common.{IsPathNamedByNone}
use Rattle.bag_stages.proofs.ByItem.{no_items}
use Rattle.bag_stages.proofs.ByPath.{all_wrong_paths, one_path_more}
use Rattle.bag_stages.proofs.PathFaults.{files_named_by_none}
use Rattle.bag_stages.proofs.left_out.named_by_none_among.Goals as goal
use Rattle.bag_stages.proofs.left_out.named_by_none_among.Goals.{then-is_named_by_none+in_ok-about+in_ok-push}
use Rattle.bag_stages.proofs.left_out.named_by_none_among.Goals.{else-is_named_by_none}

pub loop-entry-init : goal.loop-entry-init
loop-entry-init c = λ bag facts deep. rw c.new-faults.ensures.items (no_items _)

pub loop-entry-preserved : goal.loop-entry-preserved
loop-entry-preserved c = λ bag facts deep.
    one_path_more PayloadFileNotListed None (IsPathNamedByNone bag) (λ e. e.path) c.files-entry-items.result.now
    c.loop-entry.entry-index c.entry-item.result c.loop-entry.faults.items _
    (rw c.files-entry-items.ensures (items_ascend (λ e. e.path) c.args.facts.now.listing.files facts.ordered.ascending))
    c.loop-entry-test.true c.entry-item.is
    (c.loop-entry.invariant bag facts deep)
    (elim c.if-is_named_by_none.branch [
      | then-is_named_by_none+in_ok-about+in_ok-push w ↦ inl (
        c.is_named_by_none.ensures.yes bag facts deep w.if-is_named_by_none.true,
        rw (w.faults-is, w.in_ok-push.ensures.items, w.in_ok-about.ensures),
      )
      | else-is_named_by_none w ↦ inr (
        (λ wrong. let clash : false ≡ true = sym w.if-is_named_by_none.false
            ∙ c.is_named_by_none.ensures.no bag facts deep wrong in cc),
        rw w.faults-is,
      )
    ])

pub returns : goal.returns
returns c = λ bag facts deep.
    let files = c.files-entry-items.result.now in
    files_named_by_none bag files c.loop-entry.faults.items (rw c.files-entry-items.ensures facts.listing.files)
    (all_wrong_paths PayloadFileNotListed None (IsPathNamedByNone bag) (λ e. e.path) files c.loop-entry.entry-index
    c.loop-entry.faults.items c.loop-entry-test.false
    (c.loop-entry.invariant bag facts deep))
