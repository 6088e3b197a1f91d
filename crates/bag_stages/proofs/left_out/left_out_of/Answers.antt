use Rattle.bag_stages.proofs.Common.{◌≡◌, Some, inl, inr, false, true, sym, ◌∙◌, PayloadFileNotListed, entry_paths}
use Rattle.bag_stages.proofs.Common.{items_ascend, paths_ascend, IsPathLeftOutOf}
use Rattle.bag_stages.proofs.ByItem.{no_items}
use Rattle.bag_stages.proofs.ByPath.{all_wrong_paths, one_path_more}
use Rattle.bag_stages.proofs.HasLists.{false_unless}
use Rattle.bag_stages.proofs.Sought.{sought_next, whole_rest}
use Rattle.bag_stages.proofs.left_out.left_out_of.Goals as goal
use Rattle.bag_stages.proofs.left_out.left_out_of.Goals.{then-is_left_out+in_ok-fault+in_ok-push, else-is_left_out}

pub loop-entry-init : goal.loop-entry-init
loop-entry-init c = λ ordered ascending.
    let entries = c.args.manifest.now.entries in (
      rw c.new-faults.ensures.items (no_items _),
      rw c.as_slice-rest.ensures (whole_rest _ (entry_paths entries) (paths_ascend (λ e. e.path) entries ordered)),
    )

pub loop-entry-preserved : goal.loop-entry-preserved
loop-entry-preserved c = λ ordered ascending.
    let m = c.args.manifest.now in
    let files = c.args.files.now in
    let i = c.loop-entry.entry-index in
    let entry = c.entry-item.result in
    let in_order = items_ascend (λ e. e.path) files ascending in
    let so_far = c.loop-entry.invariant ordered ascending in
    let next = sought_next (λ e. e.path) files i entry (entry_paths m.entries) _ _ c.seek-is_named.result.1
    in_order c.loop-entry-test.true c.entry-item.is so_far.1 (c.seek-is_named.ensures so_far.1.ascending) in (
      one_path_more PayloadFileNotListed (Some m.alg) (IsPathLeftOutOf m.entries)
          (λ e. e.path) files i entry c.loop-entry.faults.items _ in_order c.loop-entry-test.true c.entry-item.is
          so_far.0
          (elim c.if-is_left_out.branch [
            | then-is_left_out+in_ok-fault+in_ok-push
                w ↦ (let is = c.is_left_out.ensures.0 w.if-is_left_out.true in
                inl (
                  (is.0, λ has. let clash : false ≡ true = sym is.1 ∙ next.0.1 has in cc),
                  rw (w.faults-is, w.in_ok-push.ensures.items, w.of.ensures, w.in_ok-fault.ensures),
                ))
            | else-is_left_out w ↦ inr (
              (λ wrong. let clash : false ≡ true = sym w.if-is_left_out.false
                  ∙ c.is_left_out.ensures.1 (wrong.0, false_unless _ (λ e. wrong.1 (next.0.0 e))) in cc),
              rw w.faults-is,
            )
          ]),
      next.1,
    )

pub returns : goal.returns
returns c = λ ordered ascending.
    all_wrong_paths _ _ _ (λ e. e.path) c.args.files.now c.loop-entry.entry-index c.loop-entry.faults.items
    c.loop-entry-test.false
    (c.loop-entry.invariant ordered ascending).0
