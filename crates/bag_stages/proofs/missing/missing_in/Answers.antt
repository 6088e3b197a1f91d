use Rattle.bag_stages.proofs.Common.{◌≡◌, Some, inl, inr, false, true, sym, ◌∙◌, Contains, paths_of}
use Rattle.bag_stages.proofs.ByItem.{no_items}
use Rattle.bag_stages.proofs.ByPath.{all_wrong_paths, one_path_more}
use Rattle.bag_stages.proofs.Sought.{sought_next, whole_rest}
use Rattle.bag_stages.proofs.missing.missing_in.Goals as goal
use Rattle.bag_stages.proofs.missing.missing_in.Goals.{then-not-is_listed+in_ok-about+in_ok-push}
use Rattle.bag_stages.proofs.missing.missing_in.Goals.{else-not-is_listed}

pub loop-entry-init : goal.loop-entry-init
loop-entry-init c = λ ordered listed.
    (rw c.new-faults.ensures.items (no_items _), whole_rest _ (paths_of c.args.files.now) listed)

pub loop-entry-preserved : goal.loop-entry-preserved
loop-entry-preserved c = λ ordered listed.
    let entries = c.args.entries.now in
    let i = c.loop-entry.entry-index in
    let entry = c.entry-item.result in
    let files = paths_of c.args.files.now in
    let so_far = c.loop-entry.invariant ordered listed in
    let next = sought_next (λ e. e.path) entries i entry files _ _ c.seek-is_listed.result.1
    ordered c.loop-entry-test.true c.entry-item.is so_far.1 (c.seek-is_listed.ensures so_far.1.ascending) in (
      one_path_more c.args.code (Some c.args.alg) (λ path. ¬ (Contains files path))
          (λ e. e.path) entries i entry c.loop-entry.faults.items _ ordered c.loop-entry-test.true c.entry-item.is
          so_far.0
          (elim c.if-not-is_listed.branch [
            | then-not-is_listed+in_ok-about+in_ok-push w ↦ inl (
              (λ has. let clash : false ≡ true = sym w.if-not-is_listed.true ∙ next.0.1 has in cc),
              rw (w.faults-is, w.in_ok-push.ensures.items, w.of.ensures, w.in_ok-about.ensures),
            )
            | else-not-is_listed w ↦ inr ((λ lacks. lacks (next.0.0 w.if-not-is_listed.false)), rw w.faults-is)
          ]),
      next.1,
    )

pub returns : goal.returns
returns c = λ ordered listed.
    all_wrong_paths _ _ _ (λ e. e.path) c.args.entries.now c.loop-entry.entry-index c.loop-entry.faults.items
    c.loop-entry-test.false
    (c.loop-entry.invariant ordered listed).0
