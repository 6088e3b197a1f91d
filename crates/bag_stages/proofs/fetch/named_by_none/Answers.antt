use Rattle.bag_stages.proofs.Common.{◌≡◌, inl, inr, None, false, true, sym, ◌∙◌, nat_cmp, on, not_in_manifest}
use Rattle.bag_stages.proofs.Common.{IsNamedBySome, IsNamedByNone}
use Rattle.bag_stages.proofs.ByItem.{all_items, no_items, one_tested_more}
use Rattle.bag_stages.proofs.FetchFaults.{less_by_line}
use Rattle.bag_stages.proofs.fetch.named_by_none.Goals as goal
use Rattle.bag_stages.proofs.fetch.named_by_none.Goals.{then-not-is_named+in_ok-left_out_fault+in_ok-push}
use Rattle.bag_stages.proofs.fetch.named_by_none.Goals.{else-not-is_named}

pub loop-entry-init : goal.loop-entry-init
loop-entry-init c = λ bag facts deep sorted.
    rw c.new-faults.ensures.items (no_items (IsNamedByNone bag c.args.path.now))

pub loop-entry-preserved : goal.loop-entry-preserved
loop-entry-preserved c = λ bag facts deep sorted.
    let path = c.args.path.now in
    one_tested_more (on (λ e. e.line) nat_cmp) (not_in_manifest path None) (λ e. ¬ (IsNamedBySome bag e.path))
    (less_by_line path None) c.args.entries.now c.loop-entry.entry-index c.entry-item.result
    c.loop-entry.faults.items _ sorted c.loop-entry-test.true c.entry-item.is
    (c.loop-entry.invariant bag facts deep sorted)
    (elim c.if-not-is_named.branch [
      | then-not-is_named+in_ok-left_out_fault+in_ok-push w ↦ inl (
        (λ some. let clash : false ≡ true = sym w.if-not-is_named.true
            ∙ c.is_named.ensures.unnamed bag facts deep some in cc),
        rw (w.faults-is, w.in_ok-push.ensures.items, w.in_ok-left_out_fault.ensures),
      )
      | else-not-is_named w ↦ inr
          ((λ none. none (c.is_named.ensures.named bag facts deep w.if-not-is_named.false)), rw w.faults-is)
    ])

pub returns : goal.returns
returns c = λ bag facts deep sorted.
    all_items (IsNamedByNone bag c.args.path.now) c.args.entries.now c.loop-entry.entry-index c.loop-entry.faults.items
    c.loop-entry-test.false
    (c.loop-entry.invariant bag facts deep sorted)
