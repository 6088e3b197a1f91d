use Rattle.bag_stages.proofs.Common.{◌≡◌, inl, inr, Some, false, true, sym, ◌∙◌, Contains, nat_cmp, on, entry_paths}
use Rattle.bag_stages.proofs.Common.{not_in_manifest, IsNotNamed}
use Rattle.bag_stages.proofs.ByItem.{all_items, no_items, one_tested_more}
use Rattle.bag_stages.proofs.FetchFaults.{less_by_line}
use Rattle.bag_stages.proofs.fetch.left_out_of.Goals as goal
use Rattle.bag_stages.proofs.fetch.left_out_of.Goals.{then-not-names+in_ok-left_out_fault+in_ok-push, else-not-names}

pub loop-entry-init : goal.loop-entry-init
loop-entry-init c = λ ordered sorted.
    let m = c.args.manifest.now in rw c.new-faults.ensures.items (no_items (IsNotNamed c.args.path.now m.alg m.entries))

pub loop-entry-preserved : goal.loop-entry-preserved
loop-entry-preserved c = λ ordered sorted.
    let path = c.args.path.now in
    let m = c.args.manifest.now in
    one_tested_more (on (λ e. e.line) nat_cmp) (not_in_manifest path (Some m.alg)) (λ e.
    ¬ (Contains (entry_paths m.entries) e.path))
    (less_by_line path (Some m.alg)) c.args.entries.now c.loop-entry.entry-index c.entry-item.result
    c.loop-entry.faults.items _ sorted c.loop-entry-test.true c.entry-item.is (c.loop-entry.invariant ordered sorted)
    (elim c.if-not-names.branch [
      | then-not-names+in_ok-left_out_fault+in_ok-push w ↦ inl (
        (λ has. let clash : false ≡ true = sym w.if-not-names.true ∙ (c.names.ensures ordered).1 has in cc),
        rw (w.faults-is, w.in_ok-push.ensures.items, w.in_ok-left_out_fault.ensures),
      )
      | else-not-names w ↦ inr ((λ lacks. lacks ((c.names.ensures ordered).0 w.if-not-names.false)), rw w.faults-is)
    ])

pub returns : goal.returns
returns c = λ ordered sorted.
    let m = c.args.manifest.now in
    all_items (IsNotNamed c.args.path.now m.alg m.entries) c.args.entries.now c.loop-entry.entry-index
    c.loop-entry.faults.items c.loop-entry-test.false
    (c.loop-entry.invariant ordered sorted)
