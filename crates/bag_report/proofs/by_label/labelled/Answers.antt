use Rattle.bag_report.proofs.Conforming.{◌≡◌, ◌≤◌, ◌∙◌, length, take, true, false, ap, sym, subst, rules, of_calls}
use Rattle.bag_report.proofs.Conforming.{IsPartitionedBy, IsPartitionPoint, always_returns_same}
use Rattle.bag_report.specs.ElementFaults as reported
use Rattle.bag_report.proofs.ByLabel.{is_below, has_label, below_first, label_first, run_is}
use Rattle.bag_report.proofs.by_label.labelled.Goals as goal

pub returns : goal.returns
returns c =
    let sorted = c.args.sorted.now in
    let label = c.args.label.now in
    let i = c.partition_point-before.result in
    let k = c.partition_point-count.result in
    let rest = c.split_at.ensures.back in
    let split : IsPartitionPoint (λ e. is_below label e ≡ true) (λ e. is_below label e ≡ false) sorted i =
    c.partition_point-before.ensures.partitioned (is_below label)
    (always_returns_same _ _ _ (λ a r f called. search (rules, of_calls))) (below_first label sorted c.requires) in
    let part : IsPartitionPoint (λ e. has_label label e ≡ true) (λ e. has_label label e ≡ false)
    c.split_at.result.1.now k =
    c.partition_point-count.ensures.partitioned (has_label label)
    (always_returns_same _ _ _ (λ a r f called. search (rules, of_calls)))
    (subst (IsPartitionedBy (has_label label)) (sym rest) (label_first label sorted c.requires i split)) in
    ap reported.lent (c.split_at-2.ensures.front ∙ ap (take k) rest)
    ∙ run_is label sorted c.requires i split k c.partition_point-before.ensures.bound
    (subst (λ xs. k ≤ length xs) rest c.partition_point-count.ensures.bound)
    (subst (λ xs. IsPartitionPoint (λ e. has_label label e ≡ true) (λ e. has_label label e ≡ false) xs k) rest part)
