use Rattle.bag_stages.proofs.Common.{take, IsListOf, fault_cmp, IfBagRead, AreByLine, IsNamedByNoneAmong}
use Rattle.bag_stages.proofs.fetch.named_by_none.Given as goal

abbrev pub invariant-loop-entry : goal.invariant-loop-entry
invariant-loop-entry l =
    IfBagRead l.facts (λ bag. AreByLine l.entries
    → IsListOf fault_cmp (IsNamedByNoneAmong bag l.path (take l.entry-index l.entries)) l.faults.items)
